use native.Mathlib.Omega.{arith}
use Rattle.records.proofs.Tables.{length-numbers_of}
use Rattle.encoding.proofs.Indexing.{indexed_start}
use Rattle.build.proofs.states.run.Goals as goal

pub grow-requires-clause-indexed : goal.grow-requires-clause-indexed
grow-requires-clause-indexed c = indexed_start c.args.words.now

pub grow-requires-clause-long : goal.grow-requires-clause-long
grow-requires-clause-long c = omega (arith, c.requires.long.0, length-numbers_of c.args.states.now)
