use mathlib.Core.Path.{refl}
use Rattle.encoding.specs.Shows.{counted}
use Rattle.encoding.proofs.Steps.{roomy, write_spilt, write_new}
use Rattle.encoding.proofs.writing.write.Goals as goal

pub returns-then-n-eq-CLAUSES : goal.returns-then-n-eq-CLAUSES
returns-then-n-eq-CLAUSES c = write_spilt (counted c.args.c) _ c.args.clauses.now (roomy c.args.c) _ refl c.spilt.ensures c.if-n-eq-CLAUSES.true

pub returns : goal.returns
returns c = write_new (counted c.args.c) _ c.args.clauses.now (roomy c.args.c) _ refl c.with_clause.ensures c.if-n-eq-CLAUSES.false c.requires _ c.store.ensures
