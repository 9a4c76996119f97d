use native.Mathlib.Omega.{arith}
use mathlib.Core.Path.{ap, ◌∙◌}
use Rattle.records.specs.Table.{numbers_of}
use Rattle.records.proofs.Tables.{length-numbers_of}
use Rattle.encoding.specs.Limits.{max_states}
use Rattle.build.proofs.Filling.{numbers_of_cleared}
use Rattle.build.proofs.clear_all.Goals as goal

pub clear-requires : goal.clear-requires
clear-requires c = omega (arith, c.requires.0, length-numbers_of c.args.states.now)

pub returns : goal.returns
returns c =
    record {
      states = ap numbers_of c.clear.ensures ∙ numbers_of_cleared max_states c.args.states.now;
      words = c.clear-2.ensures;
      clauses = c.clear-3.ensures;
    }
