use mathlib.Core.Path.{ap, ◌∙◌}
use Prim.Native.Nat.{ℕ, ◌<◌}
use native.Mathlib.Omega.{arith}
use lib.ListN.{length, get_or}
use Rattle.search.proofs.Marks.{lowest-is}
use Rattle.propagation.proofs.Unmet.{unmet_most}
use Rattle.branching.proofs.branch.branch.Goals as goal
use Rattle.branching.proofs.branch.branch.Goals.{After-lowest-i}

-- the variable that is branched on
module _ (L : After-lowest-i) where
  in-values : L.lowest-i.result < length L.args.node.now.values.now
  in-values = omega (arith, L.lowest-i.ensures, (lowest-is L.args.node.now.values.now L.requires.0).0)

  small : L.lowest-i.result < 4096
  small = omega (arith, in-values, L.args.node.now.mirrors.small)

pub overflow_cast-saved : goal.overflow_cast-saved
overflow_cast-saved c =
    let s = c.args.node.now in
    omega (arith, s.counts, unmet_most s.formula.clauses.now s.formula.many s.formula.ready.long s.values.now, s.formula.ready.few)

pub entry-requires : goal.entry-requires
entry-requires c = (omega (arith, small (goal.at.entry-requires c).After-lowest-i), omega arith, omega arith)

pub overflow_add-entry : goal.overflow_add-entry
overflow_add-entry c = omega (arith, c.entry.ensures, small (goal.at.overflow_add-entry c).After-lowest-i)

pub assign-requires : goal.assign-requires
assign-requires c =
    let s = c.args.node.now in (
      in-values (goal.at.assign-requires c).After-lowest-i,
      ap (λ (k : ℕ). get_or s.values.now k 0) c.lowest-i.ensures ∙ (lowest-is s.values.now c.requires.0).1,
      omega arith,
      omega arith,
    )
