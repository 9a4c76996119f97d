use mathlib.Core.Path.{◌≡◌, ap, ◌∙◌}
use Prim.Native.Nat.{ℕ, ◌<◌}
use native.Mathlib.Omega.{arith}
use lib.ListN.{length, get_or}
use mir.Facts.{to_z-of_z}
use Rattle.search.specs.Search.{place, mark}
use Rattle.search.proofs.Marks.{zero-place, place_in}
use Rattle.propagation.proofs.Literals.{mark-is}
use Rattle.propagation.proofs.assignment.Assignment.make_true.Goals as goal
use Rattle.propagation.proofs.assignment.Assignment.make_true.Goals.{After-mark-m}

-- the variable's place and its mark
module _ (c : After-mark-m) where
  abbrev i : ℕ
  i = c.place-i.result

  abbrev m : ℕ
  m = c.mark-m.result

  placed : i ≡ place c.args.l
  placed = c.place-i.ensures ∙ ap place (to_z-of_z c.ranges.l)

  marked : m ≡ mark c.args.l
  marked = c.mark-m.ensures ∙ ap mark (to_z-of_z c.ranges.l)

  in-values : i < length c.args.self.now.values.now
  in-values = omega (arith, placed, place_in c.args.self.now.values.now c.args.l c.requires.1 c.requires.0)

  small : i < 4096
  small = omega (arith, in-values, c.args.self.now.mirrors.small)

  some : 0 < m
  some = omega (arith, marked, (mark-is c.args.l).0)

  low : m < 3
  low = omega (arith, marked, (mark-is c.args.l).1)

pub entry-requires : goal.entry-requires
entry-requires c = let d = (goal.at.entry-requires c).After-mark-m in (omega (arith, small d), some d, low d)

pub assign-requires : goal.assign-requires
assign-requires c = (
  in-values (goal.at.assign-requires c).After-mark-m,
  ap (λ (k : ℕ). get_or c.args.self.now.values.now k 0) (placed (goal.at.assign-requires c).After-mark-m) ∙ zero-place c.args.self.now.values.now c.args.l c.requires.1,
  some (goal.at.assign-requires c).After-mark-m,
  low (goal.at.assign-requires c).After-mark-m,
)
