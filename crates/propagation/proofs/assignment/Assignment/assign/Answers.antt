-- A mark more takes one place of the trail's room.
use mathlib.Core.Path.{◌≡◌, ap}
use Prim.Native.Nat.{ℕ, suc, ◌-◌}
use native.Mathlib.Omega.{arith}
use lib.ListN.{set, length-set}
use Rattle.search.specs.Search.{zeros}
use Rattle.search.proofs.Marks.{zeros-set}
use Rattle.propagation.proofs.assignment.Assignment.assign.Goals as goal
use Rattle.propagation.proofs.assignment.Assignment.assign.Goals.{Start}

module _ (c : Start) where
  fewer : suc (zeros (set c.args.self.now.values.now c.args.i c.args.m)) ≡ zeros c.args.self.now.values.now
  fewer =
      let p = c.requires in
      let a = c.args.self.now.values.now in
      let e : c.args.m ≡ suc (c.args.m - 1) = omega (arith, p.2) in
      omega (arith, zeros-set a c.args.i (c.args.m - 1) p.0 p.1, ap (λ (k : ℕ). zeros (set a c.args.i k)) e)

pub bounds-self-self : goal.bounds-self-self
bounds-self-self c = omega (arith, c.args.self.now.room, fewer (goal.at.bounds-self-self c).Start)

pub invariant_of-self-2-clause-room : goal.invariant_of-self-2-clause-room
invariant_of-self-2-clause-room c =
    let s = c.args.self.now in
    omega (arith, s.room, fewer (goal.at.invariant_of-self-2-clause-room c).Start, ap zeros c.assign-self.ensures.0, length-set s.trail.now s.top c.args.e)
