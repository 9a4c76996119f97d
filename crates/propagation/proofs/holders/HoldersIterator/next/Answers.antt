-- The place before is lower.
use Prim.Native.Nat.{◌<◌}
use native.Mathlib.Omega.{arith}
use Rattle.propagation.proofs.States.{lower}
use Rattle.propagation.proofs.holders.HoldersIterator.next.Goals as goal
use Rattle.propagation.proofs.holders.HoldersIterator.next.Goals.{After-from-self}

module _ (c : After-from-self) where
  less : c.from-self.result < c.args.self.now.place
  less =
      let s = c.args.self.now in
      omega (arith, c.from-self.ensures, lower s.formula s.place (omega (arith, c.if-self-eq0.false)) s.inside)

pub invariant_of-self : goal.invariant_of-self
invariant_of-self c = record { inside = omega (arith, less (goal.at.invariant_of-self c).After-from-self, c.args.self.now.inside) }

pub returns-clause-goes : goal.returns-clause-goes
returns-clause-goes c = record { on = λ f. (tt, tt, less (goal.at.returns-clause-goes c).After-from-self); keeps = tt; rests = λ f. tt }
