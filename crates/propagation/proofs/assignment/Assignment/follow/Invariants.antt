use Prim.Native.Nat.{ℕ, ◌+◌, ◌-◌, ◌≤◌}
use Rattle.search.specs.Search.{zeros}
use Rattle.propagation.specs.Propagation.{Moved, Queue}
use Rattle.propagation.specs.Assigned.{Keeps}
use Rattle.propagation.specs.declared.assignment.Assignment.{Assignment}
use Rattle.propagation.proofs.assignment.Assignment.follow.Given as goal

pub record Way (s₀ s : Assignment) (head : ℕ) : Type 0 where
  pub keeps : Keeps s₀ s
  pub low : head ≤ s.top
  pub moved : Moved s₀.formula.clauses.now s₀.top s₀.values.now s₀.trail.now s.top s.values.now s.trail.now
  pub queue : Queue s₀.formula.clauses.now s.values.now s.trail.now head s.top

abbrev pub invariant-loop-head : goal.invariant-loop-head
invariant-loop-head l = Way l.initial.self l.self l.head

abbrev pub decreases-loop-head : goal.decreases-loop-head
decreases-loop-head l = l.self.top + zeros l.self.values.now - l.head
