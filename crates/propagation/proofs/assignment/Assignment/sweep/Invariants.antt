use Prim.Native.Nat.{ℕ, ◌<◌}
use Rattle.propagation.specs.Judging.{clause_at}
use Rattle.propagation.specs.Propagation.{Calmed, Moved}
use Rattle.propagation.specs.Assigned.{Keeps}
use Rattle.propagation.specs.declared.assignment.Assignment.{Assignment}
use Rattle.propagation.proofs.assignment.Assignment.sweep.Given as goal

pub record Way (s₀ s : Assignment) (i : ℕ) : Type 0 where
  pub keeps : Keeps s₀ s
  pub moved : Moved s₀.formula.clauses.now s₀.top s₀.values.now s₀.trail.now s.top s.values.now s.trail.now
  pub heard : (j : ℕ) → j < i → Calmed (clause_at s₀.formula.clauses.now j) s.values.now s.trail.now s₀.top s.top

abbrev pub invariant-loop-i : goal.invariant-loop-i
invariant-loop-i l = Way l.initial.self l.self l.i
