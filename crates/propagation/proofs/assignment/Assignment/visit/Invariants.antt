use mathlib.Core.Path.{◌≡◌}
use Prim.Native.Nat.{ℕ, ◌+◌, ◌*◌, ◌≤◌}
use lib.ListN.{length}
use Rattle.propagation.specs.Links.{latest}
use Rattle.propagation.specs.Judging.{clause_at}
use Rattle.propagation.specs.Propagation.{Calmed, Moved}
use Rattle.propagation.specs.Assigned.{Keeps}
use Rattle.propagation.specs.declared.assignment.Assignment.{Assignment}
use Rattle.propagation.proofs.Latest.{Has}
use Rattle.propagation.proofs.assignment.Assignment.visit.Given as goal

pub record Way (s₀ s : Assignment) (e p : ℕ) : Type 0 where
  pub keeps : Keeps s₀ s
  pub k : ℕ
  pub low : 3 * k ≤ length s₀.formula.clauses.now
  pub stands : p ≡ latest s₀.formula.clauses.now (e + 1) (3 * k)
  pub moved : Moved s₀.formula.clauses.now s₀.top s₀.values.now s₀.trail.now s.top s.values.now s.trail.now
  pub heard : (j : ℕ) → k ≤ j → 3 * j + 3 ≤ length s₀.formula.clauses.now → Has s₀.formula.clauses.now (e + 1) j
      → Calmed (clause_at s₀.formula.clauses.now j) s.values.now s.trail.now s₀.top s.top

abbrev pub invariant-loop-i : goal.invariant-loop-i
invariant-loop-i l = Way l.initial.self l.self l.e l.i-iterator.place × (l.i-iterator.formula ≡ l.initial.self.formula)
