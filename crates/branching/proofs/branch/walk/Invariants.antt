-- The invariant: the run is as many nodes as were counted, and then the whole of what is left to do; and the number of unmet clauses is known, as it is
-- saved for every pending branch.
use mathlib.Core.Path.{◌≡◌}
use mathlib.Core.List.{List}
use Prim.Native.Nat.{ℕ}
use lib.ListN.{length}
use Rattle.clauses.specs.Clause.{triples}
use Rattle.search.specs.Search.{plus}
use Rattle.propagation.specs.Trail.{pending, AllSaved}
use Rattle.propagation.specs.Propagation.{Started}
use Rattle.propagation.specs.Assigned.{Keeps}
use Rattle.propagation.specs.declared.assignment.Assignment.{Assignment}
use Rattle.branching.specs.Nodes.{node_of, whole}
use Rattle.branching.proofs.branch.walk.Given as goal

pub record Way (s₀ s : Assignment) (sv : List ℕ) (count : ℕ) : Type 0 where
  pub keeps : Keeps s₀ s
  pub long : length sv ≡ length s.trail.now
  pub is : node_of (triples s₀.formula.clauses.now) s₀.values.now ≡ plus count (whole s₀.formula.clauses.now s.values.now s.trail.now s.top)
  pub started : Started s₀.formula.clauses.now s.values.now s.trail.now s.top
  pub saved : AllSaved s₀.formula.clauses.now sv (pending s.values.now s.trail.now s.top)

abbrev pub invariant-loop-count : goal.invariant-loop-count
invariant-loop-count l = Way l.initial.node l.node l.saved l.count
