-- The invariant: p is the literal's latest F.clauses.nowause among the first k, and those after were counted.
use mathlib.Core.Path.{◌≡◌}
use mathlib.Core.List.{List}
use Prim.Native.Nat.{ℕ, ◌+◌, ◌*◌, ◌≤◌}
use lib.ListN.{length, take}
use lib.IntN.{ℤ}
use Rattle.clauses.specs.Clause.{triples}
use Rattle.propagation.specs.Links.{made, head_of, latest}
use Rattle.propagation.specs.Judging.{Shows}
use Rattle.propagation.specs.declared.formula.Formula.{Formula}
use Rattle.propagation.specs.Unmet.{unmet_with}
use Rattle.propagation.proofs.marks.unmet_with.Given as goal

pub record Way (F : Formula) (w : List ℕ) (l : ℤ) (p many : ℕ) : Type 0 where
  pub k : ℕ
  pub low : 3 * k ≤ length F.clauses.now
  pub is : p ≡ latest F.clauses.now (head_of l) (3 * k)
  pub sum : (a : List ℕ) → Shows F w a → many + unmet_with a l (take k (triples F.clauses.now)) ≡ unmet_with a l (triples F.clauses.now)

abbrev pub invariant-loop-j : goal.invariant-loop-j
invariant-loop-j l = Way l.formula l.truth (made l.i l.m) l.j-iterator.place l.many × (l.j-iterator.formula ≡ l.formula)
