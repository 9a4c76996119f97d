-- What always holds of an assignment, in the words of the proofs: its clauses and their links are over as many variables as there are marks, and what a
-- change keeps. Assumes nothing.
use mathlib.Core.Path.{◌≡◌, refl, sym, ap, subst, ◌∙◌}
use mathlib.Core.Bool.{Bool}
use mathlib.Core.List.{List}
use Prim.Native.Nat.{ℕ, suc, ◌+◌, ◌-◌, ◌*◌, ◌≤◌, ◌<◌}
use native.Mathlib.Omega.{arith}
use lib.IntN.{pos}
use lib.ListN.{length, get_or}
use Rattle.clauses.specs.Clause.{triples}
use Rattle.search.specs.Models.{ClausesIn}
use Rattle.propagation.specs.Ready.{Ready}
use Rattle.propagation.specs.Judging.{Shown, Mirrors, clause_at}
use Rattle.propagation.specs.Propagation.{Holding, Heard}
use Rattle.propagation.specs.Links.{head_of}
use Rattle.propagation.specs.Assigned.{Keeps, Heeds}
use Rattle.propagation.proofs.Latest.{latest_le}
use Rattle.propagation.proofs.Triples.{triples_in}
use Rattle.propagation.specs.declared.assignment.Assignment.{Assignment}
use Rattle.propagation.specs.declared.formula.Formula.{Formula}

pub shown_of : (F : Formula) {a w : List ℕ} → length a ≡ F.variables → Mirrors a w → Shown F.clauses.now F.many a w
shown_of F e M = record { ready = subst (λ (k : ℕ). Ready F.clauses.now F.many k) (sym e) F.ready; mirrors = M }

-- from a place of a clause number its link leads down
pub lower : (F : Formula) (p : ℕ) → 0 < p → p ≤ length F.clauses.now → get_or F.links.now (2 * F.variables + p) 0 < p
lower F p some low =
    let cl = F.clauses.now in
    let q = p - 1 in
    let is : p ≡ suc q = omega (arith, some) in
    omega (arith, ap (λ (n : ℕ). get_or F.links.now (2 * F.variables + n) 0) is, F.linked.before q (omega (arith, some, low)), latest_le cl (head_of (get_or cl q (pos 0))) q, some)

module _ (s : Assignment) where
  pub shown_by : Shown s.formula.clauses.now s.formula.many s.values.now s.truth.now
  shown_by = shown_of s.formula s.over s.mirrors

  pub inside_by : ClausesIn (length s.values.now) (triples s.formula.clauses.now)
  inside_by = triples_in (length s.values.now) s.formula.clauses.now shown_by.ready.range

pub keeps_none : (s : Assignment) → Keeps s s
keeps_none s = record { formula = refl; values = refl; truth = refl; trail = refl; long = refl }

pub keeps_then : {s t u : Assignment} → Keeps s t → Keeps t u → Keeps s u
keeps_then K L = record { formula = L.formula ∙ K.formula; values = L.values ∙ K.values; truth = L.truth ∙ K.truth; trail = L.trail ∙ K.trail; long = L.long ∙ K.long }

-- what was heeded later, of the clauses that an earlier assignment has
pub heeded_at : {s₀ s : Assignment} (s' : Assignment) → Keeps s₀ s → {b : Bool} (i : ℕ) → Heeds (λ c. c ≡ clause_at s.formula.clauses.now i) s s' b
    → Heard s₀.formula.clauses.now (λ c. c ≡ clause_at s₀.formula.clauses.now i) s.top s.values.now s.trail.now s'.top s'.values.now s'.trail.now b
heeded_at {s₀} {s} s' K {b} i H =
    subst (λ (F : Formula). Heard F.clauses.now (λ c. c ≡ clause_at F.clauses.now i) s.top s.values.now s.trail.now s'.top s'.values.now s'.trail.now b) K.formula H

pub visited_at : {s₀ s : Assignment} (s' : Assignment) → Keeps s₀ s → {b : Bool} (x : ℕ) → Heeds (Holding s.formula.clauses.now x) s s' b
    → Heard s₀.formula.clauses.now (Holding s₀.formula.clauses.now x) s.top s.values.now s.trail.now s'.top s'.values.now s'.trail.now b
visited_at {s₀} {s} s' K {b} x H =
    subst (λ (F : Formula). Heard F.clauses.now (Holding F.clauses.now x) s.top s.values.now s.trail.now s'.top s'.values.now s'.trail.now b) K.formula H
