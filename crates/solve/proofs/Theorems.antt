-- What the numbers of `rulebook_search` mean, from the theorems on the search, and that its promise admits a single outcome. Assumes nothing.
use mathlib.Core.Path.{◌≡◌, refl, sym, ap, ◌∙◌}
use mathlib.Core.Bool.{Bool, true, false}
use mathlib.Core.Logic.{◌↔◌}
use mathlib.Core.List.{List}
use Prim.Native.Nat.{ℕ, ◌<◌}
use native.Mathlib.Omega.{arith}
use lib.IntN.{ℤ}
use lib.ListN.{length}
use Rattle.ground.proofs.Tests.{true-T}
use Rattle.clauses.specs.Clause.{Assignment, triples, valued}
use Rattle.search.specs.Search.{nodes}
use Rattle.branching.specs.Answered.{number_of, answer, Answered}
use Rattle.search.specs.Models.{Satisfied}
use Rattle.branching.specs.declared.Outcome.{Outcome}
use Rattle.branching.specs.declared.Outcome.TheVariants.{Yes, No, Stopped}
use Rattle.branching.proofs.Promise as promise
use Rattle.solve.specs.Solved.{fits, searched, Solved}
use Rattle.solve.proofs.Fitting.{fits-ready}

-- ---- what does not fit is refused
module _ (cl : List ℤ) (a t : List ℕ) (budget : ℕ) where
  pub refusal : fits cl (length a) (length t) ≡ false → Solved cl a t budget a t 10
  refusal e = record { number = rw e; leaves = rw e; clears = rw e }

-- ---- what each number says
number-yes : (o : Outcome) → number_of o ≡ 1 → (n : ℕ) × (o ≡ Yes n)
number-yes (Yes n) e = (n, refl)
number-yes (No n) e = absurd (omega arith)
number-yes (Stopped n) e = absurd (omega arith)

number-no : (o : Outcome) → number_of o ≡ 2 → (n : ℕ) × (o ≡ No n)
number-no (Yes n) e = absurd (omega arith)
number-no (No n) e = (n, refl)
number-no (Stopped n) e = absurd (omega arith)

number-stopped : (o : Outcome) → number_of o ≡ 3 → (n : ℕ) × (o ≡ Stopped n)
number-stopped (Yes n) e = absurd (omega arith)
number-stopped (No n) e = absurd (omega arith)
number-stopped (Stopped n) e = (n, refl)

module _ {cl : List ℤ} {a t : List ℕ} {budget : ℕ} {a' t' : List ℕ} {r : ℕ} (S : Solved cl a t budget a' t' r) where
  abbrev o : Outcome
  o = answer budget (searched cl a)

  fitting : (r ≡ 10 → ⊥) → fits cl (length a) (length t) ≡ true
  fitting h = by (fits cl (length a) (length t)) refl
    where
      by : (b : Bool) → fits cl (length a) (length t) ≡ b → b ≡ true
      by true e = refl
      by false e = absurd (h (S.number ∙ rw e))

  answered : fits cl (length a) (length t) ≡ true → Answered cl a t budget a' t' o × (r ≡ number_of o)
  answered e = (record { gives = refl; leaves = S.leaves ∙ rw e; clears = S.clears ∙ rw e }, S.number ∙ rw e)

  -- after 1 the values satisfy every clause
  pub yes_satisfied : r ≡ 1 → Satisfied (valued a') (triples cl)
  yes_satisfied q =
      let s = answered (fitting (λ h. omega arith)) in
      promise.yes-answer_satisfied s.0 (number-yes o (sym s.1 ∙ q)).1

  -- after 2 no assignment does
  pub no_satisfied : r ≡ 2 → (ν : Assignment) → Satisfied ν (triples cl) → ⊥
  no_satisfied q =
      let e = fitting (λ h. omega arith) in
      let s = answered e in
      promise.no-answer_satisfied s.0 (fits-ready cl (length a) (length t) (true-T _ e)).0 (number-no o (sym s.1 ∙ q)).1

  -- 3 is given exactly if the clauses and buffers fit and C is above the budget
  pub stopped_exactly : (r ≡ 3) ↔ ((fits cl (length a) (length t) ≡ true) × (budget < nodes (searched cl a)))
  stopped_exactly = (λ q. stops q (fitting (λ h. omega arith)), λ h. late h.1 (answered h.0))
    where
      stops : r ≡ 3 → fits cl (length a) (length t) ≡ true → (fits cl (length a) (length t) ≡ true) × (budget < nodes (searched cl a))
      stops q e = let s = answered e in (e, (promise.stopped-is s.0 (number-stopped o (sym s.1 ∙ q)).1).1)

      late : budget < nodes (searched cl a) → Answered cl a t budget a' t' o × (r ≡ number_of o) → r ≡ 3
      late h s = s.1 ∙ ap number_of ((promise.stopped_exactly s.0).1 h)

-- the promise admits a single outcome
pub single : {cl : List ℤ} {a t : List ℕ} {budget : ℕ} {a₁ t₁ a₂ t₂ : List ℕ} {r₁ r₂ : ℕ}
    → Solved cl a t budget a₁ t₁ r₁ → Solved cl a t budget a₂ t₂ r₂ → (r₁ ≡ r₂) × (a₁ ≡ a₂) × (t₁ ≡ t₂)
single S R = (S.number ∙ sym R.number, S.leaves ∙ sym R.leaves, S.clears ∙ sym R.clears)
