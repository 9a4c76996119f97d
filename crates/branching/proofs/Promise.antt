-- The theorems on the promise `Answered` of the search over lent buffers: what it asks, what each answer says, and that it admits a single outcome.
-- Assumes nothing.
use mathlib.Core.Path.{◌≡◌, sym, ◌∙◌, subst}
use mathlib.Core.Logic.{◌↔◌}
use mathlib.Core.List.{List, map}
use Prim.Native.Nat.{ℕ, ◌%◌, ◌≤◌, ◌<◌}
use lib.ListN.{length, replicate}
use lib.IntN.{ℤ}
use Rattle.clauses.specs.Clause.{Assignment, triples, valued}
use Rattle.search.specs.Search.{sat, unsat, run, nodes}
use Rattle.propagation.specs.Ready.{Ready}
use Rattle.branching.specs.Answered.{Answered}
use Rattle.search.specs.Models.{ClausesIn, Satisfied}
use Rattle.branching.specs.declared.Outcome.{Outcome}
use Rattle.branching.specs.declared.Outcome.TheVariants.{Yes, No, Stopped}
use Rattle.branching.proofs.Answers.{Means, answered-means, too-late}
use Rattle.propagation.proofs.Triples.{triples_in}
use Rattle.search.proofs.Theorems.{yes-values_satisfied, no_satisfied}

-- what it asks of the clause numbers
pub ready_in : {cl : List ℤ} {many v : ℕ} → Ready cl many v → ClausesIn v (triples cl)
ready_in {cl} {many} {v} R = triples_in v cl R.range

-- what each answer says
module _ {cl : List ℤ} {a t : List ℕ} {budget : ℕ} {a' t' : List ℕ} {r : Outcome} (A : Answered cl a t budget a' t' r) where
  pub yes-is : {n : ℕ} → r ≡ Yes n → (b : List ℕ) × ((run (length a) (triples cl) ≡ sat b n) × (n ≤ budget) × (a' ≡ map (λ x. x % 2) b))
  yes-is {n} e = subst (λ (x : Outcome). Means budget (length a) (run (length a) (triples cl)) a' x) e (answered-means A)

  pub no-is : {n : ℕ} → r ≡ No n → (run (length a) (triples cl) ≡ unsat n) × (n ≤ budget) × (a' ≡ replicate (length a) 0)
  no-is {n} e = subst (λ (x : Outcome). Means budget (length a) (run (length a) (triples cl)) a' x) e (answered-means A)

  pub stopped-is : {n : ℕ} → r ≡ Stopped n → (n ≡ budget) × (budget < nodes (run (length a) (triples cl))) × (a' ≡ replicate (length a) 0)
  stopped-is {n} e = subst (λ (x : Outcome). Means budget (length a) (run (length a) (triples cl)) a' x) e (answered-means A)

  pub stopped_exactly : (r ≡ Stopped budget) ↔ (budget < nodes (run (length a) (triples cl)))
  stopped_exactly = (λ e. (stopped-is e).1, λ h. A.gives ∙ (too-late budget (length a) (run (length a) (triples cl)) h).0)

  -- the values of a yes satisfy every clause, and at a no nothing does
  pub yes-answer_satisfied : {n : ℕ} → r ≡ Yes n → Satisfied (valued a') (triples cl)
  yes-answer_satisfied e =
      let y = yes-is e in
      subst (λ (x : List ℕ). Satisfied (valued x) (triples cl)) (sym y.1.2) (yes-values_satisfied (length a) (triples cl) y.1.0)

  pub no-answer_satisfied : {n many : ℕ} → Ready cl many (length a) → r ≡ No n → (ν : Assignment) → Satisfied ν (triples cl) → ⊥
  no-answer_satisfied R e = no_satisfied (length a) (triples cl) (ready_in R) (no-is e).0

-- the promise admits a single outcome
pub single_outcome : {cl : List ℤ} {a t : List ℕ} {budget : ℕ} {a₁ t₁ a₂ t₂ : List ℕ} {r₁ r₂ : Outcome}
    → Answered cl a t budget a₁ t₁ r₁ → Answered cl a t budget a₂ t₂ r₂ → (r₁ ≡ r₂) × (a₁ ≡ a₂) × (t₁ ≡ t₂)
single_outcome A B = (A.gives ∙ sym B.gives, A.leaves ∙ sym B.leaves, A.clears ∙ sym B.clears)
