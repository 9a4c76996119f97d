-- Clause numbers in a slice, read three places at a time. Assumes nothing.
use mathlib.Core.Path.{◌≡◌, refl, sym, ap, ◌∙◌, subst}
use mathlib.Core.Logic.{inl, inr}
use mathlib.Core.List.Memᴰ
use mathlib.Core.List.{List, [], ◌∷◌, Memᴰ}
use Prim.Native.Nat.{ℕ, zero, suc, ◌+◌, ◌*◌, ◌≤◌, ◌<◌}
use native.Mathlib.Nat.{add-zero}
use native.Mathlib.Omega.{arith}
use lib.ListN.{length, get_or}
use lib.IntN.{ℤ, pos, nat_abs}
use mir.Syntax.{w16}
use mir.Val.{SFits}
use Rattle.clauses.specs.Clause.{Clause, three, triples}
use Rattle.clauses.proofs.Signs.{read, small, again}
use Rattle.propagation.specs.Ready.{Ready}
use Rattle.search.specs.Models.{ClausesIn}
use Rattle.propagation.specs.Judging.{Shown, clause_at}

pub triples_in : (v : ℕ) (cl : List ℤ) → ((k : ℕ) → nat_abs (get_or cl k (pos 0)) ≤ v) → ClausesIn v (triples cl)
unfolding triples
triples_in v [] h c m = absurd (Memᴰ.not-nil m)
triples_in v (x ∷ []) h c m = absurd (Memᴰ.not-nil m)
triples_in v (x ∷ y ∷ []) h c m = absurd (Memᴰ.not-nil m)
triples_in v (x ∷ y ∷ z ∷ r) h c m =
    elim (Memᴰ.cases_cons m) [
      | inl e ↦ λ l i. inside l (subst (λ (d : Clause). Memᴰ l d) e i)
      | inr n ↦ triples_in v r (λ k. h (suc (suc (suc k)))) c n
    ]
  where
    inside : (l : ℤ) → Memᴰ l (three x y z) → nat_abs l ≤ v
    inside l m =
        elim (Memᴰ.cases_cons m) [
          | inl e ↦ subst (λ (k : ℤ). nat_abs k ≤ v) (sym e) (h 0)
          | inr n ↦ elim (Memᴰ.cases_cons n) [
            | inl e ↦ subst (λ (k : ℤ). nat_abs k ≤ v) (sym e) (h 1)
            | inr o ↦ elim (Memᴰ.cases_cons o) [ inl e ↦ subst (λ (k : ℤ). nat_abs k ≤ v) (sym e) (h 2) | inr p ↦ absurd (Memᴰ.not-nil p) ]
          ]
        ]

abbrev pub at : List ℤ → ℕ → ℤ
at cl k = get_or cl k (pos 0)

-- ---- the clauses by their numbers
pub clause_next : (x y z : ℤ) (r : List ℤ) (j : ℕ) → clause_at (x ∷ y ∷ z ∷ r) (suc j) ≡ clause_at r j
clause_next x y z r j = rw (further (3 * suc j) (3 * j) (omega arith), further (3 * suc j + 1) (3 * j + 1) (omega arith), further (3 * suc j + 2) (3 * j + 2) (omega arith))
  where
    further : (k m : ℕ) → k ≡ suc (suc (suc m)) → at (x ∷ y ∷ z ∷ r) k ≡ at r m
    further k m e = ap (at (x ∷ y ∷ z ∷ r)) e

pub clause_in : (cl : List ℤ) (j : ℕ) → 3 * j + 3 ≤ length cl → Memᴰ (clause_at cl j) (triples cl)
unfolding triples
clause_in [] j h = absurd (omega arith)
clause_in (x ∷ []) j h = absurd (omega arith)
clause_in (x ∷ y ∷ []) j h = absurd (omega arith)
clause_in (x ∷ y ∷ z ∷ r) zero h = Memᴰ.head refl
clause_in (x ∷ y ∷ z ∷ r) (suc j) h =
    Memᴰ.tail (subst (λ (d : Clause). Memᴰ d (triples r)) (sym (clause_next x y z r j)) (clause_in r j (omega arith)))

pub in_clauses : (cl : List ℤ) (c : Clause) → Memᴰ c (triples cl) → (j : ℕ) × (3 * j + 3 ≤ length cl) × (c ≡ clause_at cl j)
unfolding triples
in_clauses [] c m = absurd (Memᴰ.not-nil m)
in_clauses (x ∷ []) c m = absurd (Memᴰ.not-nil m)
in_clauses (x ∷ y ∷ []) c m = absurd (Memᴰ.not-nil m)
in_clauses (x ∷ y ∷ z ∷ r) c m =
    elim (Memᴰ.cases_cons m) [
      | inl e ↦ (0, omega arith, e)
      | inr n ↦ let s = in_clauses r c n in (suc s.0, omega (arith, s.1), s.2 ∙ sym (clause_next x y z r s.0))
    ]

-- a literal of a clause stands at one of its places
pub member_at : (cl : List ℤ) (j : ℕ) (l : ℤ) → Memᴰ l (clause_at cl j) → (k : ℕ) × (k < 3) × (at cl (3 * j + k) ≡ l)
member_at cl j l m =
    elim (Memᴰ.cases_cons m) [
      | inl e ↦ (0, omega arith, ap (at cl) (add-zero (3 * j)) ∙ sym e)
      | inr n ↦ elim (Memᴰ.cases_cons n) [ inl e ↦ (1, omega arith, sym e) | inr o ↦ (2, omega arith, sym (Memᴰ.eq_of_singleton o)) ]
    ]

-- a literal of the i-th clause, and where it stands
pub literal-at : (cl : List ℤ) (i k : ℕ) → k < 3 → get_or (clause_at cl i) k (pos 0) ≡ at cl (3 * i + k)
literal-at cl i zero h = simp add-zero
literal-at cl i (suc zero) h = refl
literal-at cl i (suc (suc zero)) h = refl
literal-at cl i (suc (suc (suc k))) h = absurd (omega arith)

-- one clause of those that are ready is ready
ready_at : {cl : List ℤ} {m v : ℕ} (i : ℕ) → Ready cl m v → Ready (clause_at cl i) 1 v
ready_at {cl} {m} {v} i R = record { long = refl; range = within; small = R.small; few = omega arith }
  where
    within : (k : ℕ) → nat_abs (get_or (clause_at cl i) k (pos 0)) ≤ v
    within zero = R.range (3 * i)
    within (suc zero) = R.range (3 * i + 1)
    within (suc (suc zero)) = R.range (3 * i + 2)
    within (suc (suc (suc k))) = omega arith

pub shown-at : {cl : List ℤ} {m : ℕ} {a w : List ℕ} (i : ℕ) → Shown cl m a w → Shown (clause_at cl i) 1 a w
shown-at i S = record { ready = ready_at i S.ready; mirrors = S.mirrors }

module _ (cl : List ℤ) (v m : ℕ) (R : Ready cl m v) where
  at_small : (k : ℕ) → nat_abs (at cl k) < 32768
  at_small k = omega (arith, R.range k, R.small)

  pub fits-at : (k : ℕ) → SFits w16 (at cl k)
  fits-at k = small (at cl k) (at_small k)

  -- what is read of a place is what stands there
  pub read_at : (k : ℕ) → read (at cl k) ≡ at cl k
  read_at k = again (at cl k) (at_small k)
