-- The lowest unassigned variable, as the code looks for it: i places, and then the lowest from i on. Assumes nothing.
use mathlib.Core.Path.{◌≡◌, refl, sym, ap, ◌∙◌}
use mathlib.Core.List.{List, [], ◌∷◌}
use Prim.Native.Nat.{ℕ, zero, suc, ◌+◌, ◌≤◌, ◌<◌}
use native.Mathlib.Numerals.{add-one}
use native.Mathlib.Omega.{arith}
use lib.ListN.{length, get_or, drop, drop_of_length-le}
use lib.Seq.{drop-cons}
use Rattle.search.specs.Search.{lowest}

pub lowest_here : (a : List ℕ) (i : ℕ) → i < length a → get_or a i 0 ≡ 0 → i + lowest (drop i a) ≡ lowest a → i ≡ lowest a
unfolding lowest
lowest_here a i h e s = omega (arith, s, ap lowest (drop-cons a i 0 h) ∙ ap (λ (x : ℕ). lowest (x ∷ drop (suc i) a)) e)

pub lowest_more : (a : List ℕ) (i : ℕ) → i < length a → (get_or a i 0 ≡ 0 → ⊥) → i + lowest (drop i a) ≡ lowest a → i + 1 + lowest (drop (i + 1) a) ≡ lowest a
lowest_more a i h f s = omega (arith, s, ap lowest (drop-cons a i 0 h) ∙ past (get_or a i 0) f ∙ ap (λ (k : ℕ). suc (lowest (drop k a))) (sym (add-one i)))
  where
    past : (x : ℕ) → (x ≡ 0 → ⊥) → lowest (x ∷ drop (suc i) a) ≡ suc (lowest (drop (suc i) a))
    past zero f = absurd (f refl)
    past (suc x) f = unfold lowest in refl

pub lowest_past : (a : List ℕ) (i : ℕ) → length a ≤ i → i + lowest (drop i a) ≡ lowest a → i ≡ lowest a
unfolding lowest
lowest_past a i h s = omega (arith, s, ap lowest (drop_of_length-le a h))

pub lowest_from : (a : List ℕ) (k : ℕ) → k ≤ lowest a → k + lowest (drop k a) ≡ lowest a
unfolding lowest
lowest_from a zero h = omega arith
lowest_from [] (suc k) h = absurd (omega arith)
lowest_from (zero ∷ a) (suc k) h = absurd (omega arith)
lowest_from (suc x ∷ a) (suc k) h = omega (arith, lowest_from a k (omega arith))
