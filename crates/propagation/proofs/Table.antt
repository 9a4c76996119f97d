-- The table of truths: a variable's mark given or taken back keeps it in step with the marks, and where nothing is assigned it starts. Assumes nothing.
use mathlib.Core.Path.{◌≡◌, refl, sym, ap, ◌∙◌}
use Prim.Native.Nat.{ℕ, zero, suc, ◌+◌, ◌-◌, ◌≤◌, ◌<◌}
use mathlib.Core.List.{List}
use native.Mathlib.Decide.{ℕ_discrete}
use native.Mathlib.Omega.{arith}
use lib.ListN.{length, get_or, set, replicate, length-set, length-replicate, get_or-replicate}
use lib.Seq.{get_or-set_same, get_or-set_other}
use lib.IntN.{ℤ, pos, negsuc, nat_abs}
use Rattle.search.specs.Search.{turned, value}
use Rattle.propagation.specs.Judging.{slot_of, weight, Mirrors}
use Rattle.search.proofs.Marks.{none-at}

-- ---- marks, told apart
pub turned_zero : (v : ℕ) → v ≡ 0 → 0 ≡ turned v
unfolding turned
turned_zero v e = sym (ap turned e)

pub turned_two : (v : ℕ) → v ≡ 2 → 1 ≡ turned v
unfolding turned
turned_two v e = sym (ap turned e)

pub turned_else : (v : ℕ) → (v ≡ 0 → ⊥) → (v ≡ 2 → ⊥) → 2 ≡ turned v
unfolding turned
turned_else zero f g = absurd (f refl)
turned_else (suc zero) f g = refl
turned_else (suc (suc zero)) f g = absurd (g refl)
turned_else (suc (suc (suc n))) f g = refl

pub weight_zero : (v : ℕ) → v ≡ 0 → 1 ≡ weight v
unfolding weight
weight_zero v e = sym (ap weight e)

pub weight_one : (v : ℕ) → v ≡ 1 → 4 ≡ weight v
unfolding weight
weight_one v e = sym (ap weight e)

pub weight_else : (v : ℕ) → (v ≡ 0 → ⊥) → (v ≡ 1 → ⊥) → 0 ≡ weight v
unfolding weight
weight_else zero f g = absurd (f refl)
weight_else (suc zero) f g = absurd (g refl)
weight_else (suc (suc v)) f g = refl

pub weight_le : (v : ℕ) → weight v ≤ 4
unfolding weight
weight_le zero = omega arith
weight_le (suc zero) = omega arith
weight_le (suc (suc v)) = omega arith

pub slot_small : (l : ℤ) → nat_abs l < 4096 → slot_of l < 8192
unfolding slot_of
slot_small (pos n) h = omega arith
slot_small (negsuc n) h = omega arith

slot_up : (n : ℕ) → slot_of (pos (suc n)) ≡ 4097 + n
unfolding slot_of
slot_up n = omega arith

-- ---- the two slots of the variable at i are written: one for it, one for its negation
module _ (w : List ℕ) (m : length w ≡ 8192) (i p q : ℕ) (h : i < 4095) where
  abbrev written : List ℕ
  written = set (set w (4097 + i) p) (4095 - i) q

  written-size : length written ≡ 8192
  written-size = simp length-set m

  at_up : get_or written (4097 + i) 0 ≡ p
  at_up = get_or-set_other (set w (4097 + i) p) (4095 - i) (4097 + i) q 0 (λ e. omega arith) ∙ get_or-set_same w (4097 + i) p 0 (omega arith)

  at-down : get_or written (4095 - i) 0 ≡ q
  at-down = get_or-set_same (set w (4097 + i) p) (4095 - i) q 0 (simp length-set (omega arith))

  at_other : (k : ℕ) → (k ≡ 4097 + i → ⊥) → (k ≡ 4095 - i → ⊥) → get_or written k 0 ≡ get_or w k 0
  at_other k f g = get_or-set_other (set w (4097 + i) p) (4095 - i) k q 0 g ∙ get_or-set_other w (4097 + i) k p 0 f

-- ---- a mark is given
module _ (a w : List ℕ) (M : Mirrors a w) (i v : ℕ) (h : i < length a) where
  abbrev after : List ℕ
  after = set (set w (4097 + i) (weight v)) (4095 - i) (weight (turned v))

  low : i < 4095
  low = omega (arith, M.small)

  other : (k : ℕ) → (k ≡ 4097 + i → ⊥) → (k ≡ 4095 - i → ⊥) → get_or after k 0 ≡ get_or w k 0
  other = at_other w M.size i (weight v) (weight (turned v)) low

  here : (n : ℕ) → n ≡ i → v ≡ get_or (set a i v) n 0
  here n e = sym (ap (λ (j : ℕ). get_or (set a i v) j 0) e ∙ get_or-set_same a i v 0 h)

  up : (n : ℕ) → n < length a → Dec (n ≡ i) → get_or after (slot_of (pos (suc n))) 0 ≡ weight (get_or (set a i v) n 0)
  unfolding value
  up n k (yes e) =
      ap (λ (j : ℕ). get_or after j 0) (slot_up n ∙ ap (λ (j : ℕ). 4097 + j) e)
      ∙ at_up w M.size i (weight v) (weight (turned v)) low
      ∙ ap weight (here n e)
  up n k (no f) =
      other (slot_of (pos (suc n))) (λ e. f (omega (arith, e, slot_up n))) (λ e. omega (arith, e, slot_up n))
      ∙ M.is (pos (suc n)) k
      ∙ ap weight (sym (get_or-set_other a i n v 0 f))

  down : (n : ℕ) → n < length a → Dec (n ≡ i) → get_or after (4095 - n) 0 ≡ weight (turned (get_or (set a i v) n 0))
  unfolding slot_of value
  down n k (yes e) =
      ap (λ (j : ℕ). get_or after (4095 - j) 0) e ∙ at-down w M.size i (weight v) (weight (turned v)) low ∙ ap (λ (x : ℕ). weight (turned x)) (here n e)
  down n k (no f) =
      other (4095 - n) (λ e. omega arith) (λ e. f (omega (arith, M.small)))
      ∙ M.is (negsuc n) k
      ∙ ap (λ (x : ℕ). weight (turned x)) (sym (get_or-set_other a i n v 0 f))

  all : (l : ℤ) → nat_abs l ≤ length a → get_or after (slot_of l) 0 ≡ weight (value (set a i v) l)
  unfolding slot_of value
  all (pos zero) k = other 4096 (λ e. omega arith) (λ e. omega arith) ∙ M.is (pos 0) k
  all (pos (suc n)) k = up n k (ℕ_discrete n i)
  all (negsuc n) k = down n k (ℕ_discrete n i)

  pub mirrors-set : Mirrors (set a i v) after
  mirrors-set =
      record {
        size = written-size w M.size i (weight v) (weight (turned v)) low;
        small = simp length-set M.small;
        is = λ l k. all l (simp length-set at k);
      }

-- ---- where nothing is assigned: every literal is open, and the unused place is false
abbrev pub unset : List ℕ
unset = set (replicate 8192 1) 4096 0

open_at : (k : ℕ) → k < 8192 → (k ≡ 4096 → ⊥) → ◌≡◌ {A = ℕ} (get_or unset k 0) 1
open_at k low f = get_or-set_other {A = ℕ} (replicate 8192 1) 4096 k 0 0 f ∙ get_or-replicate {A = ℕ} 8192 k 1 0 low

pub mirrors-none : (v : ℕ) → v < 4096 → Mirrors (replicate v 0) unset
mirrors-none v h = record { size = simp (length-set, length-replicate); small = simp length-replicate h; is = λ l k. all l (simp length-replicate at k) }
  where
    all : (l : ℤ) → nat_abs l ≤ v → get_or unset (slot_of l) 0 ≡ weight (value (replicate v 0) l)
    all (pos zero) k = unfold slot_of value weight in get_or-set_same {A = ℕ} (replicate 8192 1) 4096 0 0 (simp length-replicate (omega arith))
    all (pos (suc n)) k = unfold slot_of value weight in (open_at (4096 + suc n) (omega arith) (λ e. omega arith) ∙ ap weight (sym (none-at v n)))
    all (negsuc n) k = unfold slot_of value turned weight in (open_at (4095 - n) (omega arith) (λ e. omega arith) ∙ ap (λ (x : ℕ). weight (turned x)) (sym (none-at v n)))
