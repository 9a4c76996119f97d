-- Variables that the trail notes as assigned: they are among those that there are, they stay so where literals are forced, and of their two literals one is
-- true, and the clauses of the other are linked at the place after the entry. Assumes nothing.
use mathlib.Core.Path.{◌≡◌, ap, ◌∙◌}
use mathlib.Core.Logic.{◌⊎◌, inl, inr, ⊎_elim}
use mathlib.Core.List.{List}
use Prim.Native.Nat.{ℕ, zero, suc, ◌+◌, ◌/◌, ◌%◌, ◌<◌}
use native.Mathlib.Decide.{dec_lt, ℕ_discrete}
use native.Mathlib.Omega.{arith}
use lib.IntN.{ℤ, pos, negsuc, nat_abs}
use lib.ListN.{length, get_or, set, get_or-eq_default}
use lib.Seq.{get_or-set_same}
use Rattle.search.specs.Search.{turned, value}
use Rattle.search.proofs.Marks.{Below}
use Rattle.propagation.specs.Links.{head_of}
use Rattle.propagation.specs.Trail.{entry_for, Marked}

pub marked_in : (a : List ℕ) (e : ℕ) → Marked a e → e / 2 < length a
marked_in a e m = by (dec_lt (e / 2) (length a))
  where
    by : Dec (e / 2 < length a) → e / 2 < length a
    by (yes h) = h
    by (no f) = absurd (omega (arith, m, get_or-eq_default a 0 {n = e / 2} (omega (arith, f))))

-- it stays so
pub kept-mark : (a b : List ℕ) (e : ℕ) → Below a b → Marked a e → Marked b e
kept-mark a b e B m = ⊎_elim (λ z. absurd (omega (arith, z, m))) (λ q. q ∙ m) (B (e / 2))

-- a mark that is given is told by its entry
pub given-mark : (a : List ℕ) (i m : ℕ) → i < length a → 0 < m → m < 3 → Marked (set a i m) (entry_for i m)
given-mark a i m h low high =
    let at : entry_for i m / 2 ≡ i = omega arith in
    ap (λ (k : ℕ). get_or (set a i m) k 0) at ∙ get_or-set_same a i m 0 h ∙ omega arith

-- of the two literals of the variable one is true, and the other the one that became false
module _ (a : List ℕ) (e : ℕ) (m : Marked a e) where
  mark-at : (n : ℕ) → suc n ≡ suc (e / 2) → get_or a n 0 ≡ e % 2 + 1
  mark-at n f = let q : n ≡ e / 2 = omega (arith, f) in ap (λ (k : ℕ). get_or a k 0) q ∙ m

  side : Dec (e % 2 ≡ 1) → (l : ℤ) → nat_abs l ≡ suc (e / 2) → (head_of l ≡ e + 1) ⊎ (value a l ≡ 1)
  unfolding head_of value turned
  side d (pos zero) f = absurd (omega (arith, f))
  side (yes o) (pos (suc n)) f = inl (omega (arith, f, o))
  side (no o) (pos (suc n)) f = inr (omega (arith, mark-at n f, o))
  side (yes o) (negsuc n) f = let two : get_or a n 0 ≡ 2 = omega (arith, mark-at n f, o) in inr (ap turned two)
  side (no o) (negsuc n) f = inl (omega (arith, f, o))

  pub sides : (l : ℤ) → nat_abs l ≡ suc (e / 2) → (head_of l ≡ e + 1) ⊎ (value a l ≡ 1)
  sides l f = side (ℕ_discrete (e % 2) 1) l f
