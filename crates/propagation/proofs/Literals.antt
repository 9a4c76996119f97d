-- Signed literals as the code takes them apart. A local of i16 holds bits: code that computes with l computes with `read l`, which is l where l fits.
-- Assumes nothing.
use mathlib.Core.Path.{◌≡◌, refl, sym, ap, ◌∙◌}
use mathlib.Core.Bool.{Bool, true, false}
use Prim.Native.Nat.{zero, suc, ◌+◌, ◌-◌, ◌^◌, ◌<◌}
use native.Mathlib.Omega.{arith}
use borrow.Author.Tests.{le-ltb, ltb-true, eqb-true, eqb-false}
use lib.Dec.{eqb}
use lib.IntN.{ℤ, pos, negsuc, nat_abs, ◌+ℤ◌}
use lib.Signed.{lt_z}
use mir.Syntax.{w16}
use mir.Val.{SFits, to_z, of_z}
use mir.Facts.{to_z-of_z}
use Rattle.clauses.proofs.Signs.{read}
use Rattle.ground.proofs.Tests.{true-false}
use Rattle.search.specs.Search.{place, mark, same_literal}
use Rattle.propagation.specs.Judging.{slot_of}
use Rattle.search.proofs.Clauses.{is_same, same-is}

-- ---- zero
pub not-zero : (l : ℤ) → SFits w16 l → (of_z w16 l ≡ 0 → ⊥) → read l ≡ pos 0 → ⊥
not-zero l f h e = h (ap (of_z w16) (sym (to_z-of_z f) ∙ e))

pub is_zero : (l : ℤ) → SFits w16 l → of_z w16 l ≡ 0 → l ≡ pos 0
is_zero l f h = sym (to_z-of_z f) ∙ ap (to_z w16) h

-- ---- places
pub place-small : (y : ℤ) → SFits w16 y → place y < 2 ^ 15
unfolding place
place-small (pos zero) f = omega arith
place-small (pos (suc n)) f = omega (arith, f.sfits)
place-small (negsuc n) f = f.sfits

pub place-number : (y : ℤ) → (y ≡ pos 0 → ⊥) → place y + 1 ≡ nat_abs y
unfolding place
place-number (pos zero) f = absurd (f refl)
place-number (pos (suc n)) f = omega arith
place-number (negsuc n) f = omega arith

-- ---- what the sign tells
pub mark-down : (y : ℤ) → lt_z y (pos 0) ≡ true → 2 ≡ mark y
unfolding mark
mark-down (pos n) e = absurd (omega (arith, ltb-true n 0 e))
mark-down (negsuc n) e = refl

pub mark-up : (y : ℤ) → lt_z y (pos 0) ≡ false → 1 ≡ mark y
unfolding mark
mark-up (pos n) e = refl
mark-up (negsuc n) e = true-false e

pub mark-is : (y : ℤ) → (0 < mark y) × (mark y < 3)
unfolding mark
mark-is (pos n) = (omega arith, omega arith)
mark-is (negsuc n) = (omega arith, omega arith)

-- ---- the slot of a literal
pub slot_is : (y : ℤ) → nat_abs y < 4096 → y +ℤ pos 4096 ≡ pos (slot_of y)
unfolding slot_of
slot_is (pos n) h = ap pos (omega arith)
slot_is (negsuc n) h = rw (le-ltb 4096 (suc n) (omega arith)) (ap pos (omega arith))

-- ---- two literals are the same where their bits are
pub same-no : (y z : ℤ) → (y ≡ z → ⊥) → same_literal y z ≡ false
same-no y z f = by (same_literal y z) refl
  where
    by : (b : Bool) → same_literal y z ≡ b → same_literal y z ≡ false
    by true e = absurd (f (same-is y z e))
    by false e = e

pub same_bits : (y z : ℤ) → SFits w16 y → SFits w16 z → eqb (of_z w16 y) (of_z w16 z) ≡ same_literal y z
same_bits y z f g = by (eqb (of_z w16 y) (of_z w16 z)) refl
  where
    by : (b : Bool) → eqb (of_z w16 y) (of_z w16 z) ≡ b → b ≡ same_literal y z
    by true e =
        let q : y ≡ z = sym (to_z-of_z f) ∙ ap (to_z w16) (eqb-true (of_z w16 y) (of_z w16 z) e) ∙ to_z-of_z g in
        sym (is_same y) ∙ ap (same_literal y) q
    by false e = sym (same-no y z (λ k. eqb-false (of_z w16 y) (of_z w16 z) e (ap (of_z w16) k)))

-- a place counts from 0
pub place_less : (l : ℤ) → nat_abs l - 1 ≡ place l
unfolding place
place_less (pos zero) = refl
place_less (pos (suc n)) = omega arith
place_less (negsuc n) = omega arith
