-- What fits is ready for the search: the tests of `lengths_fit`, and `within` number by number. Assumes nothing.
use Rattle.std.specs.List.{list_all}
use mathlib.Core.Path.{◌≡◌, refl, ap}
use mathlib.Core.Bool.{Bool, true, ◌&&◌}
use mathlib.Core.List.{List, [], ◌∷◌}
use Prim.Native.Nat.{ℕ, zero, suc, ◌/◌, ◌%◌, ◌≤◌}
use native.Mathlib.Omega.{arith}
use lib.Dec.{T, leb, eqb, leb→le, eqb→eq}
use lib.IntN.{ℤ, pos, nat_abs}
use lib.ListN.{length, get_or}
use mir.Facts.{and_yes}
use Rattle.propagation.specs.Ready.{Ready, space_for}
use Rattle.solve.specs.Solved.{lengths_fit, within, fits}

-- each number passes
all_within : (v : ℕ) (cl : List ℤ) → list_all (λ l. leb (nat_abs l) v) cl ≡ within v cl
unfolding within
all_within v [] = refl
all_within v (l ∷ cl) = ap (λ (b : Bool). leb (nat_abs l) v && b) (all_within v cl)

-- the lengths fit, and each number passes
pub fits_both : (cl : List ℤ) (v room : ℕ) → lengths_fit (length cl) v room ≡ true → list_all (λ l. leb (nat_abs l) v) cl ≡ fits cl v room
unfolding fits
fits_both cl v room e = simp e (all_within v cl)

within-at : (v : ℕ) (cl : List ℤ) → T (within v cl) → (k : ℕ) → nat_abs (get_or cl k (pos 0)) ≤ v
unfolding within
within-at v [] t k = omega arith
within-at v (l ∷ cl) t zero = leb→le (nat_abs l) v (and_yes (leb (nat_abs l) v) (within v cl) t).0
within-at v (l ∷ cl) t (suc k) = within-at v cl (and_yes (leb (nat_abs l) v) (within v cl) t).1 k

pub fits-ready : (cl : List ℤ) (v room : ℕ) → T (fits cl v room) → Ready cl (length cl / 3) v × (space_for v (length cl / 3) ≤ room)
unfolding fits lengths_fit
fits-ready cl v room t =
    let n = length cl in
    let f = and_yes (lengths_fit n v room) (within v cl) t in
    let p = and_yes (leb v 4095 && leb n 65535 && eqb (n % 3) 0) (leb (space_for v (n / 3)) room) f.0 in
    let q = and_yes (leb v 4095 && leb n 65535) (eqb (n % 3) 0) p.0 in
    let r = and_yes (leb v 4095) (leb n 65535) q.0 in
    let low : v ≤ 4095 = leb→le v 4095 r.0 in
    let few : n ≤ 65535 = leb→le n 65535 r.1 in
    let whole : n % 3 ≡ 0 = eqb→eq (n % 3) 0 q.1 in
    (record { long = omega arith; range = within-at v cl f.1; small = omega arith; few = omega arith }, leb→le (space_for v (n / 3)) room p.1)
