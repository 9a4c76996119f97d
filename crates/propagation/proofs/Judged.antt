-- A clause of three literals, judged by tests alone: which are true, which unassigned, which the same. Assumes nothing.
use mathlib.Core.Path.{◌≡◌, refl, sym, ap, ◌∙◌, subst}
use mathlib.Core.Bool.{Bool, true, false, ◌||◌, cond}
use mathlib.Core.List.{List, [], ◌∷◌}
use Prim.Native.Nat.{ℕ, zero, suc, ◌+◌, ◌≤◌}
use native.Mathlib.Omega.{arith}
use borrow.Author.Tests.{ne_eqb, le-leb, lt-ltb}
use lib.Dec.{eqb, leb}
use lib.IntN.{ℤ, pos}
use lib.ListN.{length, get_or}
use Rattle.clauses.specs.Clause.{Clause, three}
use Rattle.clauses.proofs.Numbers.{three-is}
use Rattle.search.specs.Search.{value, same_literal, met, unassigned, all_same, Says, quiet, forced, says}
use Rattle.ground.proofs.Tests.{true-false}
use Rattle.propagation.specs.Judging.{weight, counted, judged, told, Tells, weights_of}
use Rattle.propagation.specs.declared.clause.Told.{Told}
use Rattle.propagation.specs.declared.clause.Told.TheVariants.{Quiet, Fails, Forces}
use Rattle.search.proofs.Clauses.{same-is}
use Rattle.propagation.proofs.Table.{weight_le}

-- by tests alone: which are true, then which are unassigned, then which are the same
code : Bool → Bool → Bool → Bool → Bool → Bool → Bool → Bool → Bool → Told
code p q r i j k xy xz yz =
    cond p Quiet (cond q Quiet (cond r Quiet
    (cond i (cond (cond j xy true) (cond (cond k xz true) (Forces 0) Quiet) Quiet)
    (cond j (cond (cond k yz true) (Forces 1) Quiet) (cond k (Forces 2) Fails)))))

two-one : (n : ℕ) → eqb (suc (suc n)) 1 ≡ false
two-one n = ne_eqb (suc (suc n)) 1 (λ e. omega arith)

two-zero : (n : ℕ) → eqb (suc (suc n)) 0 ≡ false
two-zero n = ne_eqb (suc (suc n)) 0 (λ e. omega arith)

-- the sum over the different literals leads there: the same literal has the same value
module _ (u v w : ℕ) where
  record Fit (xy xz yz : Bool) : Type 0 where
    first : xy ≡ true → u ≡ v
    second : xz ≡ true → u ≡ w
    third : yz ≡ true → v ≡ w
    all : xy ≡ true → xz ≡ yz

none : (same : Bool) → counted 0 same ≡ 0
none true = refl
none false = refl

by_weights : (u v w : ℕ) (xy xz yz : Bool) → Fit u v w xy xz yz
    → judged (weight u) (weight v) (weight w) xy xz yz ≡ code (eqb u 1) (eqb v 1) (eqb w 1) (eqb u 0) (eqb v 0) (eqb w 0) xy xz yz
unfolding judged weight code
by_weights (suc zero) v w xy xz yz f = simp (lt-ltb 1 (4 + counted (weight v) xy + counted (counted (weight w) xz) yz) (omega arith))
by_weights zero (suc zero) w true xz yz f = absurd (omega (arith, f.first refl))
by_weights zero (suc zero) w false xz yz f = simp (lt-ltb 1 (5 + counted (counted (weight w) xz) yz) (omega arith))
by_weights (suc (suc u)) (suc zero) w true xz yz f = absurd (omega (arith, f.first refl))
by_weights (suc (suc u)) (suc zero) w false xz yz f = simp (two-one, lt-ltb 1 (4 + counted (counted (weight w) xz) yz) (omega arith))
by_weights zero zero zero true true yz f = simp none
by_weights zero zero zero true false true f = true-false (sym (f.all refl))
by_weights zero zero zero true false false f = refl
by_weights zero zero zero false xz yz f = simp (lt-ltb 1 (2 + counted (counted 1 xz) yz) (omega arith))
by_weights zero zero (suc zero) xy true yz f = absurd (omega (arith, f.second refl))
by_weights zero zero (suc zero) xy false true f = absurd (omega (arith, f.third refl))
by_weights zero zero (suc zero) xy false false f = simp (lt-ltb 1 (1 + counted 1 xy + 4) (omega arith))
by_weights zero zero (suc (suc w)) true xz yz f = simp (none, two-one, two-zero)
by_weights zero zero (suc (suc w)) false xz yz f = simp (none, two-one, two-zero)
by_weights zero (suc (suc v)) zero xy true yz f = simp (none, two-one, two-zero)
by_weights zero (suc (suc v)) zero xy false true f = absurd (omega (arith, f.third refl))
by_weights zero (suc (suc v)) zero xy false false f = simp (none, two-one, two-zero)
by_weights zero (suc (suc v)) (suc zero) xy true yz f = absurd (omega (arith, f.second refl))
by_weights zero (suc (suc v)) (suc zero) xy false true f = absurd (omega (arith, f.third refl))
by_weights zero (suc (suc v)) (suc zero) xy false false f = simp (two-one, lt-ltb 1 (1 + counted 0 xy + 4) (omega arith))
by_weights zero (suc (suc v)) (suc (suc w)) xy xz yz f = simp (none, two-one, two-zero)
by_weights (suc (suc u)) zero zero true xz yz f = absurd (omega (arith, f.first refl))
by_weights (suc (suc u)) zero zero false true yz f = absurd (omega (arith, f.second refl))
by_weights (suc (suc u)) zero zero false false true f = simp (two-one, two-zero)
by_weights (suc (suc u)) zero zero false false false f = simp (two-one, two-zero)
by_weights (suc (suc u)) zero (suc zero) xy true yz f = absurd (omega (arith, f.second refl))
by_weights (suc (suc u)) zero (suc zero) xy false true f = absurd (omega (arith, f.third refl))
by_weights (suc (suc u)) zero (suc zero) xy false false f = simp (two-one, lt-ltb 1 (0 + counted 1 xy + 4) (omega arith))
by_weights (suc (suc u)) zero (suc (suc w)) true xz yz f = absurd (omega (arith, f.first refl))
by_weights (suc (suc u)) zero (suc (suc w)) false xz yz f = simp (none, two-one, two-zero)
by_weights (suc (suc u)) (suc (suc v)) zero xy true yz f = absurd (omega (arith, f.second refl))
by_weights (suc (suc u)) (suc (suc v)) zero xy false true f = absurd (omega (arith, f.third refl))
by_weights (suc (suc u)) (suc (suc v)) zero xy false false f = simp (none, two-one, two-zero)
by_weights (suc (suc u)) (suc (suc v)) (suc zero) xy true yz f = absurd (omega (arith, f.second refl))
by_weights (suc (suc u)) (suc (suc v)) (suc zero) xy false true f = absurd (omega (arith, f.third refl))
by_weights (suc (suc u)) (suc (suc v)) (suc zero) xy false false f = simp (two-one, lt-ltb 1 (0 + counted 0 xy + 4) (omega arith))
by_weights (suc (suc u)) (suc (suc v)) (suc (suc w)) xy xz yz f = simp (none, two-one, two-zero)

-- and a true one shows in the sum
weights_met : (u v w : ℕ) → leb 4 (weight u + weight v + weight w) ≡ eqb u 1 || (eqb v 1 || (eqb w 1 || false))
unfolding weight
weights_met (suc zero) v w = le-leb 4 (4 + weight v + weight w) (omega arith)
weights_met zero (suc zero) w = le-leb 4 (5 + weight w) (omega arith)
weights_met (suc (suc u)) (suc zero) w = simp (two-one, le-leb 4 (4 + weight w) (omega arith))
weights_met zero zero (suc zero) = refl
weights_met zero (suc (suc v)) (suc zero) = simp two-one
weights_met (suc (suc u)) zero (suc zero) = simp two-one
weights_met (suc (suc u)) (suc (suc v)) (suc zero) = simp two-one
weights_met zero zero zero = refl
weights_met zero zero (suc (suc w)) = simp two-one
weights_met zero (suc (suc v)) zero = simp two-one
weights_met zero (suc (suc v)) (suc (suc w)) = simp two-one
weights_met (suc (suc u)) zero zero = simp two-one
weights_met (suc (suc u)) zero (suc (suc w)) = simp two-one
weights_met (suc (suc u)) (suc (suc v)) zero = simp two-one
weights_met (suc (suc u)) (suc (suc v)) (suc (suc w)) = simp two-one

-- and as the definition has it
keep : Bool → ℤ → List ℤ → List ℤ
keep b l ls = cond b (l ∷ ls) ls

telling : (x y z : ℤ) → Bool → Bool → Bool → Bool → Bool → Bool → Says
unfolding keep
telling x y z p q r i j k = cond (p || (q || (r || false))) quiet (forced (keep i x (keep j y (keep k z []))))

agree : (x y z : ℤ) (p q r i j k xy xz yz : Bool) → same_literal x y ≡ xy → same_literal x z ≡ xz → same_literal y z ≡ yz
    → Tells (three x y z) (code p q r i j k xy xz yz) (telling x y z p q r i j k)
unfolding code told telling keep forced all_same
agree x y z true q r i j k xy xz yz e f g = record { is = refl; at = tt }
agree x y z false true r i j k xy xz yz e f g = record { is = refl; at = tt }
agree x y z false false true i j k xy xz yz e f g = record { is = refl; at = tt }
agree x y z false false false true true true true true yz e f g = record { is = simp (e, f); at = omega arith }
agree x y z false false false true true true true false yz e f g = record { is = simp (e, f); at = tt }
agree x y z false false false true true true false xz yz e f g = record { is = simp e; at = tt }
agree x y z false false false true true false true xz yz e f g = record { is = simp e; at = omega arith }
agree x y z false false false true true false false xz yz e f g = record { is = simp e; at = tt }
agree x y z false false false true false true xy true yz e f g = record { is = simp f; at = omega arith }
agree x y z false false false true false true xy false yz e f g = record { is = simp f; at = tt }
agree x y z false false false true false false xy xz yz e f g = record { is = refl; at = omega arith }
agree x y z false false false false true true xy xz true e f g = record { is = simp g; at = omega arith }
agree x y z false false false false true true xy xz false e f g = record { is = simp g; at = tt }
agree x y z false false false false true false xy xz yz e f g = record { is = refl; at = omega arith }
agree x y z false false false false false true xy xz yz e f g = record { is = refl; at = omega arith }
agree x y z false false false false false false xy xz yz e f g = record { is = refl; at = tt }

-- what the code judges, by the weights of the values, is what the clause says
abbrev pub judged_of : List ℕ → ℤ → ℤ → ℤ → Told
judged_of a x y z = judged (weight (value a x)) (weight (value a y)) (weight (value a z)) (same_literal x y) (same_literal x z) (same_literal y z)

three-says : (a : List ℕ) (x y z : ℤ) → Tells (three x y z) (judged_of a x y z) (says a (three x y z))
unfolding telling keep says met unassigned
three-says a x y z =
    rw (by_weights (value a x) (value a y) (value a z) (same_literal x y) (same_literal x z) (same_literal y z) fit)
    (agree x y z (eqb (value a x) 1) (eqb (value a y) 1) (eqb (value a z) 1) (eqb (value a x) 0) (eqb (value a y) 0) (eqb (value a z) 0)
    (same_literal x y) (same_literal x z) (same_literal y z) refl refl refl)
  where
    fit : Fit (value a x) (value a y) (value a z) (same_literal x y) (same_literal x z) (same_literal y z)
    fit =
        record {
          first = λ e. ap (value a) (same-is x y e);
          second = λ e. ap (value a) (same-is x z e);
          third = λ e. ap (value a) (same-is y z e);
          all = λ e. ap (λ (l : ℤ). same_literal l z) (same-is x y e);
        }

-- the weights of three literals are a small sum
pub weights_light : (a : List ℕ) (c : Clause) (r : List ℕ) → r ≡ weights_of a c → get_or r 0 0 + get_or r 1 0 + get_or r 2 0 ≤ 12
weights_light a c r e = rw e (omega (arith, weight_le (value a (get_or c 0 (pos 0))), weight_le (value a (get_or c 1 (pos 0))), weight_le (value a (get_or c 2 (pos 0)))))

-- the same of any clause of three
pub judged-says : (a : List ℕ) (c : Clause) → length c ≡ 3 → Tells c (judged_of a (get_or c 0 (pos 0)) (get_or c 1 (pos 0)) (get_or c 2 (pos 0))) (says a c)
judged-says a c h =
    let x = get_or c 0 (pos 0) in
    let y = get_or c 1 (pos 0) in
    let z = get_or c 2 (pos 0) in
    subst (λ (d : Clause). Tells d (judged_of a x y z) (says a d)) (sym (three-is c h)) (three-says a x y z)

pub judged-met : (a : List ℕ) (c : Clause) → length c ≡ 3
    → leb 4 (weight (value a (get_or c 0 (pos 0))) + weight (value a (get_or c 1 (pos 0))) + weight (value a (get_or c 2 (pos 0)))) ≡ met a c
unfolding met
judged-met a c h = weights_met (value a (get_or c 0 (pos 0))) (value a (get_or c 1 (pos 0))) (value a (get_or c 2 (pos 0))) ∙ ap (met a) (sym (three-is c h))
