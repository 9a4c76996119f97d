-- The number of unmet clauses: by how much it falls where a literal is made true, that it tells whether every clause is met, and what it is at the root. And
-- how the unmet clauses that hold a literal are counted on the way down its clauses. Assumes nothing.
use mathlib.Core.Path.{◌≡◌, refl, sym, ap, ◌∙◌}
use mathlib.Core.Bool.{Bool, true, false, not, ◌&&◌, ◌||◌, cond, or-true}
use mathlib.Core.List.{List, [], ◌∷◌, Memᴰ}
use Prim.Native.Nat.{ℕ, zero, suc, ◌+◌, ◌-◌, ◌*◌, ◌/◌, ◌≤◌, ◌<◌}
use native.Mathlib.Decide.{ℕ_discrete}
use native.Mathlib.Omega.{arith}
use borrow.Author.Tests.{eq-eqb, ne_eqb}
use lib.Dec.{eqb}
use lib.IntN.{ℤ, pos, negsuc, nat_abs}
use lib.ListN.{length, get_or, set, take, replicate}
use lib.Seq.{get_or-set_same, get_or-set_other, take_all}
use Rattle.clauses.specs.Clause.{Clause, three, triples}
use Rattle.ground.proofs.Tests.{true-false}
use Rattle.search.specs.Search.{turned, value, same_literal, met, all_met}
use Rattle.search.proofs.Clauses.{same-is, is_same}
use Rattle.search.proofs.Marks.{none-at}
use Rattle.propagation.specs.Links.{made, head_of, latest}
use Rattle.propagation.specs.Judging.{clause_at}
use Rattle.propagation.specs.Unmet.{number, unmet, holds, unmet_among, unmet_with}
use Rattle.propagation.proofs.Literals.{same-no}
use Rattle.propagation.proofs.Triples.{at, clause_next, member_at, literal-at}
use Rattle.propagation.proofs.Latest.{Has, made-number, head-same, chain_end, chain_found}

-- ---- a literal is made true: a clause is met then if it holds it or was met
pub value-other : (a : List ℕ) (i m : ℕ) (k : ℤ) → (nat_abs k ≡ suc i → ⊥) → value (set a i m) k ≡ value a k
unfolding value
value-other a i m (pos zero) f = refl
value-other a i m (pos (suc n)) f = get_or-set_other a i n m 0 (λ e. f (ap suc e))
value-other a i m (negsuc n) f = ap turned (get_or-set_other a i n m 0 (λ e. f (ap suc e)))

module _ (a : List ℕ) (i : ℕ) (h : i < length a) (z : get_or a i 0 ≡ 0) where
  was : (n : ℕ) → suc n ≡ suc i → get_or a n 0 ≡ 0
  was n e = let q : n ≡ i = omega (arith, e) in ap (λ (j : ℕ). get_or a j 0) q ∙ z

  is : (m n : ℕ) → suc n ≡ suc i → get_or (set a i m) n 0 ≡ m
  is m n e = let q : n ≡ i = omega (arith, e) in ap (λ (j : ℕ). get_or (set a i m) j 0) q ∙ get_or-set_same a i m 0 h

  made-here : (m : ℕ) → 0 < m → m < 3 → (k : ℤ) → nat_abs k ≡ suc i → eqb (value (set a i m) k) 1 ≡ same_literal (made i m) k || eqb (value a k) 1
  unfolding made value turned same_literal
  made-here zero l u k e = absurd (omega (arith, l))
  made-here (suc zero) l u (pos zero) e = absurd (omega (arith, e))
  made-here (suc zero) l u (pos (suc n)) e = simp (is 1 n e, was n e, eq-eqb (suc i) (suc n) (sym e))
  made-here (suc zero) l u (negsuc n) e = simp (is 1 n e, was n e)
  made-here (suc (suc zero)) l u (pos zero) e = absurd (omega (arith, e))
  made-here (suc (suc zero)) l u (pos (suc n)) e = simp (is 2 n e, was n e)
  made-here (suc (suc zero)) l u (negsuc n) e = simp (is 2 n e, was n e, eq-eqb i n (omega (arith, e)))
  made-here (suc (suc (suc m))) l u k e = absurd (omega (arith, u))

  module _ (m : ℕ) (low : 0 < m) (high : m < 3) where
    made-true : (k : ℤ) → eqb (value (set a i m) k) 1 ≡ same_literal (made i m) k || eqb (value a k) 1
    made-true k = by (ℕ_discrete (nat_abs k) (suc i))
      where
        by : Dec (nat_abs k ≡ suc i) → eqb (value (set a i m) k) 1 ≡ same_literal (made i m) k || eqb (value a k) 1
        by (yes e) = made-here m low high k e
        by (no f) = rw (value-other a i m k f, same-no (made i m) k (λ q. f (ap nat_abs (sym q) ∙ made-number i m)))

    made-met : (c : Clause) → met (set a i m) c ≡ holds (made i m) c || met a c
    unfolding met holds
    made-met [] = refl
    made-met (k ∷ c) = rw (made-true k, made-met c) (turn (same_literal (made i m) k) (eqb (value a k) 1) (holds (made i m) c) (met a c))
      where
        turn : (s t u w : Bool) → (s || t) || (u || w) ≡ (s || u) || (t || w)
        turn true t u w = refl
        turn false true true w = refl
        turn false true false w = refl
        turn false false u w = refl

pub unmet_falls : (a : List ℕ) (i m : ℕ) → i < length a → get_or a i 0 ≡ 0 → 0 < m → m < 3
    → (cs : List Clause) → unmet_with a (made i m) cs + unmet_among (set a i m) cs ≡ unmet_among a cs
unfolding number
unmet_falls a i m h z low high [] = refl
unmet_falls a i m h z low high (c ∷ cs) =
    rw (made-met a i h z m low high c)
    (by (holds (made i m) c) (met a c) (unmet_with a (made i m) cs) (unmet_among (set a i m) cs) (unmet_among a cs) (unmet_falls a i m h z low high cs))
  where
    by : (s t : Bool) (x y n : ℕ) → x + y ≡ n → cond (s && not t) (suc x) x + cond (not (s || t)) (suc y) y ≡ cond (not t) (suc n) n
    by true true x y n e = e
    by true false x y n e = omega (arith, e)
    by false true x y n e = e
    by false false x y n e = omega (arith, e)

-- ---- "The answer from that number equals the scan's."
pub number-tells : (a : List ℕ) (cs : List Clause) → eqb (unmet_among a cs) 0 ≡ all_met a cs
unfolding number all_met
number-tells a [] = refl
number-tells a (c ∷ cs) = by (met a c) (number-tells a cs)
  where
    by : (t : Bool) → eqb (unmet_among a cs) 0 ≡ all_met a cs → eqb (cond (not t) (suc (unmet_among a cs)) (unmet_among a cs)) 0 ≡ t && all_met a cs
    by true r = r
    by false r = ne_eqb (suc (unmet_among a cs)) 0 (λ e. omega (arith, e))

-- ---- all clauses: that many at most, and at the root just that many
number_le : (f : Clause → Bool) (cs : List Clause) → number f cs ≤ length cs
unfolding number
number_le f [] = omega arith
number_le f (c ∷ cs) = by (f c) (number_le f cs)
  where
    by : (b : Bool) → number f cs ≤ length cs → cond b (suc (number f cs)) (number f cs) ≤ suc (length cs)
    by true h = omega (arith, h)
    by false h = omega (arith, h)

thirds : (cl : List ℤ) → length (triples cl) ≡ length cl / 3
unfolding triples
thirds [] = omega arith
thirds (x ∷ []) = omega arith
thirds (x ∷ y ∷ []) = omega arith
thirds (x ∷ y ∷ z ∷ r) = omega (arith, thirds r)

length-triples : (cl : List ℤ) (many : ℕ) → length cl ≡ 3 * many → length (triples cl) ≡ many
length-triples cl many e = omega (arith, e, thirds cl)

pub number_most : (f : Clause → Bool) (cl : List ℤ) (many : ℕ) → length cl ≡ 3 * many → number f (triples cl) ≤ many
number_most f cl many e = omega (arith, number_le f (triples cl), length-triples cl many e)

pub unmet_most : (cl : List ℤ) (many : ℕ) → length cl ≡ 3 * many → (a : List ℕ) → unmet_among a (triples cl) ≤ many
unmet_most cl many e a = number_most (unmet a) cl many e

met-none : (v : ℕ) (c : Clause) → met (replicate v 0) c ≡ false
unfolding met value turned
met-none v [] = refl
met-none v (pos zero ∷ c) = met-none v c
met-none v (pos (suc n) ∷ c) = rw (none-at v n) (met-none v c)
met-none v (negsuc n ∷ c) = rw (none-at v n) (met-none v c)

none-met : (v : ℕ) (cs : List Clause) → unmet_among (replicate v 0) cs ≡ length cs
unfolding number
none-met v [] = refl
none-met v (c ∷ cs) = rw (met-none v c) (ap suc (none-met v cs))

pub unmet-root : (cl : List ℤ) (many v : ℕ) → length cl ≡ 3 * many → unmet_among (replicate v 0) (triples cl) ≡ many
unmet-root cl many v e = none-met v (triples cl) ∙ length-triples cl many e

-- ---- those among the first k clauses
module _ (f : Clause → Bool) where
  pub first-all : (cl : List ℤ) (many : ℕ) → length cl ≡ 3 * many → number f (take many (triples cl)) ≡ number f (triples cl)
  first-all cl many e = ap (number f) (take_all many (triples cl) (omega (arith, length-triples cl many e)))

  -- with one clause more, and past clauses that do not count
  number_more : (cl : List ℤ) (k : ℕ) → 3 * k + 3 ≤ length cl
      → number f (take (suc k) (triples cl)) ≡ cond (f (clause_at cl k)) (suc (number f (take k (triples cl)))) (number f (take k (triples cl)))
  unfolding triples number
  number_more [] k h = absurd (omega (arith, h))
  number_more (x ∷ []) k h = absurd (omega (arith, h))
  number_more (x ∷ y ∷ []) k h = absurd (omega (arith, h))
  number_more (x ∷ y ∷ z ∷ r) zero h = refl
  number_more (x ∷ y ∷ z ∷ r) (suc k) h =
      rw (clause_next x y z r k, number_more r k (omega (arith, h))) (by (f (three x y z)) (f (clause_at r k)) (number f (take k (triples r))))
    where
      by : (b d : Bool) (n : ℕ) → cond b (suc (cond d (suc n) n)) (cond d (suc n) n) ≡ cond d (suc (cond b (suc n) n)) (cond b (suc n) n)
      by true true n = refl
      by true false n = refl
      by false d n = refl

  number_past : (cl : List ℤ) (j k : ℕ) → j ≤ k → 3 * k ≤ length cl → ((i : ℕ) → j ≤ i → i < k → f (clause_at cl i) ≡ false)
      → number f (take k (triples cl)) ≡ number f (take j (triples cl))
  number_past cl j zero h l g = let e : 0 ≡ j = omega (arith, h) in ap (λ (n : ℕ). number f (take n (triples cl))) e
  number_past cl j (suc k) h l g = by (λ u. number_past cl j k u (omega (arith, l)) (λ i a b. g i a (omega (arith, b)))) (ℕ_discrete j (suc k))
    where
      by : (j ≤ k → number f (take k (triples cl)) ≡ number f (take j (triples cl))) → Dec (j ≡ suc k)
          → number f (take (suc k) (triples cl)) ≡ number f (take j (triples cl))
      by r (yes e) = ap (λ (n : ℕ). number f (take n (triples cl))) (sym e)
      by r (no e) =
          let u : j ≤ k = omega (arith, h, e) in
          number_more cl k (omega (arith, l))
          ∙ ap (λ (b : Bool). cond b (suc (number f (take k (triples cl)))) (number f (take k (triples cl)))) (g k u (omega arith))
          ∙ r u

-- ---- on the way down the clauses of a literal
holds_member : (l : ℤ) (c : Clause) → holds l c ≡ true → Memᴰ l c
unfolding holds
holds_member l [] e = true-false (sym e)
holds_member l (k ∷ c) e = by (same_literal l k) refl (holds_member l c) e
  where
    by : (b : Bool) → same_literal l k ≡ b → (holds l c ≡ true → Memᴰ l c) → b || holds l c ≡ true → Memᴰ l (k ∷ c)
    by true q r e = Memᴰ.head (same-is l k q)
    by false q r e = Memᴰ.tail (r e)

at-holds : (cl : List ℤ) (l : ℤ) (j k : ℕ) → k < 3 → at cl (3 * j + k) ≡ l → holds l (clause_at cl j) ≡ true
unfolding holds
at-holds cl l j k h e = by k h (literal-at cl j k h ∙ e)
  where
    is : (x : ℤ) → x ≡ l → same_literal l x ≡ true
    is x e = ap (same_literal l) e ∙ is_same l

    by : (k : ℕ) → k < 3 → get_or (clause_at cl j) k (pos 0) ≡ l → holds l (clause_at cl j) ≡ true
    by zero h e = rw (is (at cl (3 * j)) e)
    by (suc zero) h e = rw (is (at cl (3 * j + 1)) e) (or-true (same_literal l (at cl (3 * j))))
    by (suc (suc zero)) h e = rw (is (at cl (3 * j + 2)) e, or-true (same_literal l (at cl (3 * j + 1)))) (or-true (same_literal l (at cl (3 * j))))
    by (suc (suc (suc k))) h e = absurd (omega (arith, h))

module _ (cl : List ℤ) (a : List ℕ) (l : ℤ) where
  -- the unmet ones that hold the literal, among the first k clauses
  abbrev among : ℕ → ℕ
  among k = unmet_with a l (take k (triples cl))

  past : (j k : ℕ) → j ≤ k → 3 * k ≤ length cl → ((i : ℕ) → j ≤ i → i < k → Has cl (head_of l) i → ⊥) → among k ≡ among j
  past j k h m g = number_past (λ c. holds l c && unmet a c) cl j k h m (λ i u w. no i (holds l (clause_at cl i)) refl (g i u w))
    where
      no : (i : ℕ) (b : Bool) → holds l (clause_at cl i) ≡ b → (Has cl (head_of l) i → ⊥) → b && unmet a (clause_at cl i) ≡ false
      no i true e f = let s = member_at cl i l (holds_member l (clause_at cl i) e) in absurd (f (s.0, s.1, ap head_of s.2))
      no i false e f = refl

  pub among_end : (k : ℕ) → 3 * k ≤ length cl → latest cl (head_of l) (3 * k) ≡ 0 → among k ≡ 0
  unfolding number
  among_end k h e = past 0 k (omega arith) h (λ i u. chain_end cl (head_of l) k e i)

  pub among-found : (k q : ℕ) → 3 * k ≤ length cl → latest cl (head_of l) (3 * k) ≡ suc q
      → among k ≡ cond (unmet a (clause_at cl (q / 3))) (suc (among (q / 3))) (among (q / 3))
  among-found k q h e =
      let F = chain_found cl (head_of l) k q e in
      let j = q / 3 in
      let s : at cl q ≡ l = head-same (at cl q) l F.head in
      let p : 3 * j + (q - 3 * j) ≡ q = omega arith in
      past (suc j) k (omega (arith, F.below)) h (λ i u. F.none i (omega (arith, u)))
      ∙ number_more (λ c. holds l c && unmet a c) cl j (omega (arith, F.below, h))
      ∙ ap (λ (b : Bool). cond (b && unmet a (clause_at cl j)) (suc (among j)) (among j)) (at-holds cl l j (q - 3 * j) (omega arith) (ap (at cl) p ∙ s))
