-- The latest clause of a literal: it has the literal, none later has, and from there the way goes on among the clauses before it; and a clause number more is
-- linked by two writes. Assumes nothing.
use mathlib.Core.Path.{◌≡◌, refl, sym, ap, ◌∙◌}
use mathlib.Core.Bool.{Bool, true, false, cond}
use mathlib.Core.List.{List}
use Prim.Native.Nat.{ℕ, zero, suc, ◌+◌, ◌-◌, ◌*◌, ◌/◌, ◌≤◌, ◌<◌}
use native.Mathlib.Decide.{ℕ_discrete}
use native.Mathlib.Omega.{arith}
use borrow.Author.Tests.{eq-eqb, ne_eqb}
use lib.Dec.{eqb}
use lib.IntN.{ℤ, pos, negsuc, nat_abs}
use lib.ListN.{length, get_or, set, length-set}
use lib.Seq.{get_or-set_same, get_or-set_other}
use Rattle.search.specs.Search.{place, mark}
use Rattle.propagation.specs.Links.{made, head_of, joined, latest, Linked}
use Rattle.propagation.proofs.Triples.{at}

-- the j-th clause has the literal that stands at x
abbrev pub Has : List ℤ → ℕ → ℕ → Type 0
Has cl x j = (k : ℕ) × (k < 3) × (head_of (at cl (3 * j + k)) ≡ x)

-- ---- a literal is that which its mark makes true of its variable; where it stands: within the places of v variables, and no other stands there
pub made-number : (i m : ℕ) → nat_abs (made i m) ≡ suc i
unfolding made
made-number i m = by (eqb m 1)
  where
    by : (b : Bool) → nat_abs (cond b (pos (suc i)) (negsuc i)) ≡ suc i
    by true = refl
    by false = refl

pub made_again : (l : ℤ) → (l ≡ pos 0 → ⊥) → made (place l) (mark l) ≡ l
unfolding made place mark
made_again (pos zero) f = absurd (f refl)
made_again (pos (suc n)) f = refl
made_again (negsuc n) f = refl

pub head-low : (v : ℕ) (l : ℤ) → nat_abs l ≤ v → head_of l ≤ 2 * v
unfolding head_of
head-low v (pos n) h = omega arith
head-low v (negsuc n) h = omega arith

pub head-same : (l k : ℤ) → head_of l ≡ head_of k → l ≡ k
unfolding head_of
head-same (pos n) (pos m) e = ap pos (omega (arith, e))
head-same (pos n) (negsuc m) e = absurd (omega (arith, e))
head-same (negsuc n) (pos m) e = absurd (omega (arith, e))
head-same (negsuc n) (negsuc m) e = ap negsuc (omega (arith, e))

-- ---- of two places the one that counts
pub joined-one : (p q : ℕ) → (p + 2) / 3 ≡ (q + 2) / 3 → joined p q ≡ p
unfolding joined
joined-one p q e = simp (eq-eqb ((p + 2) / 3) ((q + 2) / 3) e)

pub joined-two : (p q : ℕ) → ((p + 2) / 3 ≡ (q + 2) / 3 → ⊥) → joined p q ≡ q
unfolding joined
joined-two p q f = simp (ne_eqb ((p + 2) / 3) ((q + 2) / 3) f)

-- ---- the latest place
module _ (cl : List ℤ) (x : ℕ) where
  latest-here : (n : ℕ) → head_of (at cl n) ≡ x → latest cl x (suc n) ≡ joined (latest cl x n) (suc n)
  unfolding latest
  latest-here n e = simp (eq-eqb (head_of (at cl n)) x e)

  latest-before : (n : ℕ) → (head_of (at cl n) ≡ x → ⊥) → latest cl x (suc n) ≡ latest cl x n
  unfolding latest
  latest-before n f = simp (ne_eqb (head_of (at cl n)) x f)

  pub latest_le : (n : ℕ) → latest cl x n ≤ n
  unfolding latest joined
  latest_le zero = omega arith
  latest_le (suc n) = by (eqb (head_of (at cl n)) x) (eqb ((latest cl x n + 2) / 3) ((suc n + 2) / 3)) (latest_le n)
    where
      by : (b d : Bool) → latest cl x n ≤ n → cond b (cond d (latest cl x n) (suc n)) (latest cl x n) ≤ suc n
      by true true h = omega (arith, h)
      by true false h = omega arith
      by false d h = omega (arith, h)

  -- ---- the first m places of the k-th clause: none has the literal, or q is the first that has
  data Turn (k m : ℕ) : Type 0 where
    without : latest cl x (3 * k + m) ≡ latest cl x (3 * k) → ((i : ℕ) → i < m → head_of (at cl (3 * k + i)) ≡ x → ⊥) → Turn k m
    first : (q : ℕ) → 3 * k ≤ q → q < 3 * k + m → latest cl x (3 * k + m) ≡ suc q → head_of (at cl q) ≡ x → latest cl x q ≡ latest cl x (3 * k)
        → Turn k m

  place-more : (k m : ℕ) → m < 3 → Turn k m → Turn k (suc m)
  place-more k m h t = by (ℕ_discrete (head_of (at cl (3 * k + m))) x) t
    where
      on : latest cl x (3 * k + suc m) ≡ latest cl x (suc (3 * k + m))
      on = ap (latest cl x) (omega arith)

      by : Dec (head_of (at cl (3 * k + m)) ≡ x) → Turn k m → Turn k (suc m)
      by (no f) (without e n) = without (on ∙ latest-before (3 * k + m) f ∙ e) (λ i l g. none i l g (ℕ_discrete i m))
        where
          none : (i : ℕ) → i < suc m → head_of (at cl (3 * k + i)) ≡ x → Dec (i ≡ m) → ⊥
          none i l g (yes q) = f (ap (λ (j : ℕ). head_of (at cl (3 * k + j))) (sym q) ∙ g)
          none i l g (no q) = n i (omega (arith, l, q)) g
      by (no f) (first q l u e g s) = first q l (omega (arith, u)) (on ∙ latest-before (3 * k + m) f ∙ e) g s
      by (yes y) (without e n) =
          first (3 * k + m) (omega arith) (omega arith)
          (on ∙ latest-here (3 * k + m) y ∙ joined-two (latest cl x (3 * k + m)) (suc (3 * k + m)) (λ q. omega (arith, q, e, latest_le (3 * k)))) y e
      by (yes y) (first q l u e g s) =
          first q l (omega (arith, u))
          (on ∙ latest-here (3 * k + m) y ∙ joined-one (latest cl x (3 * k + m)) (suc (3 * k + m)) (omega (arith, e, l, u, h)) ∙ e) g s

  clause_more : (k : ℕ) → Turn k 3
  clause_more k =
      let none : Turn k 0 = without (ap (latest cl x) (omega arith)) (λ i h. absurd (omega (arith, h))) in
      place-more k 2 (omega arith) (place-more k 1 (omega arith) (place-more k 0 (omega arith) none))

  next_clause : (k : ℕ) → latest cl x (3 * suc k) ≡ latest cl x (3 * k + 3)
  next_clause k = ap (latest cl x) (omega arith)

  -- none of the first k clauses has it
  pub chain_end : (k : ℕ) → latest cl x (3 * k) ≡ 0 → (j : ℕ) → j < k → Has cl x j → ⊥
  chain_end zero e j h w = omega (arith, h)
  chain_end (suc k) e j h w = by (λ z l. chain_end k z j l w) (clause_more k) (ℕ_discrete j k)
    where
      by : (latest cl x (3 * k) ≡ 0 → j < k → ⊥) → Turn k 3 → Dec (j ≡ k) → ⊥
      by c (without s n) (yes q) = n w.0 w.1 (ap (λ (i : ℕ). head_of (at cl (3 * i + w.0))) (sym q) ∙ w.2)
      by c (without s n) (no q) = c (sym s ∙ sym (next_clause k) ∙ e) (omega (arith, h, q))
      by c (first q l u s g r) d = omega (arith, e, s, next_clause k)

  -- the latest of them that has it: at which place it stands first, and where the way goes on
  pub record Found (k q : ℕ) : Type 0 where
    pub below : q / 3 < k
    pub head : head_of (at cl q) ≡ x
    pub next : latest cl x q ≡ latest cl x (3 * (q / 3))
    pub none : (j : ℕ) → q / 3 < j → j < k → Has cl x j → ⊥

  pub chain_found : (k q : ℕ) → latest cl x (3 * k) ≡ suc q → Found k q
  chain_found zero q e = absurd (omega (arith, e, latest_le (3 * 0)))
  chain_found (suc k) q e = by (chain_found k q) (clause_more k)
    where
      by : (latest cl x (3 * k) ≡ suc q → Found k q) → Turn k 3 → Found (suc k) q
      by c (without s n) =
          let F = c (sym s ∙ sym (next_clause k) ∙ e) in
          record { below = omega (arith, F.below); head = F.head; next = F.next; none = λ j h l w. none F j h l w (ℕ_discrete j k) }
        where
          none : Found k q → (j : ℕ) → q / 3 < j → j < suc k → Has cl x j → Dec (j ≡ k) → ⊥
          none F j h l w (yes p) = n w.0 w.1 (ap (λ (i : ℕ). head_of (at cl (3 * i + w.0))) (sym p) ∙ w.2)
          none F j h l w (no p) = F.none j h (omega (arith, l, p)) w
      by c (first p l u s g r) =
          let q-is : p ≡ q = omega (arith, e, s, next_clause k) in
          let k-is : q / 3 ≡ k = omega (arith, q-is, l, u) in
          record {
            below = omega (arith, k-is);
            head = ap (λ (i : ℕ). head_of (at cl i)) (sym q-is) ∙ g;
            next = ap (latest cl x) (sym q-is) ∙ r ∙ ap (λ (i : ℕ). latest cl x (3 * i)) (sym k-is);
            none = λ j h m w. omega (arith, k-is, h, m);
          }

-- ---- a step down the chain of a literal, from its latest place p among the first k clauses: the clause there, and the place before it
pub record Onward (cl : List ℤ) (v : ℕ) (L : List ℕ) (x k p : ℕ) : Type 0 where
  pub found : Found cl x k (p - 1)
  pub within : 3 * ((p - 1) / 3) + 3 ≤ length cl
  pub inside : 2 * v + p < length L
  pub next : get_or L (2 * v + p) 0 ≡ latest cl x (3 * ((p - 1) / 3))
  pub less : get_or L (2 * v + p) 0 < p

pub onward : (cl : List ℤ) (v : ℕ) (L : List ℕ) → Linked cl v (length cl) L → (x k p : ℕ) → 3 * k ≤ length cl → p ≡ latest cl x (3 * k) → 0 < p
    → Onward cl v L x k p
onward cl v L K x k p low e h =
    let q = p - 1 in
    let q-is : p ≡ suc q = omega (arith, h) in
    let F = chain_found cl x k q (sym e ∙ q-is) in
    let on : get_or L (2 * v + p) 0 ≡ latest cl x q =
    ap (λ (n : ℕ). get_or L (2 * v + n) 0) q-is ∙ K.before q (omega (arith, F.below, low)) ∙ ap (λ (y : ℕ). latest cl y q) F.head in
    record {
      found = F;
      within = omega (arith, F.below, low);
      inside = omega (arith, K.long, F.below, low, q-is);
      next = on ∙ F.next;
      less = omega (arith, on, latest_le cl x q, q-is);
    }

-- ---- linking
pub linked_none : (cl : List ℤ) (v : ℕ) (L : List ℕ) → 2 * v < length L → ((x : ℕ) → x ≤ 2 * v → get_or L x 0 ≡ 0) → Linked cl v 0 L
unfolding latest
linked_none cl v L h z = record { long = omega (arith, h); heads = z; before = λ p g. absurd (omega (arith, g)) }

module _ (cl : List ℤ) (v n : ℕ) (L : List ℕ) (k : Linked cl v n L) (r : suc (2 * v + n) < length L) (x : ℕ) (e : head_of (at cl n) ≡ x) (h : x ≤ 2 * v) where
  abbrev after : List ℕ
  after = set (set L (2 * v + 1 + n) (get_or L x 0)) x (joined (get_or L x 0) (suc n))

  other : (q : ℕ) → (q ≡ x → ⊥) → (q ≡ 2 * v + 1 + n → ⊥) → get_or after q 0 ≡ get_or L q 0
  other q f g = get_or-set_other (set L (2 * v + 1 + n) (get_or L x 0)) x q (joined (get_or L x 0) (suc n)) 0 f ∙ get_or-set_other L (2 * v + 1 + n) q (get_or L x 0) 0 g

  heads : (y : ℕ) → y ≤ 2 * v → Dec (y ≡ x) → get_or after y 0 ≡ latest cl y (suc n)
  heads y l (yes q) =
      ap (λ (j : ℕ). get_or after j 0) q
      ∙ get_or-set_same (set L (2 * v + 1 + n) (get_or L x 0)) x (joined (get_or L x 0) (suc n)) 0 (simp length-set (omega (arith, r, h)))
      ∙ ap (λ (j : ℕ). joined j (suc n)) (k.heads x h ∙ ap (λ (j : ℕ). latest cl j n) (sym q))
      ∙ sym (latest-here cl y n (e ∙ sym q))
  heads y l (no f) = other y f (λ q. omega (arith, q, l)) ∙ k.heads y l ∙ sym (latest-before cl y n (λ q. f (sym q ∙ e)))

  before : (p : ℕ) → p < suc n → Dec (p ≡ n) → get_or after (2 * v + suc p) 0 ≡ latest cl (head_of (at cl p)) p
  before p l (yes q) =
      let i : 2 * v + suc p ≡ 2 * v + 1 + n = omega (arith, q) in
      ap (λ (j : ℕ). get_or after j 0) i
      ∙ get_or-set_other (set L (2 * v + 1 + n) (get_or L x 0)) x (2 * v + 1 + n) (joined (get_or L x 0) (suc n)) 0 (λ j. omega (arith, j, h))
      ∙ get_or-set_same L (2 * v + 1 + n) (get_or L x 0) 0 (omega (arith, r))
      ∙ k.heads x h
      ∙ ap (λ (y : ℕ). latest cl y n) (sym e)
      ∙ ap (λ (j : ℕ). latest cl (head_of (at cl j)) j) (sym q)
  before p l (no f) = other (2 * v + suc p) (λ q. omega (arith, q, h)) (λ q. f (omega (arith, q))) ∙ k.before p (omega (arith, l, f))

  pub linked_next : Linked cl v (suc n) after
  linked_next =
      record {
        long = simp length-set (omega (arith, r));
        heads = λ y l. heads y l (ℕ_discrete y x);
        before = λ p l. before p l (ℕ_discrete p n);
      }
