-- Forcing in any order, and what waits meanwhile: a clause says something else only if it holds a variable that was assigned, and that is noted. So the
-- moves of propagation follow one another, and nothing that could fail or force is forgotten. Assumes nothing.
use mathlib.Core.Path.{◌≡◌, refl, sym, ap, ◌∙◌, subst}
use mathlib.Core.Bool.{Bool, true, false}
use mathlib.Core.Logic.{◌⊎◌, inl, inr, ⊎_elim}
use mathlib.Core.List.Memᴰ
use mathlib.Core.List.{List, [], ◌∷◌, Memᴰ}
use Prim.Native.Nat.{ℕ, suc, ◌+◌, ◌-◌, ◌/◌, ◌%◌, ◌≤◌, ◌<◌}
use native.Mathlib.Decide.{ℕ_discrete, dec_lt}
use native.Mathlib.Omega.{arith}
use lib.IntN.{ℤ, nat_abs}
use lib.ListN.{length, get_or, set, take, length-set}
use lib.Seq.{get_or-set_same, get_or-take, take-take, take-set-le}
use Rattle.clauses.specs.Clause.{Clause, triples}
use Rattle.search.specs.Search.{value, place, mark, make_true, met, unassigned, quiet, forces, says, zeros, settle}
use Rattle.search.specs.Models.{ClausesIn, Forcing, done, step}
use Rattle.propagation.specs.Trail.{first_branch, entry_for, plain, noted, latest_branch, Marked}
use Rattle.propagation.specs.Propagation.{Held, Waits, Calmed, Moved, Every, Queue, Followed, settled_by, Settling, Rested}
use Rattle.search.proofs.Clauses.{Forces, says-forces, scan-quiet, quiet-scan}
use Rattle.search.proofs.Marks.{zero-place, place_in, fewer, lowest-true}
use Rattle.search.proofs.Settled.{forcing_above, any_order_calm, any_order_clash}
use Rattle.propagation.proofs.Literals.{place-number, mark-is}
use Rattle.propagation.proofs.Marked.{kept-mark, given-mark}
use Rattle.propagation.proofs.Unmet.{value-other}
use Rattle.propagation.proofs.Pending.{pending-noted}

-- ---- a clause that does not hold a variable says the same, whatever its mark
module _ (a : List ℕ) (x v : ℕ) where
  met-other : (c : Clause) → ((l : ℤ) → Memᴰ l c → nat_abs l ≡ suc x → ⊥) → met (set a x v) c ≡ met a c
  unfolding met
  met-other [] f = refl
  met-other (l ∷ c) f = rw (value-other a x v l (f l (Memᴰ.head refl)), met-other c (λ k m. f k (Memᴰ.tail m)))

  unassigned-other : (c : Clause) → ((l : ℤ) → Memᴰ l c → nat_abs l ≡ suc x → ⊥) → unassigned (set a x v) c ≡ unassigned a c
  unfolding unassigned
  unassigned-other [] f = refl
  unassigned-other (l ∷ c) f = rw (value-other a x v l (f l (Memᴰ.head refl)), unassigned-other c (λ k m. f k (Memᴰ.tail m)))

  held_or_same : (c : Clause) → Held c x ⊎ (says (set a x v) c ≡ says a c)
  unfolding says
  held_or_same c = ⊎_elim (λ h. inl h) (λ f. inr (rw (met-other c f, unassigned-other c f))) (look c)
    where
      look : (c : Clause) → Held c x ⊎ ((l : ℤ) → Memᴰ l c → nat_abs l ≡ suc x → ⊥)
      look [] = inr (λ l m e. Memᴰ.not-nil m)
      look (k ∷ c) = by (ℕ_discrete (nat_abs k) (suc x)) (look c)
        where
          by : Dec (nat_abs k ≡ suc x) → Held c x ⊎ ((l : ℤ) → Memᴰ l c → nat_abs l ≡ suc x → ⊥)
              → Held (k ∷ c) x ⊎ ((l : ℤ) → Memᴰ l (k ∷ c) → nat_abs l ≡ suc x → ⊥)
          by (yes e) r = inl (k, Memᴰ.head refl, e)
          by (no f) (inl h) = inl (h.0, Memᴰ.tail h.1, h.2)
          by (no f) (inr g) = inr (λ l m e. elim (Memᴰ.cases_cons m) [ inl q ↦ f (ap nat_abs (sym q) ∙ e) | inr n ↦ g l n e ])

  pub held_or_quiet : (c : Clause) → says a c ≡ quiet → (says (set a x v) c ≡ quiet) ⊎ Held c x
  held_or_quiet c q = ⊎_elim (λ h. inr h) (λ e. inl (e ∙ q)) (held_or_same c)

  pub quiet_or_held : (c : Clause) → says (set a x v) c ≡ quiet → (says a c ≡ quiet) ⊎ Held c x
  quiet_or_held c q = ⊎_elim (λ h. inr h) (λ e. inl (sym e ∙ q)) (held_or_same c)

-- ---- what waits
same-plain : (t t' : List ℕ) (n k : ℕ) → take n t' ≡ take n t → k < n → plain t' k ≡ plain t k
same-plain t t' n k e h =
    ap (λ (y : ℕ). y % first_branch) (sym (get_or-take n t' k 0 h) ∙ ap (λ (l : List ℕ). get_or l k 0) e ∙ get_or-take n t k 0 h)

-- from earlier on
pub calmed-from : (c : Clause) (a t : List ℕ) (m n top : ℕ) → m ≤ n → Calmed c a t n top → Calmed c a t m top
calmed-from c a t m n top h = ⊎_elim (λ q. inl q) (λ w. inr (w.0, omega (arith, w.1, h), w.2, w.3))

module _ {cl : List ℤ} {m : ℕ} {a t : List ℕ} {top : ℕ} {a' t' : List ℕ} (M : Moved cl m a t top a' t') where
  -- what waited still does
  pub waits-on : (c : Clause) (n : ℕ) → Waits c t n m → Waits c t' n top
  waits-on c n w = (w.0, w.1, omega (arith, w.2, M.above), subst (λ (x : ℕ). Held c (x / 2)) (sym (same-plain t t' m w.0 M.front w.2)) w.3)

  pub calmed-on : (c : Clause) (n : ℕ) → n ≤ m → Calmed c a t n m → Calmed c a' t' n top
  calmed-on c n h = ⊎_elim (λ q. calmed-from c a' t' n m top h (M.rest c q)) (λ w. inr (waits-on c n w))

  pub marked-on : (n : ℕ) → n ≤ m → ((k : ℕ) → n ≤ k → k < m → Marked a (plain t k)) → (k : ℕ) → n ≤ k → k < top → Marked a' (plain t' k)
  marked-on n h f k l u = by (dec_lt k m)
    where
      by : Dec (k < m) → Marked a' (plain t' k)
      by (yes g) = subst (λ (x : ℕ). Marked a' x) (sym (same-plain t t' m k M.front g)) (kept-mark a a' (plain t k) (forcing_above (triples cl) M.by).0 (f k l g))
      by (no g) = M.marked k (omega (arith, g)) u

-- ---- moves
forcing_then : (cs : List Clause) {a b d : List ℕ} → Forcing cs a b → Forcing cs b d → Forcing cs a d
forcing_then cs done r = r
forcing_then cs (step c l m e s) r = step c l m e (forcing_then cs s r)

pub moved_none : (cl : List ℤ) (n : ℕ) (a t : List ℕ) → Moved cl n a t n a t
moved_none cl n a t =
    record {
      by = done;
      long = refl;
      long_t = refl;
      above = omega arith;
      used = refl;
      back = refl;
      low = omega arith;
      front = refl;
      marked = λ k h g. absurd (omega (arith, h, g));
      rest = λ c q. inl q;
    }

pub moved_then : {cl : List ℤ} {n : ℕ} {a t : List ℕ} {m : ℕ} {b u : List ℕ} {top : ℕ} {d w : List ℕ}
    → Moved cl n a t m b u → Moved cl m b u top d w → Moved cl n a t top d w
moved_then {cl} {n} {a} {t} {m} {b} {u} {top} {d} {w} M N =
    record {
      by = forcing_then (triples cl) M.by N.by;
      long = N.long ∙ M.long;
      long_t = N.long_t ∙ M.long_t;
      above = omega (arith, M.above, N.above);
      used = N.used ∙ M.used;
      back = N.back ∙ M.back;
      low = omega (arith, M.low, N.low);
      front = sym (take-take n m w M.above) ∙ ap (take n) N.front ∙ take-take n m u M.above ∙ M.front;
      marked = marked-on N n M.above M.marked;
      rest = λ c q. calmed-on N c n M.above (M.rest c q);
    }

-- a literal forced by some clause, made true and noted
module _ (cl : List ℤ) (n : ℕ) (a t : List ℕ) (h : ClausesIn (length a) (triples cl)) (c : Clause) (m : Every cl c) (l : ℤ) (e : says a c ≡ forces l) where
  F : Forces a c l
  F = says-forces a c l e

  within : nat_abs l ≤ length a
  within = h c m l F.holds

  pub less : suc (zeros (make_true a l)) ≡ zeros a
  less = fewer a l F.open_l within

  pub in_place : place l < length a
  in_place = place_in a l F.open_l within

  abbrev e' : ℕ
  e' = entry_for (place l) (mark l)

  module _ (room : n < length t) (small : length a < 4096) where
    here : plain (set t n e') n ≡ e'
    here = omega (arith, get_or-set_same t n e' 0 room, in_place, small, mark-is l)

    number : nat_abs l ≡ suc (place l)
    unfolding value
    number = omega (arith, place-number l (λ z. omega (arith, ap (value a) (sym z) ∙ F.open_l)))

    waits : (d : Clause) → Held d (place l) → Waits d (set t n e') n (n + 1)
    waits d w =
        let at : plain (set t n e') n / 2 ≡ place l = omega (arith, here, mark-is l) in
        (n, omega arith, omega arith, subst (λ (x : ℕ). Held d x) (sym at) w)

    pub moved-forced : Moved cl n a t (n + 1) (make_true a l) (set t n e')
    moved-forced =
        record {
          by = step c l m e done;
          long = length-set a (place l) (mark l);
          long_t = length-set t n e';
          above = omega arith;
          used = omega (arith, less);
          back = pending-noted a t (place l) n room (mark l) (zero-place a l F.open_l) (omega (arith, in_place, small)) (mark-is l).0 (mark-is l).1;
          low = lowest-true a l;
          front = take-set-le n t n e' (omega arith);
          marked =
              λ k g u.
              let k-is : k ≡ n = omega (arith, g, u) in
              subst (λ (x : ℕ). Marked (make_true a l) x) (sym (ap (plain (set t n e')) k-is ∙ here)) (given-mark a (place l) (mark l) in_place (mark-is l).0 (mark-is l).1);
          rest = λ d q. ⊎_elim (λ s. inl s) (λ w. inr (waits d w)) (held_or_quiet a (place l) (mark l) d q);
        }

    -- the clause that forced it waits too
    pub forced-waits : Calmed c (make_true a l) (set t n e') n (n + 1)
    forced-waits = inr (waits c (l, F.holds, number))

-- ---- the queue at the start of a node that a branch made
pub queue_branch : (cl : List ℤ) (a t : List ℕ) (n : ℕ) → 0 < n → Rested cl (latest_branch a t n) → Marked a (plain t (n - 1)) → Queue cl a t (n - 1) n
queue_branch cl a t n h r m =
    let x = noted t (n - 1) in
    record {
      marked = λ k g u. let k-is : k ≡ n - 1 = omega (arith, g, u, h) in subst (λ (j : ℕ). Marked a (plain t j)) (sym k-is) m;
      calmed =
          λ c i.
          ⊎_elim (λ q. inl q) (λ w. inr (n - 1, omega arith, omega (arith, h), w)) (quiet_or_held a x 0 c (scan-quiet (set a x 0) (triples cl) r.1 c i));
    }

-- ---- where all that waited was visited propagation has ended, as it does in 01's order
pub followed_settles : {cl : List ℤ} {n : ℕ} {a t : List ℕ} {top : ℕ} {a' t' : List ℕ} → ClausesIn (length a) (triples cl) → (calmly : Bool)
    → Followed cl n a t top a' t' calmly → Settling cl n a t a' t' calmly top
followed_settles {cl} {n} {a} {t} {top} {a'} {t'} h calmly F =
    record { is = ended calmly F; above = F.moved.above; used = F.moved.used; back = F.moved.back; low = F.moved.low }
  where
    ended : (x : Bool) → Followed cl n a t top a' t' x → settled_by x a' ≡ settle (triples cl) a
    ended true F = unfold settled_by in sym (any_order_calm (triples cl) a a' h F.moved.by (quiet-scan a' (triples cl) (F.silent refl)))
    ended false F =
        unfold settled_by in
        let f = F.failing refl in sym (any_order_clash (triples cl) a a' h F.moved.by f.0 f.1 f.2)
