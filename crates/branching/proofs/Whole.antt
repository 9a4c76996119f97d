-- The whole of what is left to do, a node at a time: the node at hand fails, ends in yes, or branches, and the rest is the whole again. Assumes nothing.
use mathlib.Core.Path.{◌≡◌, refl, sym, ap, ◌∙◌, subst}
use mathlib.Core.Bool.{true, false, cond}
use mathlib.Core.Logic.{inl, inr, ⊎_elim}
use mathlib.Core.List.{List, [], ◌∷◌, Memᴰ}
use Prim.Native.Nat.{ℕ, suc, ◌+◌, ◌-◌, ◌*◌, ◌%◌, ◌≤◌, ◌<◌}
use native.Mathlib.Nat.{add_assoc}
use native.Mathlib.Decide.{ℕ_discrete}
use native.Mathlib.Omega.{arith}
use borrow.Author.Tests.{eq-eqb, ne_eqb}
use lib.Dec.{eqb}
use lib.ListN.{length, get_or, set, replicate, length-set}
use lib.Seq.{set-set, set-get_or, get_or-set_same, get_or-set_other}
use lib.IntN.{ℤ}
use Rattle.clauses.specs.Clause.{Clause, triples}
use Rattle.search.specs.Search.{all_met, zeros, lowest, clash, calm, settle, Run, sat, unsat, plus, on_first, node, run, nodes}
use Rattle.search.specs.Models.{ClausesIn}
use Rattle.propagation.specs.Unmet.{unmet_among}
use Rattle.propagation.specs.Trail.{first_branch, entry_for, plain, noted, Branch, branch, second, pending, latest_branch, AllSaved, Branched, Entered, Marked}
use Rattle.propagation.specs.Propagation.{settled_by, Settling, Rested, Started}
use Rattle.branching.specs.Nodes.{node_of, on_fail, finished, whole, above, Stepped}
use Rattle.std.specs.Prelude.{Some, None}
use Rattle.branching.specs.declared.branch.Verdict.TheVariants.{Yes as VerdictYes, No as VerdictNo}
use Rattle.search.proofs.Marks.{zeros-none, zeros-set, zeros-pos, lowest-past}
use Rattle.propagation.proofs.Marked.{marked_in, given-mark}
use Rattle.propagation.proofs.Pending.{pending-branch, branch-noted, plain-last, pending-entry}
use Rattle.search.proofs.Settled.{ends-calm}
use Rattle.search.proofs.Nodes.{Branches, branch-is, enough, node-clash, node-met, node-branch, nodes-plus, some-nodes}

-- ---- nodes entered before
pub plus-plus : (m n : ℕ) (R : Run) → plus m (plus n R) ≡ plus (m + n) R
plus-plus m n (sat b q) = ap (sat b) (sym (add_assoc m n q))
plus-plus m n (unsat q) = ap unsat (sym (add_assoc m n q))

pub plus_none : (R : Run) → R ≡ plus 0 R
plus_none (sat b n) = ap (sat b) (omega arith)
plus_none (unsat n) = ap unsat (omega arith)

finished-plus : (cs : List Clause) (m : ℕ) (Y : Run) (P : List Branch) → finished cs (plus m Y) P ≡ plus m (finished cs Y P)
unfolding finished
finished-plus cs m Y [] = refl
finished-plus cs m (sat b q) (d ∷ P) = refl
finished-plus cs m (unsat q) (d ∷ P) = sym (plus-plus m q (finished cs (node_of cs (second d)) P))

finished-first : (cs : List Clause) (X : Run) (d : Branch) (P : List Branch)
    → finished cs (on_first X (λ n. plus n (node_of cs (second d)))) P ≡ plus 1 (finished cs X (d ∷ P))
unfolding finished
finished-first cs (sat b n) d [] = refl
finished-first cs (sat b n) d (e ∷ P) = refl
finished-first cs (unsat n) d P = finished-plus cs (1 + n) (node_of cs (second d)) P ∙ sym (plus-plus 1 n (finished cs (node_of cs (second d)) P))

-- ---- one node, with the branches P pending
module _ (cs : List Clause) (a : List ℕ) (P : List Branch) where
  -- it fails, and there is nothing to go back to
  pub whole-none : settle cs a ≡ clash → P ≡ [] → finished cs (node_of cs a) P ≡ unsat 1
  unfolding finished node_of
  whole-none e p = ap (finished cs (node_of cs a)) p ∙ node-clash (zeros a) cs a e

  -- it fails, and the latest pending branch is next
  pub whole_back : (d : Branch) (Q : List Branch) → settle cs a ≡ clash → P ≡ d ∷ Q
      → finished cs (node_of cs a) P ≡ plus 1 (finished cs (node_of cs (second d)) Q)
  unfolding finished node_of
  whole_back d Q e p =
      ap (finished cs (node_of cs a)) p ∙ ap (λ (R : Run). on_fail R (λ n. plus n (finished cs (node_of cs (second d)) Q))) (node-clash (zeros a) cs a e)

  -- yes
  pub whole-yes : (b : List ℕ) → settle cs a ≡ calm b → all_met b cs ≡ true → finished cs (node_of cs a) P ≡ sat b 1
  unfolding node_of
  whole-yes b e m = ap (λ (R : Run). finished cs R P) (node-met (zeros a) cs a b e m) ∙ ends P
    where
      ends : (P : List Branch) → finished cs (sat b 1) P ≡ sat b 1
      ends [] = unfold finished in refl
      ends (d ∷ P) = unfold finished in refl

  -- it branches: the first branch is next, and the second is pending
  pub whole-branch : (e : ℕ) (b : List ℕ) → ClausesIn (length a) cs → settle cs a ≡ calm b → all_met b cs ≡ false
      → finished cs (node_of cs a) P ≡ plus 1 (finished cs (node_of cs (set b (lowest b) 1)) (branch e (lowest b) b ∷ P))
  unfolding node_of
  whole-branch e b h c m =
      let B = branch-is cs a b h c m in
      let i = lowest b in
      let side : (v : ℕ) → node (zeros a) cs (set b i (suc v)) ≡ node_of cs (set b i (suc v)) =
      λ v. enough (zeros a) (suc (zeros (set b i (suc v)))) cs (set b i (suc v)) (B.side_in (suc v)) (B.side_fewer v) (omega arith) in
      ap (λ (R : Run). finished cs R P)
      (node-branch (zeros a) cs a b c m
      ∙ ap (λ (R : Run). on_first R (λ n. plus n (node (zeros a) cs (set b i 2)))) (side 0)
      ∙ ap (λ (R : Run). on_first (node_of cs (set b i 1)) (λ n. plus n R)) (side 1))
      ∙ finished-first cs (node_of cs (set b i 1)) (branch e i b) P

  -- there is a node left
  pub whole-some : 0 < nodes (finished cs (node_of cs a) P)
  unfolding node_of
  whole-some = by (node (suc (zeros a)) cs a) P (some-nodes (suc (zeros a)) cs a)
    where
      by : (R : Run) (P : List Branch) → 0 < nodes R → 0 < nodes (finished cs R P)
      by R [] h = unfold finished in h
      by (sat b n) (d ∷ P) h = unfold finished in h
      by (unsat n) (d ∷ P) h = unfold finished nodes in omega (arith, h, nodes-plus n (finished cs (node_of cs (second d)) P))

-- the root
pub run_is : (cs : List Clause) (v : ℕ) (a : List ℕ) → a ≡ replicate v 0 → node_of cs a ≡ run v cs
unfolding node_of run
run_is cs v a e = ap (node_of cs) e ∙ ap (λ (k : ℕ). node (suc k) cs (replicate v 0)) (zeros-none v)

-- ---- what the parts of a node promise makes what the node promises
module _ {cl : List ℤ} {n : ℕ} {a t b u : List ℕ} {top : ℕ} where
  calmly : Settling cl n a t b u true top → settle (triples cl) a ≡ calm b
  unfolding settled_by
  calmly S = sym S.is

  clashed : Settling cl n a t b u false top → settle (triples cl) a ≡ clash
  unfolding settled_by
  clashed S = sym S.is

  pub stepped_yes : Settling cl n a t b u true top → all_met b (triples cl) ≡ true → (sv : List ℕ) (v : ℕ) → Stepped cl n a t b u sv top v (Some VerdictYes)
  stepped_yes S m sv v = whole-yes (triples cl) a (pending a t n) b (calmly S) m

  -- it branches: some variable is unassigned, and so there is room on the trail
  module _ (h : ClausesIn (length a) (triples cl)) (S : Settling cl n a t b u true top) (m : all_met b (triples cl) ≡ false) where
    abbrev B : Branches (triples cl) a b
    B = branch-is (triples cl) a b h (calmly S) m

    abbrev i : ℕ
    i = lowest b

    pub branch_open : 0 < zeros b
    branch_open = zeros-pos b i B.low B.open_low

    module _ (f : length a < 4096) (l : top < length u) where
      small : 2 * i + 1 < first_branch
      small = omega (arith, B.low, B.long, f)

      after : pending (set b i 1) (set u top (entry_for i 1 + first_branch)) (top + 1) ≡ branch top i b ∷ pending a t n
      after = pending-branch b u i top l small 1 B.open_low ∙ ap (λ (P : List Branch). branch top i b ∷ P) S.back

      -- what holds of the new branch and of those that were pending holds of all that are
      each : {Q : Branch → Type 0} → Q (branch top i b) → ((d : Branch) → Memᴰ d (pending a t n) → Q d)
          → (d : Branch) → Memᴰ d (pending (set b i 1) (set u top (entry_for i 1 + first_branch)) (top + 1)) → Q d
      each {Q} o p d k =
          elim (mathlib.Core.List.Memᴰ.cases_cons (subst (λ (P : List Branch). Memᴰ d P) after k)) [ inl e ↦ subst (λ (x : Branch). Q x) (sym e) o | inr j ↦ p d j ]

      started : Started cl a t n → Started cl (set b i 1) (set u top (entry_for i 1 + first_branch)) (top + 1)
      started s =
          let told : plain (set u top (entry_for i 1 + first_branch)) (top + 1 - 1) ≡ entry_for i 1 = omega (arith, plain-last u top (entry_for i 1 + first_branch) l, small) in
          let rested : Rested cl (branch top i b) = (refl, (ends-calm (triples cl) a h b (calmly S)).silent) in
          record {
            made =
                inr (
                  subst (λ (d : Branch). Rested cl d) (sym (branch-noted b u i top l small 1 B.open_low)) rested,
                  subst (λ (e : ℕ). Marked (set b i 1) e) (sym told) (given-mark b i 1 B.low (omega arith) (omega arith)),
                );
            left = each rested s.left;
          }

      -- the number of unmet clauses is saved for it, and what was saved for the others stands
      saved : (sv : List ℕ) → top < length sv → AllSaved cl sv (pending a t n)
          → AllSaved cl (set sv top (unmet_among b (triples cl))) (pending (set b i 1) (set u top (entry_for i 1 + first_branch)) (top + 1))
      saved sv m p =
          each (B.low, get_or-set_same sv top (unmet_among b (triples cl)) 0 m)
          (λ d k. ((p d k).0, get_or-set_other sv top d.entry (unmet_among b (triples cl)) 0 (λ e. omega (arith, e, entry d k)) ∙ (p d k).1))
        where
          entry : (d : Branch) → Memᴰ d (pending a t n) → d.entry < top
          entry d k = pending-entry b u top d (subst (λ (P : List Branch). Memᴰ d P) (sym S.back) k)

      pub stepped_branch : Started cl a t n → (sv : List ℕ) → top < length sv → AllSaved cl sv (pending a t n)
          → {b' u' sv' : List ℕ} {k v : ℕ} → Branched cl top b u sv b' u' sv' k v → Stepped cl n a t b' u' sv' k v None
      stepped_branch s sv o p {b'} {u'} {sv'} {k} {v} R =
          subst (λ (x : ℕ). Stepped cl n a t b' u' sv' x v None) (sym R.leads)
          record {
            is =
                whole-branch (triples cl) a (pending a t n) top b h (calmly S) m
                ∙ ap (λ (P : List Branch). plus 1 (finished (triples cl) (node_of (triples cl) (set b i 1)) P)) (sym after)
                ∙ ap (λ (x : List ℕ). plus 1 (whole cl x (set u top (entry_for i 1 + first_branch)) (top + 1))) (sym R.marks)
                ∙ ap (λ (x : List ℕ). plus 1 (whole cl b' x (top + 1))) (sym R.notes);
            room = omega (arith, S.used, ap zeros R.marks, zeros-set b i 0 B.low B.open_low);
            started = rw (R.marks, R.notes) (started s);
            saved = rw (R.marks, R.notes, R.saves) (saved sv o p);
            counts = R.unmet;
          }

  pub stepped_none : Settling cl n a t b u false top → (sv : List ℕ) → (b' u' : List ℕ) (k v : ℕ) → Entered cl top b u b' u' k v false → Stepped cl n a t b' u' sv k v (Some VerdictNo)
  stepped_none S sv b' u' k v e = whole-none (triples cl) a (pending a t n) (clashed S) (sym S.back ∙ e.0)

  pub stepped_back : Settling cl n a t b u false top → Started cl a t n → (sv : List ℕ) → AllSaved cl sv (pending a t n)
      → (b' u' : List ℕ) (k v : ℕ) → Entered cl top b u b' u' k v true → Stepped cl n a t b' u' sv k v None
  stepped_back S s sv p b' u' k v e =
      let d = latest_branch b' u' k in
      let is : pending a t n ≡ d ∷ pending b' u' k = sym S.back ∙ e.is in
      let kept : (x : Branch) → Memᴰ x (d ∷ pending b' u' k) → Memᴰ x (pending a t n) =
      λ x j. subst (λ (P : List Branch). Memᴰ x P) (sym is) j in
      let latest : Memᴰ d (pending a t n) = kept d (mathlib.Core.List.Memᴰ.head refl) in
      record {
        is =
            whole_back (triples cl) a (pending a t n) d (pending b' u' k) (clashed S) is
            ∙ ap (λ (x : List ℕ). plus 1 (finished (triples cl) (node_of (triples cl) x) (pending b' u' k))) (sym e.marks);
        room = omega (arith, e.room, S.used);
        started =
            record {
              made =
                  inr (
                    s.left d latest,
                    e.told,
                  );
              left = λ x j. s.left x (kept x (mathlib.Core.List.Memᴰ.tail j));
            };
        saved = λ x j. p x (kept x (mathlib.Core.List.Memᴰ.tail j));
        counts = e.counts;
      }

-- ---- no variable is unassigned below the place above the branch at which a node is entered
module _ (cl : List ℤ) (a t : List ℕ) (n : ℕ) (s : Started cl a t n) where
  abbrev x : ℕ
  x = noted t (n - 1)

  past : x ≡ lowest (set a x 0) → Marked a (plain t (n - 1)) → x + 1 ≤ lowest a
  past e m =
      let v = plain t (n - 1) % 2 in
      let in-a : x < length a = marked_in a (plain t (n - 1)) m in
      let some : 0 < zeros (set a x 0) = zeros-pos (set a x 0) x (omega (arith, in-a, length-set a x 0)) (get_or-set_same a x 0 0 in-a) in
      let q : get_or a x 0 ≡ suc v = m ∙ omega arith in
      let again : set (set a x 0) (lowest (set a x 0)) (suc v) ≡ a =
      ap (λ (k : ℕ). set (set a x 0) k (suc v)) (sym e) ∙ set-set a x 0 (suc v) ∙ ap (set a x) (sym q) ∙ set-get_or a x 0 in
      omega (arith, ap lowest again, lowest-past (set a x 0) v some, e)

  pub above_low : above t n ≤ lowest a
  unfolding above
  above_low = by (ℕ_discrete n 0)
    where
      by : Dec (n ≡ 0) → cond (eqb n 0) 0 (x + 1) ≤ lowest a
      by (yes e) = rw (eq-eqb n 0 e) (omega arith)
      by (no f) = rw (ne_eqb n 0 f) (⊎_elim (λ e. absurd (f e)) (λ r. past r.0.0 r.1) s.made)
