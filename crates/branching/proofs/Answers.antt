-- The answer within a budget: which cases there are, what each says of the run, and that there is one outcome only. Assumes nothing.
use mathlib.Core.Path.{◌≡◌, refl, sym, ap, ◌∙◌, subst}
use mathlib.Core.Bool.{Bool, true, false}
use mathlib.Core.List.{List, map}
use Prim.Native.Nat.{ℕ, ◌%◌, ◌≤◌, ◌<◌}
use borrow.Author.Tests.{leb-true, leb-false, le-leb, lt-leb}
use lib.ListN.{length, replicate}
use lib.IntN.{ℤ}
use Rattle.clauses.specs.Clause.{triples}
use Rattle.search.specs.Search.{Run, sat, unsat, run, nodes, final, finishes, left}
use Rattle.branching.specs.Answered.{verdict, answer, Answered}
use Rattle.branching.specs.Nodes.{Ran, left_by}
use Rattle.branching.specs.declared.Outcome.{Outcome}
use Rattle.branching.specs.declared.Outcome.TheVariants.{Yes, No, Stopped}

-- ---- from the run to the answer
module _ (budget v : ℕ) (R : Run) where
  pub in-time : nodes R ≤ budget → (answer budget R ≡ verdict R) × (left budget v R ≡ final v R)
  unfolding answer left finishes
  in-time h = (simp (le-leb (nodes R) budget h), simp (le-leb (nodes R) budget h))

  pub too-late : budget < nodes R → (answer budget R ≡ Stopped budget) × (left budget v R ≡ replicate v 0)
  unfolding answer left finishes
  too-late h = (simp (lt-leb (nodes R) budget h), simp (lt-leb (nodes R) budget h))

  answer-yes : (b : List ℕ) (n : ℕ) → n ≤ budget → R ≡ sat b n → (Yes n ≡ answer budget R) × (map (λ x. x % 2) b ≡ left budget v R)
  unfolding verdict final nodes
  answer-yes b n h e =
      let t = in-time (subst (λ (X : Run). nodes X ≤ budget) (sym e) h) in
      (sym (t.0 ∙ ap verdict e), sym (t.1 ∙ ap (final v) e))

  answer-no : (n : ℕ) → n ≤ budget → R ≡ unsat n → (No n ≡ answer budget R) × (replicate v 0 ≡ left budget v R)
  unfolding verdict final nodes
  answer-no n h e =
      let t = in-time (subst (λ (X : Run). nodes X ≤ budget) (sym e) h) in
      (sym (t.0 ∙ ap verdict e), sym (t.1 ∙ ap (final v) e))

  answer-stopped : (n : ℕ) → n ≡ budget → budget < nodes R → (Stopped n ≡ answer budget R) × (replicate v 0 ≡ left budget v R)
  answer-stopped n e h = let t = too-late h in (ap Stopped e ∙ sym t.0, sym t.1)

  pub answer-ran : (a : List ℕ) → length a ≡ v → (o : Outcome) → Ran R budget a o → (o ≡ answer budget R) × (left_by o a ≡ left budget v R)
  answer-ran a e (Yes n) h = answer-yes a n h.0 h.1
  answer-ran a e (No n) h = let y = answer-no n h.0 h.1 in (y.0, ap (λ (k : ℕ). replicate k 0) e ∙ y.1)
  answer-ran a e (Stopped n) h = let y = answer-stopped n h.0 h.1 in (y.0, ap (λ (k : ℕ). replicate k 0) e ∙ y.1)

-- ---- from the answer to the run: what each case says of it, of the values left and of the count
abbrev pub Means : ℕ → ℕ → Run → List ℕ → Outcome → Type 0
Means budget v R values (Yes n) = (b : List ℕ) × ((R ≡ sat b n) × (n ≤ budget) × (values ≡ map (λ x. x % 2) b))
Means budget v R values (No n) = (R ≡ unsat n) × (n ≤ budget) × (values ≡ replicate v 0)
Means budget v R values (Stopped n) = (n ≡ budget) × (budget < nodes R) × (values ≡ replicate v 0)

answer-means : (budget v : ℕ) (R : Run) → Means budget v R (left budget v R) (answer budget R)
answer-means budget v R = by (finishes budget R) refl
  where
    done : (R : Run) → nodes R ≤ budget → Means budget v R (final v R) (verdict R)
    done (sat b n) h = unfold verdict final nodes in (b, (refl, h, refl))
    done (unsat n) h = unfold verdict final nodes in (refl, h, refl)

    by : (x : Bool) → finishes budget R ≡ x → Means budget v R (left budget v R) (answer budget R)
    by true e =
        let h : nodes R ≤ budget = unfold finishes in leb-true (nodes R) budget e in
        let t = in-time budget v R h in
        subst (λ (r : Outcome). Means budget v R (left budget v R) r) (sym t.0) (subst (λ (a : List ℕ). Means budget v R a (verdict R)) (sym t.1) (done R h))
    by false e =
        let h : budget < nodes R = unfold finishes in leb-false (nodes R) budget e in
        let t = too-late budget v R h in
        subst (λ (r : Outcome). Means budget v R (left budget v R) r) (sym t.0) (refl, h, t.1)

pub answered-means : {cl : List ℤ} {a t : List ℕ} {budget : ℕ} {a' t' : List ℕ} {r : Outcome} → Answered cl a t budget a' t' r
    → Means budget (length a) (run (length a) (triples cl)) a' r
answered-means {cl} {a} {t} {budget} {a'} {t'} {r} A =
    let v = length a in
    let R = run v (triples cl) in
    subst (λ (x : Outcome). Means budget v R a' x) (sym A.gives) (subst (λ (x : List ℕ). Means budget v R x (answer budget R)) (sym A.leaves) (answer-means budget v R))
