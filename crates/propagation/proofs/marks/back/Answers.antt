use Rattle.std.proofs.Common.{rules, Option, None}
use mathlib.Core.Path.{◌≡◌, refl, sym, ap, subst, ◌∙◌}
use mathlib.Core.List.{List, Memᴰ}
use Prim.Native.Nat.{ℕ, ◌+◌, ◌-◌, ◌*◌, ◌≤◌, ◌<◌}
use native.Mathlib.Omega.{arith}
use lib.IntN.{ℤ}
use lib.ListN.{length, get_or, set, length-set}
use lib.Seq.{set-set, get_or-set_same}
use Rattle.search.specs.Search.{zeros}
use Rattle.propagation.specs.Unmet.{Counts}
use Rattle.propagation.specs.Trail.{first_branch, entry_for, plain, noted, Marked, Branch, branch, pending, Saved, Undone, Resumed, Backed}
use Rattle.search.proofs.Marks.{zeros-unset, zeros-made}
use Rattle.propagation.proofs.Marked.{given-mark}
use Rattle.propagation.proofs.Pending.{pending_none, pending-first, plain-last, pending-turned, second-noted}
use Rattle.propagation.specs.declared.marks.Second.{Second}
use Rattle.propagation.proofs.marks.back.Goals as goal
use Rattle.propagation.proofs.marks.back.Goals.{After-put}

-- after all was undone up to the latest first branch, and that
module _ (P : After-put) where
  abbrev cl : List ℤ
  cl = P.args.formula.clauses.now

  abbrev a : List ℕ
  a = P.args.values.now

  abbrev t : List ℕ
  t = P.args.trail.now

  abbrev n : ℕ
  n = P.args.n

  abbrev k : ℕ
  k = P.in_ok-k.k

  abbrev u : List ℕ
  u = P.undo.new.values

  abbrev b : List ℕ
  b = P.put.new.values

  abbrev i : ℕ
  i = noted t k

  noted_is : P.noted-i.result ≡ i
  noted_is = P.noted-i.ensures

  undone : b ≡ set u i 0
  undone = P.put.ensures.0 ∙ ap (λ (j : ℕ). set u j 0) noted_is

  U : Undone t (k + 1) n a u
  U = P.undo.ensures.0

  first : first_branch ≤ get_or t k 0
  first = P.in_ok-k.ensures.1

  in-trail : k < length t
  in-trail = omega (arith, P.in_ok-k.ensures.0, P.requires.2)

  abbrev d : Branch
  d = branch k i (set u i 0)

  latest : Memᴰ d (pending a t n)
  latest = subst (λ (Q : List Branch). Memᴰ d Q) (sym (pending-first u t k first) ∙ U.left) (Memᴰ.head refl)

  saved : Saved cl P.args.saved.now d
  saved = P.requires.4 d latest

  in-values : i < length b
  in-values = omega (arith, saved.0, ap length undone)

  unset : get_or b i 0 ≡ 0
  unset = ap (λ (y : List ℕ). get_or y i 0) undone ∙ get_or-set_same u i 0 0 (omega (arith, saved.0, length-set u i 0))

  counts : Counts cl b (get_or P.args.saved.now k 0)
  counts = subst (λ (y : List ℕ). Counts cl y (get_or P.args.saved.now k 0)) (sym undone) saved.1

  long : length b ≡ length a
  long = omega (arith, ap length undone, length-set u i 0, U.long)

  used : k + zeros b ≤ n + zeros a
  used = omega (arith, U.used, ap zeros undone, zeros-unset u i)

  told : Marked (set u i 2) (plain (set t k (2 * i + 1)) (k + 1 - 1))
  told =
      let e : plain (set t k (2 * i + 1)) (k + 1 - 1) ≡ entry_for i 2 = omega (arith, plain-last t k (2 * i + 1) in-trail) in
      subst (λ (y : ℕ). Marked (set u i 2) y) (sym e) (given-mark u i 2 (omega (arith, saved.0, length-set u i 0)) (omega arith) (omega arith))

  resumed : (b' t' : List ℕ) (x : ℕ) → b' ≡ set b i 2 → t' ≡ set t k (2 * i + 1) → Counts cl b' x → Resumed cl n a t b' t' (k + 1) x
  resumed b' t' x e f q =
      let again : b' ≡ set u i 2 = e ∙ ap (λ (y : List ℕ). set y i 2) undone ∙ set-set u i 0 2 in
      rw (again, f)
      record {
        is = sym U.left ∙ pending-turned u t i k in-trail first refl;
        told = told;
        marks = second-noted u t i k in-trail first refl;
        room = omega (arith, U.used, zeros-made u i 1);
        counts = subst (λ (y : List ℕ). Counts cl y x) again q;
      }

pub returns-in_err-k : goal.returns-in_err-k
returns-in_err-k c =
    let a = c.args.values.now in
    let t = c.args.trail.now in
    let e : c.from_residual.result ≡ None = search rules in
    (subst (λ (o : Option Second). Backed c.args.formula.clauses.now c.args.n a t a t o) (sym e) (pending_none a t c.args.n c.in_err-k.ensures, refl, refl), c.requires.1)

pub assign-unmet-requires : goal.assign-unmet-requires
assign-unmet-requires c =
    let P = (goal.at.assign-unmet-requires c).After-put in (
      long P ∙ c.requires.0,
      c.put.ensures.1,
      subst (λ (j : ℕ). j < length (b P)) (sym (noted_is P)) (in-values P),
      ap (λ (j : ℕ). get_or (b P) j 0) (noted_is P) ∙ unset P,
      omega arith,
      omega arith,
      counts P,
    )

pub returns : goal.returns
returns c =
    let P = (goal.at.returns c).After-put in
    let w : c.entry.result ≡ 2 * i P + 1 = c.entry.ensures ∙ omega (arith, noted_is P) in
    let A = c.assign-unmet.ensures in (
      resumed P c.assign-unmet.new.values (set (t P) (k P) c.entry.result) c.assign-unmet.result
          (A.0 ∙ ap (λ (j : ℕ). set (b P) j 2) (noted_is P)) (ap (set (t P) (k P)) w) A.2,
      A.1,
    )
