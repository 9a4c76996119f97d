use Rattle.std.proofs.Common.{rules}
use mathlib.Core.Path.{◌≡◌, refl, sym, ap, subst, ◌∙◌}
use mathlib.Core.Bool.{Bool, true, false, not, ◌&&◌, cond}
use mathlib.Core.List.{List}
use Prim.Native.Nat.{ℕ, suc, ◌+◌, ◌-◌, ◌*◌, ◌/◌, ◌≤◌}
use native.Mathlib.Omega.{arith}
use lib.ListN.{length, get_or, take}
use lib.IntN.{ℤ, nat_abs}
use Rattle.clauses.specs.Clause.{Clause, triples}
use Rattle.search.specs.Search.{met}
use Rattle.propagation.specs.Links.{made, head_of, latest, Linked}
use Rattle.propagation.specs.Ready.{Ready}
use Rattle.propagation.specs.Judging.{Shown, Shows, clause_at}
use Rattle.propagation.specs.Way.{Down}
use Rattle.propagation.specs.declared.formula.Formula.{Formula}
use Rattle.propagation.specs.declared.holders.Holders.{Holders}
use Rattle.propagation.specs.Unmet.{unmet, holds, unmet_with}
use Rattle.propagation.proofs.Triples.{shown-at}
use Rattle.propagation.proofs.States.{shown_of}
use Rattle.propagation.proofs.Latest.{made-number, head-low, Onward, onward}
use Rattle.propagation.proofs.Unmet.{number_most, first-all, among_end, among-found}
use Rattle.propagation.proofs.marks.unmet_with.Goals as goal
use Rattle.propagation.proofs.marks.unmet_with.Invariants.{Way}
use Rattle.propagation.proofs.marks.unmet_with.Goals.{After-clause_at, After-met, In-Some, Start}

module _ (s : Start) where
  abbrev cl : List ℤ
  cl = s.args.formula.clauses.now

  abbrev L : List ℕ
  L = s.args.formula.links.now

  abbrev w : List ℕ
  w = s.args.truth.now

  abbrev F : Formula
  F = s.args.formula

  abbrev v : ℕ
  v = s.args.formula.variables

  abbrev l : ℤ
  l = made s.args.i s.args.m

  abbrev x : ℕ
  x = head_of l

  abbrev all : ℕ
  all = s.args.formula.many

  linked : Linked cl v (length cl) L
  linked = s.args.formula.linked

  shown : (a : List ℕ) → Shows F w a → Shown cl all a w
  shown a M = shown_of F M.0 M.1

  abbrev ready : Ready cl all v
  ready = F.ready

  number_in : nat_abs l ≤ v
  number_in = omega (arith, made-number s.args.i s.args.m, s.requires.0)

  head_in : x ≤ 2 * v
  head_in = head-low v l number_in

  starts : (p : ℕ) → p ≡ get_or L x 0 → Way F w l p 0
  starts p e =
      record {
        k = all;
        low = omega (arith, ready.long);
        is = e ∙ linked.heads x head_in ∙ ap (latest cl x) ready.long;
        sum = λ a M. omega (arith, first-all (λ c. holds l c && unmet a c) cl all ready.long);
      }

-- in a turn
module _ (c : In-Some) where
  abbrev Z : Start
  Z = (goal.at.In-Some c).Start

  abbrev p : ℕ
  p = c.loop-j.j-iterator.place

  abbrev D : Down c.loop-j.j-iterator c.in-Some.j c.next.new.self
  D = c.in-Some.ensures.steps

  abbrev I : Way (F Z) (w Z) (l Z) p c.loop-j.many
  I = c.loop-j.invariant.0

  abbrev i : ℕ
  i = (p - 1) / 3

  on : Onward (cl Z) (v Z) (L Z) (x Z) I.k p
  on = onward (cl Z) (v Z) (L Z) (linked Z) (x Z) I.k p I.low I.is D.some

  next_is : c.next.new.self.place ≡ get_or (L Z) (2 * v Z + p) 0
  next_is = D.next ∙ ap (λ (F : Formula). get_or F.links.now (2 * F.variables + p) 0) c.loop-j.invariant.1

-- the clause that was read
module _ (c : After-clause_at) where
  abbrev T : In-Some
  T = (goal.at.After-clause_at c).In-Some

  read_is : c.clause_at.result ≡ clause_at (cl (Z T)) (i T)
  read_is = c.clause_at.ensures ∙ ap (clause_at (cl (Z T))) (D T).gives

  shown-read : (a : List ℕ) → Shows (F (Z T)) (w (Z T)) a → Shown c.clause_at.result 1 a (w (Z T))
  shown-read a M = subst (λ (d : Clause). Shown d 1 a (w (Z T))) (sym read_is) (shown-at (i T) (shown (Z T) a M))

-- the sum with it, if it is unmet
module _ (c : After-met) where
  abbrev R : After-clause_at
  R = (goal.at.After-met c).After-clause_at

  abbrev Y : Start
  Y = Z (T R)

  abbrev among : List ℕ → ℕ → ℕ
  among a k = unmet_with a (l Y) (take k (triples (cl Y)))

  module _ (a : List ℕ) (M : Shows (F Y) (w Y) a) where
    is-met : c.met.result ≡ met a (clause_at (cl Y) (i (T R)))
    is-met = c.met.ensures a (shown-read R a M) ∙ ap (met a) (read_is R)

    sums : (b : Bool) → not c.met.result ≡ b → among a (I (T R)).k ≡ cond b (suc (among a (i (T R)))) (among a (i (T R)))
    sums b e =
        among-found (cl Y) a (l Y) (I (T R)).k (p (T R) - 1) (I (T R)).low (sym (I (T R)).is ∙ omega (arith, (D (T R)).some))
        ∙ ap (λ (y : Bool). cond y (suc (among a (i (T R)))) (among a (i (T R)))) (ap not (sym is-met) ∙ e)

    few_of : c.loop-j.many ≤ 65536
    few_of = omega (arith, (I (T R)).sum a M, number_most (λ d. holds (l Y) d && unmet a d) (cl Y) (all Y) (ready Y).long, (ready Y).few)

    summed : (b : Bool) (n : ℕ) → not c.met.result ≡ b → n ≡ cond b (suc c.loop-j.many) c.loop-j.many → n + among a (i (T R)) ≡ unmet_with a (l Y) (triples (cl Y))
    summed true n e f = omega (arith, f, sums true e, (I (T R)).sum a M)
    summed false n e f = omega (arith, f, sums false e, (I (T R)).sum a M)

  few : c.loop-j.many ≤ 65536
  few = few_of c.requires.1 c.requires.2

  goes_on : (b : Bool) (n : ℕ) → not c.met.result ≡ b → n ≡ cond b (suc c.loop-j.many) c.loop-j.many → Way (F Y) (w Y) (l Y) c.next.new.self.place n
  goes_on b n e f =
      record {
        k = i (T R);
        low = omega (arith, (on (T R)).within);
        is = next_is (T R) ∙ (on (T R)).next;
        sum = λ a M. summed a M b n e f;
      }

pub head-requires : goal.head-requires
head-requires c = omega (arith, c.requires.0, c.args.formula.ready.small)

pub holders-j-items-requires : goal.holders-j-items-requires
holders-j-items-requires c = omega (arith, c.head.ensures, head_in (goal.at.holders-j-items-requires c).Start)

pub loop-j-init : goal.loop-j-init
loop-j-init c =
    let s = (goal.at.loop-j-init c).Start in
    let g = c.into_iter-j-iterator.ensures.into_iter_gives in
    let h = c.holders-j-items.ensures in
    (starts s _ (ap (λ (y : Holders). y.place) g ∙ h.1 ∙ ap (λ (y : ℕ). get_or (L s) y 0) c.head.ensures), ap (λ (y : Holders). y.formula) g ∙ h.0)

pub met-requires : goal.met-requires
met-requires c = (c.requires.1, shown-read (goal.at.met-requires c).After-clause_at c.requires.1 c.requires.2)

pub overflow_add-many : goal.overflow_add-many
overflow_add-many c = omega (arith, few (goal.at.overflow_add-many c).After-met)

pub loop-j-preserved-then-not-met : goal.loop-j-preserved-then-not-met
loop-j-preserved-then-not-met c =
    (goes_on (goal.at.loop-j-preserved-then-not-met c).After-met true _ (search rules) (omega arith), c.in-Some.ensures.steps.formula ∙ c.loop-j.invariant.1)

pub loop-j-preserved : goal.loop-j-preserved
loop-j-preserved c =
    (goes_on (goal.at.loop-j-preserved c).After-met false _ (search rules) refl, c.in-Some.ensures.steps.formula ∙ c.loop-j.invariant.1)

pub returns : goal.returns
returns c =
    let s = (goal.at.returns c).Start in
    let I = c.loop-j.invariant.0 in
    λ a M. omega (arith, I.sum a M, among_end (cl s) a (l s) I.k I.low (sym I.is ∙ c.in-None.ensures.steps.0))
