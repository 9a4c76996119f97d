use Rattle.std.proofs.Common.{rules, is_ok}
use mathlib.Core.Path.{◌≡◌, refl, sym, ap, subst, ◌∙◌}
use mathlib.Core.Bool.{true, false}
use mathlib.Core.Logic.{inl, ⊎_elim}
use mathlib.Core.List.{List, Memᴰ}
use Prim.Native.Nat.{ℕ, ◌+◌, ◌-◌, ◌*◌, ◌/◌, ◌≤◌, ◌<◌}
use native.Mathlib.Decide.{dec_lt}
use native.Mathlib.Omega.{arith}
use lib.ListN.{length, get_or}
use lib.IntN.{ℤ}
use Rattle.clauses.specs.Clause.{Clause, triples}
use Rattle.ground.proofs.Tests.{true-false}
use Rattle.search.proofs.Clauses.{met_by, met-quiet}
use Rattle.search.proofs.Settled.{forcing_above}
use Rattle.propagation.specs.Trail.{Marked}
use Rattle.propagation.specs.Links.{head_of, latest}
use Rattle.propagation.specs.Judging.{clause_at}
use Rattle.propagation.specs.Propagation.{Calmed, Holding, Heard}
use Rattle.propagation.specs.Way.{Down}
use Rattle.propagation.specs.declared.assignment.Assignment.{Assignment}
use Rattle.propagation.specs.declared.formula.Formula.{Formula}
use Rattle.propagation.specs.declared.holders.Holders.{Holders}
use Rattle.propagation.proofs.Triples.{in_clauses, member_at}
use Rattle.propagation.proofs.Latest.{Has, chain_end, Onward, onward}
use Rattle.propagation.proofs.Marked.{marked_in, kept-mark, sides}
use Rattle.propagation.proofs.Moves.{calmed-from, calmed-on, moved_none, moved_then}
use Rattle.propagation.proofs.States.{keeps_none, keeps_then, heeded_at}
use Rattle.propagation.proofs.assignment.Assignment.visit.Goals as goal
use Rattle.propagation.proofs.assignment.Assignment.visit.Invariants.{Way}
use Rattle.propagation.proofs.assignment.Assignment.visit.Goals.{In-None, In-Some, In_ok-heed, Start}

-- the start: the latest place among all clauses
module _ (c : Start) where
  abbrev s : Assignment
  s = c.args.self.now

  abbrev cl : List ℤ
  cl = s.formula.clauses.now

  abbrev H : ℕ
  H = c.args.e + 1

  head_in : H ≤ 2 * s.formula.variables
  head_in = omega (arith, marked_in s.values.now c.args.e c.requires, s.over)

  starts : (p : ℕ) → p ≡ get_or s.formula.links.now H 0 → Way s s c.args.e p
  starts p f =
      record {
        keeps = keeps_none s;
        k = s.formula.many;
        low = omega (arith, s.formula.ready.long);
        stands = f ∙ s.formula.linked.heads H head_in ∙ ap (latest cl H) s.formula.ready.long;
        moved = moved_none cl s.top s.values.now s.trail.now;
        heard = λ j h g w. absurd (omega (arith, h, g, s.formula.ready.long));
      }

-- in a turn
module _ (c : In-Some) where
  abbrev S : Start
  S = (goal.at.In-Some c).Start

  abbrev p : ℕ
  p = c.loop-i.i-iterator.place

  abbrev D : Down c.loop-i.i-iterator c.in-Some.i c.next.new.self
  D = c.in-Some.ensures.steps

  abbrev I : Way (s S) c.loop-i.self c.args.e p
  I = c.loop-i.invariant.0

  on : Onward (cl S) (s S).formula.variables (s S).formula.links.now (H S) I.k p
  on = onward (cl S) (s S).formula.variables (s S).formula.links.now (s S).formula.linked (H S) I.k p I.low I.stands D.some

-- after the clause at p was heeded, with no conflict
module _ (c : In_ok-heed) where
  abbrev T : In-Some
  T = (goal.at.In_ok-heed c).In-Some

  abbrev i : ℕ
  i = (p T - 1) / 3

  abbrev s₀ : Assignment
  s₀ = s (S T)

  abbrev s' : Assignment
  s' = c.heed.new.self

  G : Heard (cl (S T)) (λ d. d ≡ clause_at (cl (S T)) i) c.loop-i.self.top c.loop-i.self.values.now c.loop-i.self.trail.now s'.top s'.values.now s'.trail.now true
  G =
      subst
      (λ (k : ℕ). Heard (cl (S T)) (λ d. d ≡ clause_at (cl (S T)) k) c.loop-i.self.top c.loop-i.self.values.now c.loop-i.self.trail.now s'.top s'.values.now s'.trail.now true)
      (D T).gives
      (heeded_at s' (I T).keeps c.in-Some.i c.in_ok-heed.ensures.heard)

  heard : (j : ℕ) → 3 * j + 3 ≤ length (cl (S T)) → Has (cl (S T)) (H (S T)) j → Dec (i < j) → Dec (j < (I T).k) → i ≤ j → Calmed (clause_at (cl (S T)) j) s'.values.now s'.trail.now s₀.top s'.top
  heard j l w (yes b) (yes u) g = absurd ((on T).found.none j b u w)
  heard j l w (yes b) (no u) g = calmed-on G.moved (clause_at (cl (S T)) j) s₀.top (I T).moved.above ((I T).heard j (omega (arith, u)) l w)
  heard j l w (no b) u g =
      let j-is : j ≡ i = omega (arith, b, g) in
      calmed-from (clause_at (cl (S T)) j) s'.values.now s'.trail.now s₀.top c.loop-i.self.top s'.top (I T).moved.above (G.calmed refl (clause_at (cl (S T)) j) (ap (clause_at (cl (S T))) j-is))

  next_is : c.next.new.self.place ≡ get_or s₀.formula.links.now (2 * s₀.formula.variables + p T) 0
  next_is = (D T).next ∙ ap (λ (F : Formula). get_or F.links.now (2 * F.variables + p T) 0) c.loop-i.invariant.1

  goes_on : Way s₀ s' c.args.e c.next.new.self.place
  goes_on =
      record {
        keeps = keeps_then (I T).keeps c.in_ok-heed.ensures.keeps;
        k = i;
        low = omega (arith, (on T).within);
        stands = next_is ∙ (on T).next;
        moved = moved_then (I T).moved G.moved;
        heard = λ j g l w. heard j l w (dec_lt i j) (dec_lt j (I T).k) g;
      }

-- at the end every clause that holds the variable is met or was heeded
module _ (c : In-None) where
  abbrev Z : Start
  Z = (goal.at.In-None c).Start

  abbrev W : Way (s Z) c.loop-i.self c.args.e c.loop-i.i-iterator.place
  W = c.loop-i.invariant.0

  abbrev a : List ℕ
  a = c.loop-i.self.values.now

  abbrev t : List ℕ
  t = c.loop-i.self.trail.now

  abbrev top : ℕ
  top = c.loop-i.self.top

  marked : Marked a c.args.e
  marked = kept-mark (s Z).values.now a c.args.e (forcing_above (triples (cl Z)) W.moved.by).0 c.requires

  at-clause : (j : ℕ) → 3 * j + 3 ≤ length (cl Z) → Has (cl Z) (H Z) j → Dec (j < W.k) → Calmed (clause_at (cl Z) j) a t (s Z).top top
  at-clause j l w (yes u) = absurd (chain_end (cl Z) (H Z) W.k (sym W.stands ∙ c.in-None.ensures.steps.0) j u w)
  at-clause j l w (no u) = W.heard j (omega (arith, u)) l w

  every : (d : Clause) → Holding (cl Z) (c.args.e / 2) d → Calmed d a t (s Z).top top
  every d m =
      let l = m.1.0 in
      let j = in_clauses (cl Z) d m.0 in
      ⊎_elim
      (λ f.
      let k = member_at (cl Z) j.0 l (subst (λ (b : Clause). Memᴰ l b) j.2 m.1.1) in
      subst (λ (b : Clause). Calmed b a t (s Z).top top) (sym j.2) (at-clause j.0 j.1 (k.0, k.1, ap head_of k.2 ∙ f) (dec_lt j.0 W.k)))
      (λ q. inl (met-quiet a d (met_by a d l m.1.1 q)))
      (sides a c.args.e marked l m.1.2)

pub loop-i-init : goal.loop-i-init
loop-i-init c =
    let g = c.into_iter-i-iterator.ensures.into_iter_gives in
    let h = c.holders-i-items.ensures in
    (starts (goal.at.loop-i-init c).Start _ (ap (λ (x : Holders). x.place) g ∙ h.1), ap (λ (x : Holders). x.formula) g ∙ h.0)

pub returns-in_err-heed-clause-heard : goal.returns-in_err-heed-clause-heard
returns-in_err-heed-clause-heard c =
    let G = heeded_at c.heed.new.self c.loop-i.invariant.0.keeps c.in-Some.i c.in_err-heed.ensures.heard in
    let e : is_ok c.from_residual.result ≡ false = search rules in
    record { moved = moved_then c.loop-i.invariant.0.moved G.moved; calmed = λ q. true-false (sym q ∙ e); failing = λ q. G.failing refl }

pub loop-i-preserved : goal.loop-i-preserved
loop-i-preserved c = (goes_on (goal.at.loop-i-preserved c).In_ok-heed, c.in-Some.ensures.steps.formula ∙ c.loop-i.invariant.1)

pub returns-clause-heard : goal.returns-clause-heard
returns-clause-heard c =
    let d = (goal.at.returns-clause-heard c).In-None in
    record { moved = (W d).moved; calmed = λ q. every d; failing = λ q. true-false q }
