use Rattle.std.proofs.Common.{rules, is_ok}
use mathlib.Core.Path.{◌≡◌, refl, sym, subst, ◌∙◌}
use mathlib.Core.Bool.{true, false}
use mathlib.Core.Logic.{⊎_elim, inr}
use Prim.Native.Nat.{ℕ, ◌+◌, ◌<◌}
use native.Mathlib.Decide.{ℕ_discrete}
use native.Mathlib.Omega.{arith}
use Rattle.clauses.specs.Clause.{Clause}
use Rattle.ground.proofs.Tests.{true-false}
use Rattle.propagation.specs.Trail.{noted}
use Rattle.propagation.specs.Propagation.{Held, Waits, Calmed, Every, Holding, Heard, Queue}
use Rattle.propagation.specs.declared.assignment.Assignment.{Assignment}
use Rattle.propagation.proofs.Moves.{calmed-from, waits-on, marked-on, moved_none, moved_then}
use Rattle.propagation.proofs.States.{keeps_none, keeps_then, visited_at}
use Rattle.propagation.proofs.assignment.Assignment.follow.Goals as goal
use Rattle.propagation.proofs.assignment.Assignment.follow.Invariants.{Way}
use Rattle.propagation.proofs.assignment.Assignment.follow.Goals.{In_ok-visit}

-- after the entry at the head was visited, with no conflict
module _ (c : In_ok-visit) where
  abbrev s₀ : Assignment
  s₀ = c.args.self.now

  abbrev s : Assignment
  s = c.loop-head.self

  abbrev s' : Assignment
  s' = c.visit.new.self

  abbrev head : ℕ
  head = c.loop-head.head

  abbrev I : Way s₀ s head
  I = c.loop-head.invariant

  below : head < s.top
  below = c.loop-head-test.true

  H : Heard s₀.formula.clauses.now (Holding s₀.formula.clauses.now (noted s.trail.now head)) s.top s.values.now s.trail.now s'.top s'.values.now s'.trail.now true
  H = visited_at s' I.keeps (noted s.trail.now head) c.in_ok-visit.ensures.heard

  waiting : (d : Clause) → Every s₀.formula.clauses.now d → (w : Waits d s.trail.now head s.top) → Dec (w.0 ≡ head) → Calmed d s'.values.now s'.trail.now (head + 1) s'.top
  waiting d m w (yes k) =
      calmed-from d s'.values.now s'.trail.now (head + 1) s.top s'.top (omega (arith, below)) (H.calmed refl d (m, subst (λ (j : ℕ). Held d (noted s.trail.now j)) k w.3))
  waiting d m w (no f) = inr (waits-on H.moved d (head + 1) (w.0, omega (arith, w.1, f), w.2, w.3))

  calmed : (d : Clause) → Every s₀.formula.clauses.now d → Calmed d s'.values.now s'.trail.now (head + 1) s'.top
  calmed d m =
      ⊎_elim
      (λ q. calmed-from d s'.values.now s'.trail.now (head + 1) s.top s'.top (omega (arith, below)) (H.moved.rest d q))
      (λ w. waiting d m w (ℕ_discrete w.0 head))
      (I.queue.calmed d m)

  queue : Queue s₀.formula.clauses.now s'.values.now s'.trail.now (head + 1) s'.top
  queue = record { marked = marked-on H.moved (head + 1) (omega (arith, below)) (λ k g u. I.queue.marked k (omega (arith, g)) u); calmed = calmed }

pub loop-head-init : goal.loop-head-init
loop-head-init c =
    let s = c.args.self.now in
    record { keeps = keeps_none s; low = c.requires.0; moved = moved_none s.formula.clauses.now s.top s.values.now s.trail.now; queue = c.requires.1 }

pub returns-in_err-visit-clause-followed : goal.returns-in_err-visit-clause-followed
returns-in_err-visit-clause-followed c =
    let H = visited_at c.visit.new.self c.loop-head.invariant.keeps (noted c.loop-head.self.trail.now c.loop-head.head) c.in_err-visit.ensures.heard in
    let e : is_ok c.from_residual.result ≡ false = search rules in
    record { moved = moved_then c.loop-head.invariant.moved H.moved; silent = λ q. true-false (sym q ∙ e); failing = λ q. H.failing refl }

pub loop-head-preserved : goal.loop-head-preserved
loop-head-preserved c =
    let d = (goal.at.loop-head-preserved c).In_ok-visit in
    record {
      keeps = keeps_then (I d).keeps c.in_ok-visit.ensures.keeps;
      low = omega (arith, below d, (H d).moved.above);
      moved = moved_then (I d).moved (H d).moved;
      queue = queue d;
    }
