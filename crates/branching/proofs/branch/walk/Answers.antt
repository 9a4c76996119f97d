use mathlib.Core.Path.{◌≡◌, refl, sym, ap, subst, ◌∙◌}
use mathlib.Core.Logic.{inl}
use mathlib.Core.List.Memᴰ
use mathlib.Core.List.{List}
use Prim.Native.Nat.{ℕ}
use native.Mathlib.Omega.{arith}
use lib.IntN.{ℤ}
use Rattle.clauses.specs.Clause.{triples}
use Rattle.search.specs.Search.{plus, nodes}
use Rattle.propagation.specs.Trail.{pending, AllSaved}
use Rattle.propagation.specs.Propagation.{Started}
use Rattle.propagation.specs.declared.formula.Formula.{Formula}
use Rattle.propagation.proofs.States.{keeps_none, keeps_then}
use Rattle.branching.specs.Nodes.{node_of, finished, whole, Further}
use Rattle.search.proofs.Nodes.{nodes-plus}
use Rattle.branching.proofs.Whole.{plus-plus, plus_none, whole-some}
use Rattle.branching.proofs.branch.walk.Goals as goal

start : (cl : List ℤ) (a t : List ℕ) → node_of (triples cl) a ≡ plus 0 (whole cl a t 0)
unfolding pending finished
start cl a t = plus_none (node_of (triples cl) a)

root : (cl : List ℤ) (a t : List ℕ) → Started cl a t 0
unfolding pending
root cl a t = record { made = inl refl; left = λ d m. absurd (Memᴰ.not-nil m) }

none-saved : (cl : List ℤ) (a t s : List ℕ) → AllSaved cl s (pending a t 0)
unfolding pending
none-saved cl a t s d m = absurd (Memᴰ.not-nil m)

pub loop-count-init : goal.loop-count-init
loop-count-init c =
    let s = c.args.node.now in
    let cl = s.formula.clauses.now in
    let z = sym c.requires.0 in
    record {
      keeps = keeps_none s;
      long = c.requires.1;
      is = subst (λ (k : ℕ). node_of (triples cl) s.values.now ≡ plus 0 (whole cl s.values.now s.trail.now k)) z (start cl s.values.now s.trail.now);
      started = subst (λ (k : ℕ). Started cl s.values.now s.trail.now k) z (root cl s.values.now s.trail.now);
      saved = subst (λ (k : ℕ). AllSaved cl c.args.saved.now (pending s.values.now s.trail.now k)) z (none-saved cl s.values.now s.trail.now c.args.saved.now);
    }

pub loop-count-preserved : goal.loop-count-preserved
loop-count-preserved c =
    let w = c.loop-count.invariant in
    let m = c.loop-count.node in
    let s = c.args.node.now in
    let u = c.next.new.node in
    let cl = s.formula.clauses.now in
    let F : Further cl m.top m.values.now m.trail.now u.values.now u.trail.now c.next.new.saved u.top u.unmet =
    subst (λ (F : Formula). Further F.clauses.now m.top m.values.now m.trail.now u.values.now u.trail.now c.next.new.saved u.top u.unmet) w.keeps.formula c.in-None.ensures.stepped in
    record {
      keeps = keeps_then w.keeps c.next.ensures.keeps;
      long = omega (arith, w.long, c.next.auto.saved, c.next.ensures.keeps.long);
      is = w.is ∙ ap (plus c.loop-count.count) F.is ∙ plus-plus c.loop-count.count 1 (whole cl u.values.now u.trail.now u.top);
      started = F.started;
      saved = F.saved;
    }

pub returns-clause-ran : goal.returns-clause-ran
returns-clause-ran c =
    let w = c.loop-count.invariant in
    let m = c.loop-count.node in
    let cl = c.args.node.now.formula.clauses.now in (
      refl,
      omega (arith, ap nodes w.is, nodes-plus c.loop-count.count (whole cl m.values.now m.trail.now m.top), whole-some (triples cl) m.values.now (pending m.values.now m.trail.now m.top), c.loop-count-test.false),
    )
