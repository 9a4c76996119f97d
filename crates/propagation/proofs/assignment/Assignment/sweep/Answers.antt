use Rattle.std.proofs.Common.{rules, is_ok}
use mathlib.Core.Path.{◌≡◌, refl, sym, ap, subst, ◌∙◌}
use mathlib.Core.Bool.{true, false}
use Prim.Native.Nat.{ℕ, ◌+◌, ◌*◌, ◌≤◌, ◌<◌}
use native.Mathlib.Decide.{dec_lt}
use native.Mathlib.Omega.{arith}
use lib.ListN.{length}
use Rattle.clauses.specs.Clause.{Clause}
use Rattle.ground.proofs.Tests.{true-false}
use Rattle.propagation.specs.Judging.{clause_at}
use Rattle.propagation.specs.Propagation.{Calmed, Heard}
use Rattle.propagation.specs.declared.assignment.Assignment.{Assignment}
use Rattle.propagation.proofs.Triples.{in_clauses}
use Rattle.propagation.proofs.Moves.{calmed-from, calmed-on, moved_none, moved_then}
use Rattle.propagation.proofs.States.{keeps_none, keeps_then, heeded_at}
use Rattle.propagation.proofs.assignment.Assignment.sweep.Goals as goal
use Rattle.propagation.proofs.assignment.Assignment.sweep.Goals.{In_ok-heed}
use Rattle.propagation.proofs.assignment.Assignment.sweep.Invariants.{Way}

pub loop-i-init : goal.loop-i-init
loop-i-init c = let s = c.args.self.now in record { keeps = keeps_none s; moved = moved_none s.formula.clauses.now s.top s.values.now s.trail.now; heard = λ j h. absurd (omega (arith, h)) }

pub returns-in_err-heed-clause-heard : goal.returns-in_err-heed-clause-heard
returns-in_err-heed-clause-heard c =
    let H = heeded_at c.heed.new.self c.loop-i.invariant.keeps c.loop-i.i c.in_err-heed.ensures.heard in
    let e : is_ok c.from_residual.result ≡ false = search rules in
    record { moved = moved_then c.loop-i.invariant.moved H.moved; calmed = λ q. true-false (sym q ∙ e); failing = λ q. H.failing refl }

-- after the i-th clause was heeded, with no conflict
module _ (c : In_ok-heed) where
  abbrev s : Assignment
  s = c.args.self.now

  abbrev s' : Assignment
  s' = c.heed.new.self

  abbrev I : Way s c.loop-i.self c.loop-i.i
  I = c.loop-i.invariant

  H : Heard s.formula.clauses.now (λ d. d ≡ clause_at s.formula.clauses.now c.loop-i.i) c.loop-i.self.top c.loop-i.self.values.now c.loop-i.self.trail.now s'.top s'.values.now s'.trail.now true
  H = heeded_at s' I.keeps c.loop-i.i c.in_ok-heed.ensures.heard

  heard : (j : ℕ) → j < c.loop-i.i + 1 → Dec (j < c.loop-i.i) → Calmed (clause_at s.formula.clauses.now j) s'.values.now s'.trail.now s.top s'.top
  heard j g (yes b) = calmed-on H.moved (clause_at s.formula.clauses.now j) s.top I.moved.above (I.heard j b)
  heard j g (no f) =
      let j-is : j ≡ c.loop-i.i = omega (arith, g, f) in
      calmed-from (clause_at s.formula.clauses.now j) s'.values.now s'.trail.now s.top c.loop-i.self.top s'.top I.moved.above
      (H.calmed refl (clause_at s.formula.clauses.now j) (ap (clause_at s.formula.clauses.now) j-is))

pub loop-i-preserved : goal.loop-i-preserved
loop-i-preserved c =
    let d = (goal.at.loop-i-preserved c).In_ok-heed in
    record { keeps = keeps_then (I d).keeps c.in_ok-heed.ensures.keeps; moved = moved_then (I d).moved (H d).moved; heard = λ j g. heard d j g (dec_lt j c.loop-i.i) }

pub returns-clause-heard : goal.returns-clause-heard
returns-clause-heard c =
    let s = c.args.self.now in
    let l = c.loop-i.self in
    let every : (d : Clause) → (j : ℕ) × (3 * j + 3 ≤ length s.formula.clauses.now) × (d ≡ clause_at s.formula.clauses.now j) → Calmed d l.values.now l.trail.now s.top l.top =
    λ d m. subst (λ (x : Clause). Calmed x l.values.now l.trail.now s.top l.top) (sym m.2) (c.loop-i.invariant.heard m.0 (omega (arith, m.1, s.formula.ready.long, c.loop-i-test.false))) in
    record { moved = c.loop-i.invariant.moved; calmed = λ q d m. every d (in_clauses s.formula.clauses.now d m); failing = λ q. true-false q }
