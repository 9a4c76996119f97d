use mathlib.Core.Path.{◌≡◌, sym, subst, ◌∙◌}
use mathlib.Core.Bool.{true, false}
use mathlib.Core.List.{List}
use Prim.Native.Nat.{◌<◌}
use native.Mathlib.Omega.{arith}
use borrow.Author.Tests.{eq-eqb, ne_eqb}
use lib.ListN.{length}
use lib.IntN.{ℤ}
use Rattle.clauses.specs.Clause.{triples}
use Rattle.search.specs.Search.{all_met}
use Rattle.propagation.specs.Unmet.{unmet_among, Counts}
use Rattle.propagation.specs.Trail.{Branched, Entered}
use Rattle.propagation.specs.Propagation.{Settling}
use Rattle.propagation.specs.declared.assignment.Assignment.{Assignment}
use Rattle.propagation.specs.declared.formula.Formula.{Formula}
use Rattle.propagation.proofs.Unmet.{number-tells}
use Rattle.propagation.proofs.States.{inside_by}
use Rattle.branching.proofs.Whole.{branch_open, stepped_yes, stepped_branch, stepped_none, stepped_back, above_low}
use Rattle.branching.proofs.branch.next.Goals as goal
use Rattle.branching.proofs.branch.next.Goals.{After-settle, Else-all_met, In-Err}

module _ (c : After-settle) where
  abbrev s : Assignment
  s = c.args.node.now

  abbrev s' : Assignment
  s' = c.settle.new.self

  abbrev cl : List ℤ
  cl = s.formula.clauses.now

  -- the number of unmet clauses afterwards
  counts : Counts cl s'.values.now s'.unmet
  counts = subst (λ (F : Formula). Counts F.clauses.now s'.values.now s'.unmet) c.settle.ensures.keeps.formula s'.counts

-- some clause is not met, so that there is something to branch on, and room to note it
module _ (e : Else-all_met) where
  abbrev T : After-settle
  T = (goal.at.Else-all_met e).After-settle

  calmly : Settling (cl T) (s T).top (s T).values.now (s T).trail.now (s' T).values.now (s' T).trail.now true (s' T).top
  calmly = e.in-Ok.ensures.settled

  unmet : all_met (s' T).values.now (triples (cl T)) ≡ false
  unmet =
      sym (number-tells (s' T).values.now (triples (cl T)))
      ∙ ne_eqb (unmet_among (s' T).values.now (triples (cl T))) 0 (λ z. omega (arith, counts T, e.if-all_met.false, z))

  room : (s' T).top < length (s' T).trail.now
  room = omega (arith, branch_open (inside_by (s T)) calmly unmet, (s' T).room)

pub returns-then-all_met-clause-stepped : goal.returns-then-all_met-clause-stepped
returns-then-all_met-clause-stepped c =
    let T = (goal.at.returns-then-all_met-clause-stepped c).After-settle in
    let a = (s' T).values.now in
    stepped_yes c.in-Ok.ensures.settled
    (sym (number-tells a (triples (cl T))) ∙ eq-eqb (unmet_among a (triples (cl T))) 0 (sym (counts T) ∙ c.if-all_met.true)) c.args.saved.now (s' T).unmet

pub branch-node-requires : goal.branch-node-requires
branch-node-requires c =
    let e = (goal.at.branch-node-requires c).Else-all_met in
    let s = c.args.node.now in (
      branch_open (inside_by s) (calmly e) (unmet e),
      omega (arith, room e, c.requires.0, c.settle.ensures.keeps.long),
      omega (arith, c.above-from.ensures, above_low s.formula.clauses.now s.values.now s.trail.now s.top c.requires.1, (calmly e).low),
    )

pub returns-else-all_met-clause-stepped : goal.returns-else-all_met-clause-stepped
returns-else-all_met-clause-stepped c =
    let e = (goal.at.returns-else-all_met-clause-stepped c).Else-all_met in
    let T = (goal.at.returns-else-all_met-clause-stepped c).After-settle in
    let s = c.args.node.now in
    let m = c.settle.new.self in
    let u = c.branch-node.new.node in
    let B : Branched s.formula.clauses.now m.top m.values.now m.trail.now c.args.saved.now u.values.now u.trail.now c.branch-node.new.saved u.top u.unmet =
    subst (λ (F : Formula). Branched F.clauses.now m.top m.values.now m.trail.now c.args.saved.now u.values.now u.trail.now c.branch-node.new.saved u.top u.unmet) c.settle.ensures.keeps.formula c.branch-node.ensures.branched in
    stepped_branch (inside_by s) (calmly e) (unmet e) s.mirrors.small (room e) c.requires.1 c.args.saved.now (omega (arith, room e, c.requires.0, c.settle.ensures.keeps.long)) c.requires.2 B

module _ (c : In-Err) where
  abbrev E : After-settle
  E = (goal.at.In-Err c).After-settle

  clashed : Settling (cl E) (s E).top (s E).values.now (s E).trail.now (s' E).values.now (s' E).trail.now false (s' E).top
  clashed = c.in-Err.ensures.settled

pub returns-then-back-clause-stepped : goal.returns-then-back-clause-stepped
returns-then-back-clause-stepped c =
    let e = (goal.at.returns-then-back-clause-stepped c).In-Err in
    let s = c.args.node.now in
    let m = c.settle.new.self in
    let u = c.back.new.self in
    let B : Entered s.formula.clauses.now m.top m.values.now m.trail.now u.values.now u.trail.now u.top u.unmet true =
    subst (λ (F : Formula). Entered F.clauses.now m.top m.values.now m.trail.now u.values.now u.trail.now u.top u.unmet true) c.settle.ensures.keeps.formula c.if-back.ensures.entered in
    stepped_back (clashed e) c.requires.1 c.args.saved.now c.requires.2 u.values.now u.trail.now u.top u.unmet B

pub returns-else-back-clause-stepped : goal.returns-else-back-clause-stepped
returns-else-back-clause-stepped c =
    let e = (goal.at.returns-else-back-clause-stepped c).In-Err in
    let u = c.back.new.self in
    stepped_none (clashed e) c.args.saved.now u.values.now u.trail.now u.top u.unmet c.if-back.ensures.entered
