use Rattle.std.proofs.Common.{rules, is_ok}
use mathlib.Core.Path.{◌≡◌, refl, sym, subst, ◌∙◌}
use mathlib.Core.Bool.{false}
use mathlib.Core.Logic.{⊎_elim}
use Prim.Native.Nat.{◌-◌, ◌<◌}
use native.Mathlib.Omega.{arith}
use Rattle.ground.proofs.Tests.{true-false}
use Rattle.propagation.specs.Trail.{plain, latest_branch, Marked}
use Rattle.propagation.specs.Propagation.{Followed, Rested}
use Rattle.propagation.specs.declared.formula.Formula.{Formula}
use Rattle.propagation.proofs.Moves.{moved_then, queue_branch, followed_settles}
use Rattle.propagation.proofs.States.{inside_by}
use Rattle.propagation.proofs.assignment.Assignment.settle.Goals as goal

pub returns-in_err-sweep-clause-settled : goal.returns-in_err-sweep-clause-settled
returns-in_err-sweep-clause-settled c =
    let e : is_ok c.from_residual.result ≡ false = search rules in
    let H = c.in_err-sweep.ensures.heard in
    followed_settles (inside_by c.args.self.now) (is_ok c.from_residual.result) (record { moved = H.moved; silent = λ q. true-false (sym q ∙ e); failing = λ q. H.failing refl })

pub returns-then-self-eq0-clause-settled : goal.returns-then-self-eq0-clause-settled
returns-then-self-eq0-clause-settled c =
    let s = c.args.self.now in
    let u = c.sweep.new.self in
    let v = c.follow.new.self in
    let H = c.in_ok-sweep.ensures.heard in
    let F : Followed s.formula.clauses.now u.top u.values.now u.trail.now v.top v.values.now v.trail.now (is_ok c.follow.result) =
    subst (λ (F : Formula). Followed F.clauses.now u.top u.values.now u.trail.now v.top v.values.now v.trail.now (is_ok c.follow.result)) c.in_ok-sweep.ensures.keeps.formula c.follow.ensures.followed in
    followed_settles (inside_by s) (is_ok c.follow.result) (record { moved = moved_then H.moved F.moved; silent = F.silent; failing = F.failing })

pub follow-requires-2 : goal.follow-requires-2
follow-requires-2 c =
    let s = c.args.self.now in
    let some : 0 < s.top = omega (arith, c.if-self-eq0.false) in
    let r : Rested s.formula.clauses.now (latest_branch s.values.now s.trail.now s.top) × Marked s.values.now (plain s.trail.now (s.top - 1)) =
    ⊎_elim (λ e. absurd (omega (arith, e, some))) (λ r. r) c.requires.made in
    (omega arith, queue_branch s.formula.clauses.now s.values.now s.trail.now s.top some r.0 r.1)

pub returns-clause-settled : goal.returns-clause-settled
returns-clause-settled c = followed_settles (inside_by c.args.self.now) (is_ok c.follow-2.result) c.follow-2.ensures.followed
