use native.Mathlib.Omega.{arith}
use mathlib.Core.Path.{refl}
use Rattle.encoding.proofs.Steps.{ask-over, write-over}
use Rattle.rules.proofs.Moving.{handed}
use Rattle.rules.proofs.Doing.{disjunctive_does}
use Rattle.rules.proofs.classes.disjunctive.Goals as goal

pub returns-in_err-x-clause-does : goal.returns-in_err-x-clause-does
returns-in_err-x-clause-does c =
    let a = c.args in
    let x = c.in_err-x.ensures.asks in
    let room = x.next.room in
    rw (handed c.from_residual.result _ c.from_residual.ensures.0 c.from_residual.ensures.1)
    (disjunctive_does {a = a.a} {l = a.l} {m = a.m} x (ask-over _ a.s a.m.key _ room (λ q. omega arith)) (write-over _ _ _ room (λ q. omega arith)) refl)

pub returns-in_err-y-clause-does : goal.returns-in_err-y-clause-does
returns-in_err-y-clause-does c =
    let a = c.args in
    let y = c.in_err-y.ensures.asks in
    rw (handed c.from_residual-in_err-y.result _ c.from_residual-in_err-y.ensures.0 c.from_residual-in_err-y.ensures.1)
    (disjunctive_does {a = a.a} {l = a.l} {m = a.m} c.in_ok-x.ensures.asks y (write-over _ _ _ y.next.room (λ q. omega arith)) refl)

pub returns-clause-does : goal.returns-clause-does
returns-clause-does c =
    disjunctive_does {a = c.args.a} {l = c.args.l} {m = c.args.m} c.in_ok-x.ensures.asks c.in_ok-y.ensures.asks c.write.ensures c.three-clause.ensures
