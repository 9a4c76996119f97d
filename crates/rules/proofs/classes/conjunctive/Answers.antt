use native.Mathlib.Omega.{arith}
use mathlib.Core.Path.{refl}
use Rattle.encoding.proofs.Steps.{ask-over, write-over}
use Rattle.rules.proofs.Moving.{handed}
use Rattle.rules.proofs.Doing.{conjunctive_does}
use Rattle.rules.proofs.classes.conjunctive.Goals as goal

pub returns-in_err-x-clause-does : goal.returns-in_err-x-clause-does
returns-in_err-x-clause-does c =
    let a = c.args in
    let x = c.in_err-x.ensures.asks in
    let room = x.next.room in
    rw (handed c.from_residual.result _ c.from_residual.ensures.0 c.from_residual.ensures.1)
    (conjunctive_does {a = a.a} {l = a.l} {m = a.m} x (ask-over _ a.s a.m.key _ room (λ q. omega arith)) (write-over _ _ _ room (λ q. omega arith)) (write-over _ _ _ room (λ q. omega arith)) refl refl)

pub returns-in_err-y-clause-does : goal.returns-in_err-y-clause-does
returns-in_err-y-clause-does c =
    let a = c.args in
    let y = c.in_err-y.ensures.asks in
    rw (handed c.from_residual-in_err-y.result _ c.from_residual-in_err-y.ensures.0 c.from_residual-in_err-y.ensures.1)
    (conjunctive_does {a = a.a} {l = a.l} {m = a.m} c.in_ok-x.ensures.asks y (write-over _ _ _ y.next.room (λ q. omega arith)) (write-over _ _ _ y.next.room (λ q. omega arith)) refl refl)

pub returns-in_err-d-clause-does : goal.returns-in_err-d-clause-does
returns-in_err-d-clause-does c =
    let a = c.args in
    rw (handed c.from_residual-in_err-d.result _ c.from_residual-in_err-d.ensures.0 c.from_residual-in_err-d.ensures.1)
    (conjunctive_does {a = a.a} {l = a.l} {m = a.m} c.in_ok-x.ensures.asks c.in_ok-y.ensures.asks c.in_err-d.ensures (write-over _ _ _ c.in_err-d.ensures.room (λ q. omega arith)) c.two.ensures refl)

pub returns-clause-does : goal.returns-clause-does
returns-clause-does c =
    conjunctive_does {a = c.args.a} {l = c.args.l} {m = c.args.m} c.in_ok-x.ensures.asks c.in_ok-y.ensures.asks c.in_ok-d.ensures c.write-2.ensures c.two.ensures c.two-2.ensures
