use native.Mathlib.Omega.{arith}
use mathlib.Core.Path.{refl}
use Rattle.encoding.proofs.Steps.{write-over}
use Rattle.rules.proofs.Moving.{handed}
use Rattle.rules.proofs.Doing.{existential_over, existential_does}
use Rattle.rules.proofs.classes.existential.Goals as goal

pub returns-in_err-d-clause-does : goal.returns-in_err-d-clause-does
returns-in_err-d-clause-does c =
    let a = c.args in
    rw (handed c.from_residual.result _ c.from_residual.ensures.0 c.from_residual.ensures.1)
    (existential_over c.in_err-d.ensures a.l a.draft.now.index.now.words.now a.draft.now.clauses.now (λ q. omega arith))

pub returns-in_err-x-clause-does : goal.returns-in_err-x-clause-does
returns-in_err-x-clause-does c =
    let a = c.args in
    let x = c.in_err-x.ensures.asks in
    rw (handed c.from_residual-in_err-x.result _ c.from_residual-in_err-x.ensures.0 c.from_residual-in_err-x.ensures.1)
    (existential_does c.in_ok-d.ensures a.l a.draft.now.index.now.words.now a.draft.now.clauses.now refl x (write-over _ _ _ x.next.room (λ q. omega arith)) refl)

pub returns-clause-does : goal.returns-clause-does
returns-clause-does c =
    let a = c.args in
    existential_does c.in_ok-d.ensures a.l a.draft.now.index.now.words.now a.draft.now.clauses.now refl c.in_ok-x.ensures.asks c.write.ensures c.two.ensures
