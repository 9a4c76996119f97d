use native.Mathlib.Omega.{arith}
use Prim.Native.Nat.{ℕ, ◌+◌, ◌*◌}
use mathlib.Core.Path.{refl, sym, ap, ◌∙◌}
use Rattle.clauses.specs.Clause.{minus, literal, three}
use Rattle.records.specs.declared.State.{State}
use Rattle.records.proofs.Tables.{row_at-numbers_of}
use Rattle.encoding.proofs.Steps.{roomy, write-over}
use Rattle.rules.proofs.Moving.{handed}
use Rattle.rules.proofs.Doing.{push_skips, push-does}
use Rattle.rules.proofs.classes.push.Goals as goal

pub returns-then-not-child-clause-does : goal.returns-then-not-child-clause-does
returns-then-not-child-clause-does c = push_skips (sym (row_at-numbers_of c.args.states.now c.args.j)) (roomy c.args.c) refl c.requires.room.2 (λ x y. omega arith)

pub returns-in_err-x-clause-does : goal.returns-in_err-x-clause-does
returns-in_err-x-clause-does c =
    let a = c.args in
    let x = c.in_err-x.ensures.asks in
    rw (handed c.from_residual.result _ c.from_residual.ensures.0 c.from_residual.ensures.1)
    (push-does {a = a.a} {l = a.l} (sym (row_at-numbers_of c.args.states.now c.args.j)) (roomy c.args.c) refl c.requires.room.2 (omega arith) (omega arith) x (write-over _ _ _ x.next.room (λ q. omega arith)) refl)

-- the making variable that is read is one of the numbers
pub three-clause-requires : goal.three-clause-requires
three-clause-requires c =
    let a = c.args in
    let e = ap (λ (z : State). z.maker) (row_at-numbers_of a.states.now a.j) in
    let low = c.requires.low (3 * a.j + 2) (omega (arith, c.args.c.few_states, c.requires.room.2)) in
    (omega (arith, c.requires.room.0), omega (arith, e, low, c.from-3.ensures), omega (arith, c.in_ok-x.ensures.asks.variable))

pub returns-clause-does : goal.returns-clause-does
returns-clause-does c =
    let a = c.args in
    let x = c.in_ok-x in
    push-does {a = a.a} {l = a.l} (sym (row_at-numbers_of a.states.now a.j)) (roomy c.args.c) refl c.requires.room.2 (omega arith) (omega arith) x.ensures.asks c.write.ensures
    (c.three-clause.ensures ∙ ap (λ (n : ℕ). three (minus a.a) (minus n) (literal a.l.minus x.x.variable)) c.from-3.ensures)
