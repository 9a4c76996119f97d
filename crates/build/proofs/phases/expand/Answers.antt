use Prim.Native.Nat.{◌+◌}
use native.Mathlib.Omega.{arith}
use Rattle.encoding.proofs.Totals.{phase2-less, phase3-less}
use Rattle.rules.proofs.Moving.{over-making, over_pushing, handed}
use Rattle.build.proofs.Looping.{expands}
use Rattle.build.proofs.phases.expand.Goals as goal

pub returns-in_err-d-clause-does : goal.returns-in_err-d-clause-does
returns-in_err-d-clause-does c =
    let s = c.args.j + 1 in
    let one = c.in_err-d.ensures.does in
    let room = one.stays.next.room in
    rw (handed c.from_residual.result _ c.from_residual.ensures.0 c.from_residual.ensures.1)
    (expands c.args.j one (over-making room (λ q. omega arith) (λ φ. phase2-less φ s)) (over_pushing room (λ q. omega arith) (λ φ. phase3-less φ s)) c.requires.low)

pub returns-in_err-e-clause-does : goal.returns-in_err-e-clause-does
returns-in_err-e-clause-does c =
    let two = c.in_err-e.ensures.does in
    rw (handed c.from_residual-in_err-e.result _ c.from_residual-in_err-e.ensures.0 c.from_residual-in_err-e.ensures.1)
    (expands c.args.j c.in_ok-d.ensures.does two (over_pushing two.moves.next.room (λ q. omega arith) (λ φ. phase3-less φ (c.args.j + 1))) c.requires.low)

pub returns-clause-does : goal.returns-clause-does
returns-clause-does c = expands c.args.j c.in_ok-d.ensures.does c.in_ok-e.ensures.does c.phase3.ensures.does c.requires.low
