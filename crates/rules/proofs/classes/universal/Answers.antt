use Prim.Native.Nat.{◌+◌}
use native.Mathlib.Omega.{arith}
use mathlib.Core.Path.{refl}
use Rattle.encoding.specs.Build.{scan, push}
use Rattle.encoding.specs.Shows.{counted}
use Rattle.encoding.proofs.Totals.{push-less}
use Rattle.encoding.proofs.Indexing.{draft-refl, draft_then}
use Rattle.encoding.proofs.Steps.{roomy}
use Rattle.rules.proofs.Moving.{stays-refl, stays_then, scan_step, scan_over, push_begins, push-ends, handed}
use Rattle.rules.proofs.classes.universal.Goals as goal

pub loop-j-init : goal.loop-j-init
loop-j-init c =
    let a = c.args in (
      stays-refl (counted a.c) a.draft.now.index.now.words.now (roomy c.args.c),
      draft-refl a.draft.now,
      c.requires.indexed,
      λ φ v p P av o B sh. push_begins φ a.s v a.r p a.before o (counted a.c) _ B (roomy c.args.c) refl c.requires.before_le_states c.requires.low.1 sh,
    )

pub loop-j-preserved : goal.loop-j-preserved
loop-j-preserved c =
    let a = c.args in
    let l = c.loop-j in
    let y = c.in_ok-d.ensures in (
      stays_then l.invariant.0 y.does.stays,
      draft_then l.invariant.1 y.same,
      y.indexed,
      λ φ v p P av o B sh. scan_step (push φ a.s v a.r p) l.j o _ _ B (y.does.does φ v p P av o (scan (push φ a.s v a.r p) l.j 0 B) (l.invariant.3 φ v p P av o B sh)),
    )

pub returns-in_err-d-clause-does : goal.returns-in_err-d-clause-does
returns-in_err-d-clause-does c =
    let a = c.args in
    let l = c.loop-j in
    let y = c.in_err-d.ensures in
    rw (handed c.from_residual.result _ c.from_residual.ensures.0 c.from_residual.ensures.1)
    (record {
      stays = stays_then l.invariant.0 y.does.stays;
      does = λ φ v p P av o B sh.
          push-ends φ a.s B refl sh v a.r p refl
          (scan_over (push φ a.s v a.r p) (λ u D. push-less φ a.s v a.r p u D) (l.j + 1) a.c.states (omega (arith, c.loop-j-test.true)) o _ _ B (λ q. omega arith)
          (scan_step (push φ a.s v a.r p) l.j o _ _ B (y.does.does φ v p P av o (scan (push φ a.s v a.r p) l.j 0 B) (l.invariant.3 φ v p P av o B sh))));
    })

pub returns-clause-does : goal.returns-clause-does
returns-clause-does c =
    let l = c.loop-j in
    record { stays = l.invariant.0; does = λ φ v p P av o B sh. push-ends φ c.args.s B refl sh v c.args.r p (omega (arith, l.auto.j-end c.requires.before_le_states, c.loop-j-test.false)) (l.invariant.3 φ v p P av o B sh) }
