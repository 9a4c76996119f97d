use Prim.Native.Nat.{◌+◌}
use native.Mathlib.Omega.{arith}
use mathlib.Core.Path.{refl}
use Rattle.book.specs.Held.{nodes_in}
use Rattle.encoding.specs.Build.{plan, start, expand, states#, build, built}
use Rattle.encoding.specs.Shows.{counted}
use Rattle.encoding.proofs.Indexing.{draft-refl, draft_then}
use Rattle.encoding.proofs.Settling.{after}
use Rattle.rules.proofs.Moving.{scan-start, scan_step, handed}
use Rattle.records.specs.Table.{numbers_of}
use Rattle.build.proofs.Looping.{due-more, settles, settles-over}
use Rattle.build.proofs.states.grow.Goals as goal

pub returns-in_err-d-clause-does : goal.returns-in_err-d-clause-does
unfolding built
returns-in_err-d-clause-does c =
    let a = c.args in
    let φ = plan (nodes_in a.book.now) a.root in
    rw (handed c.from_residual.result _ c.from_residual.ensures.0 c.from_residual.ensures.1)
    (record {
      room = c.in_err-d.ensures.does.stays.next.room;
      does = λ o P sh. settles-over (expand φ) states# 0 (start φ.root) (build φ) P.whole (λ u h. absurd (omega arith)) (scan-start (expand φ) o _ _ (start φ.root) (c.in_err-d.ensures.does.does o (numbers_of a.states.now) sh)) (λ q. omega arith);
    })

pub loop-j-init : goal.loop-j-init
loop-j-init c =
    let a = c.args in
    let b = c.in_ok-d.ensures in
    let φ = plan (nodes_in a.book.now) a.root in (
      omega arith,
      b.does.stays.next.room,
      omega (arith, b.does.stays.next.states),
      b.indexed,
      draft-refl c.begin.new.draft,
      refl,
      c.requires.low.0,
      λ i h. c.requires.low.1 i (omega (arith, b.does.stays.same)),
      λ o P sh. (scan-start (expand φ) o (counted c.in_ok-d.d) _ (start φ.root) sh, λ u h. absurd (omega arith)),
    )

pub returns-in_err-d-2-clause-does : goal.returns-in_err-d-2-clause-does
unfolding built
returns-in_err-d-2-clause-does c =
    let a = c.args in
    let l = c.loop-j in
    let y = c.in_err-d-2.ensures.does in
    let φ = plan (nodes_in a.book.now) a.root in
    rw (handed c.from_residual-in_err-d-2.result _ c.from_residual-in_err-d-2.ensures.0 c.from_residual-in_err-d-2.ensures.1)
    (record {
      room = y.next.room;
      does = λ o P sh.
          let i = l.invariant.8 o P (c.in_ok-d.ensures.does.does o (numbers_of a.states.now) sh) in
          let due = due-more (expand φ) states# l.j (start φ.root) i.1 (omega (arith, c.loop-j-test.true, i.0.low_states)) in
          settles-over (expand φ) states# (l.j + 1) (start φ.root) (build φ) P.whole due (scan_step (expand φ) l.j o _ _ (start φ.root) (y.does a.root o (after φ l.j) (P.phase l.j due) i.0)) (λ q. omega arith);
    })

pub loop-j-preserved : goal.loop-j-preserved
loop-j-preserved c =
    let a = c.args in
    let l = c.loop-j in
    let y = c.in_ok-d-2.ensures in
    let taken = c.loop-j-test.true in
    let φ = plan (nodes_in a.book.now) a.root in (
      omega (arith, taken, l.invariant.1.states),
      y.does.next.room,
      omega (arith, l.invariant.2, y.does.next.states),
      y.indexed,
      draft_then l.invariant.4 y.same,
      omega arith,
      y.does.low,
      λ i h. omega (arith, y.does.parents i h),
      λ o P sh.
          let i = l.invariant.8 o P sh in
          let due = due-more (expand φ) states# l.j (start φ.root) i.1 (omega (arith, taken, i.0.low_states)) in
          (scan_step (expand φ) l.j o (counted c.in_ok-d-2.d) _ (start φ.root) (y.does.does a.root o (after φ l.j) (P.phase l.j due) i.0), due),
    )

pub returns-clause-does : goal.returns-clause-does
unfolding built
returns-clause-does c =
    let a = c.args in
    let l = c.loop-j in
    let φ = plan (nodes_in a.book.now) a.root in
    record {
      room = l.invariant.1;
      does = λ o P sh.
          let i = l.invariant.8 o P (c.in_ok-d.ensures.does.does o (numbers_of a.states.now) sh) in
          settles (expand φ) states# l.j (start φ.root) (build φ) P.whole i.1 i.0 l.d.states c.loop-j-test.false (λ f. (i.0.exact f).states);
    }
