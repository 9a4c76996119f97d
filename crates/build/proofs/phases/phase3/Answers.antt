use native.Mathlib.Omega.{arith}
use mathlib.Core.Path.{refl, ap}
use Rattle.book.specs.Held.{nodes_in}
use Rattle.encoding.specs.Build.{plan, phase3, rule3}
use Rattle.encoding.specs.Shows.{counted}
use Rattle.encoding.proofs.Indexing.{draft-refl, draft_then}
use Rattle.encoding.proofs.Steps.{roomy}
use Rattle.rules.proofs.Moving.{stays-refl, stays_then, handed}
use Rattle.build.proofs.Looping.{childless}
use Rattle.build.proofs.Walking.{Gone, upto, walks3, walk_begins, walk_goes, walk_does, walk_over, walk_whole, shown_first}
use Rattle.build.proofs.phases.phase3.Goals as goal
use Rattle.build.proofs.phases.phase3.Goals.{After-next_of-next}

gone : (c : After-next_of-next) → Gone c.args.c.variables c.args.s c.in-Some.v (counted c.in_ok-d.d) c.rule3.new.draft.index.now.words.now c.next_of-next.result
gone c =
    let w = c.loop-next.invariant.3 in
    let y = c.in_ok-d.ensures in
    walk_goes c.args.c.variables c.next_of-next.result w c.in-Some.is y.does.stays.next (omega arith) (omega (arith, w.there, y.does.stays.next.variables)) (c.next_of-next.ensures _ c.in_ok-d.d.variables (omega (arith, w.there, y.does.stays.next.variables)) y.indexed.listed)

pub returns-then-c-before-clause-does : goal.returns-then-c-before-clause-does
returns-then-c-before-clause-does c = childless (roomy c.args.c) refl c.if-c-before.true c.requires.low.1

pub loop-next-init : goal.loop-next-init
loop-next-init c =
    let a = c.args in
    let room = roomy c.args.c in
    let w = walk_begins a.c.variables a.s (counted a.c) a.draft.now.index.now.words.now (omega arith) c.first_of-next.result (c.first_of-next.ensures _ c.requires.indexed.listed) in (
      stays-refl (counted a.c) a.draft.now.index.now.words.now room,
      draft-refl a.draft.now,
      c.requires.indexed,
      w.1,
      λ root o B sh. shown_first walks3 (plan (nodes_in a.book.now) root) B room w sh,
    )

pub rule3-requires-clause-room : goal.rule3-requires-clause-room
rule3-requires-clause-room c =
    let l = c.loop-next in
    (omega (arith, (l.invariant.3.stands c.in-Some.v c.in-Some.is).0, l.invariant.3.there), omega (arith, c.requires.room.1, l.invariant.0.same))

pub next_of-next-requires : goal.next_of-next-requires
next_of-next-requires c = ((c.loop-next.invariant.3.stands c.in-Some.v c.in-Some.is).0, omega (arith, c.args.c.few_variables))

pub loop-next-smaller : goal.loop-next-smaller
loop-next-smaller c =
    let g = gone (goal.at.loop-next-smaller c).After-next_of-next in
    omega (arith, g.on, g.walk.low, ap (upto c.args.c.variables) c.in-Some.is)

pub loop-next-preserved : goal.loop-next-preserved
loop-next-preserved c =
    let i = c.loop-next.invariant in
    let y = c.in_ok-d.ensures in
    let g = gone (goal.at.loop-next-preserved c).After-next_of-next in (
      stays_then i.0 y.does.stays,
      draft_then i.1 y.same,
      y.indexed,
      g.walk,
      λ root. walk_does walks3 (plan (nodes_in c.args.book.now) root) i.3 c.in-Some.is (y.does.does root) (i.4 root) g,
    )

pub returns-in_err-d-clause-does : goal.returns-in_err-d-clause-does
unfolding phase3
returns-in_err-d-clause-does c =
    let i = c.loop-next.invariant in
    let y = c.in_err-d.ensures.does in
    rw (handed c.from_residual.result _ c.from_residual.ensures.0 c.from_residual.ensures.1)
    (record {
      stays = stays_then i.0 y.stays;
      does = λ root. walk_over walks3 (plan (nodes_in c.args.book.now) root) i.3 c.in-Some.is (y.does root) (i.4 root) refl refl (λ q. omega arith);
    })

pub returns-clause-does : goal.returns-clause-does
unfolding phase3
returns-clause-does c =
    let i = c.loop-next.invariant in
    record { stays = i.0; does = λ root. walk_whole rule3 (plan (nodes_in c.args.book.now) root) c.args.s refl refl c.in_default.not-Some (i.4 root) }
