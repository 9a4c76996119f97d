use Prim.Native.Nat.{◌+◌}
use native.Mathlib.Omega.{arith}
use mathlib.Core.Path.{ap}
use Rattle.book.specs.Held.{nodes_in}
use Rattle.encoding.specs.Build.{plan, by, rule1, variables#}
use Rattle.encoding.specs.Shows.{counted}
use Rattle.encoding.proofs.Indexing.{draft-refl, draft_then}
use Rattle.encoding.proofs.Steps.{roomy}
use Rattle.rules.proofs.Moving.{stays-refl, stays_then, handed}
use Rattle.build.proofs.Looping.{settles, settles-over}
use Rattle.build.proofs.Walking.{Gone, upto, walks1, walk_begins, walk_goes, walk_one, walk_does, walk_end, shown_first, due_first, due_one, due_next}
use Rattle.build.proofs.phases.phase1.Goals as goal
use Rattle.build.proofs.phases.phase1.Goals.{After-next_of-next}

gone : (c : After-next_of-next) → Gone c.in_ok-d.d.variables c.args.s c.in-Some.v (counted c.in_ok-d.d) c.rule1.new.draft.index.now.words.now c.next_of-next.result
gone c =
    let y = c.in_ok-d.ensures in
    let n = c.in_ok-d.d.variables in
    walk_goes n c.next_of-next.result c.loop-next.invariant.3 c.in-Some.is y.does.stays.next y.does.stays.next.variables (omega arith) (c.next_of-next.ensures _ n (omega arith) y.indexed.listed)

pub loop-next-init : goal.loop-next-init
loop-next-init c =
    let a = c.args in
    let room = roomy c.args.c in
    let w = walk_begins a.c.variables a.s (counted a.c) a.draft.now.index.now.words.now (omega arith) c.first_of-next.result (c.first_of-next.ensures _ c.requires.indexed.listed) in (
      stays-refl (counted a.c) a.draft.now.index.now.words.now room,
      draft-refl a.draft.now,
      c.requires.indexed,
      w.1,
      λ root st o B sh. shown_first walks1 (plan (nodes_in a.book.now) root) B room w sh,
      λ root st o B sh. due_first walks1 (plan (nodes_in a.book.now) root) B w.1 sh,
    )

pub next_of-next-requires : goal.next_of-next-requires
next_of-next-requires c = (omega (arith, (c.loop-next.invariant.3.stands c.in-Some.v c.in-Some.is).0, c.in_ok-d.ensures.does.stays.next.variables), c.in_ok-d.d.few_variables)

pub loop-next-smaller : goal.loop-next-smaller
loop-next-smaller c =
    let g = gone (goal.at.loop-next-smaller c).After-next_of-next in
    omega (arith, g.on, g.walk.low, g.room.variables, ap (upto c.loop-next.d.variables) c.in-Some.is)

pub loop-next-preserved : goal.loop-next-preserved
loop-next-preserved c =
    let i = c.loop-next.invariant in
    let y = c.in_ok-d.ensures in
    let ns = nodes_in c.args.book.now in
    let g = gone (goal.at.loop-next-preserved c).After-next_of-next in (
      stays_then i.0 y.does.stays,
      draft_then i.1 y.same,
      y.indexed,
      g.walk,
      λ root st. walk_does walks1 (plan ns root) i.3 c.in-Some.is (y.does.does root st) (i.4 root st) g,
      λ root st o B sh. due_next walks1 (plan ns root) i.3 c.in-Some.is (y.does.does root st) (i.4 root st) g o B sh (i.5 root st o B sh),
    )

pub returns-in_err-d-clause-does : goal.returns-in_err-d-clause-does
returns-in_err-d-clause-does c =
    let i = c.loop-next.invariant in
    let y = c.in_err-d.ensures.does in
    let v = c.in-Some.v in
    rw (handed c.from_residual.result _ c.from_residual.ensures.0 c.from_residual.ensures.1)
    (record {
      stays = stays_then i.0 y.stays;
      does = λ root o st B R se sh.
          let φ = plan (nodes_in c.args.book.now) root in
          let due = due_one walks1 φ i.3 c.in-Some.is (y.does root st) (i.4 root st) o B sh (i.5 root st o B sh) in
          settles-over (by φ (rule1 φ) c.args.s) variables# (v + 1) B R se due (walk_one walks1 φ i.3 c.in-Some.is (y.does root st) (i.4 root st) o B sh) (λ q. omega arith);
    })

pub returns-clause-does : goal.returns-clause-does
returns-clause-does c =
    let l = c.loop-next in
    let i = l.invariant in
    record {
      stays = i.0;
      does = λ root o st B R se sh.
          let φ = plan (nodes_in c.args.book.now) root in
          let x = i.4 root st o B sh in
          settles (by φ (rule1 φ) c.args.s) variables# (upto l.d.variables l.next) B R se (i.5 root st o B sh) x l.d.variables (omega (arith, walk_end l.d.variables l.next c.in_default.not-Some)) (λ f. (x.exact f).variables);
    }
