use Prim.Native.Nat.{◌+◌, ◌≤◌, ◌-◌}
use mathlib.Core.Path.{◌≡◌}
use mathlib.Core.Bool.{false}
use lib.ListN.{length}
use Rattle.book.specs.Held.{nodes_in}
use Rattle.signed.specs.Signed.{signed}
use Rattle.encoding.specs.Build.{plan, start, expand, states#}
use Rattle.encoding.specs.Holds.{Holds}
use Rattle.encoding.specs.Drafts.{SameDraft, held}
use Rattle.encoding.specs.Limits.{max_states}
use Rattle.encoding.specs.Shows.{Room, Low, Parents, Buffers, Shows, counted}
use Rattle.encoding.proofs.Settling.{Due, Settled, after}
use Rattle.records.specs.Table.{numbers_of}
use Rattle.build.proofs.states.grow.Given as goal

abbrev pub invariant-loop-j : goal.invariant-loop-j
invariant-loop-j l =
    (l.j ≤ max_states) × Room (counted l.d) × (1 ≤ l.d.states) × Holds l.d.variables l.draft.index.now × SameDraft l.initial.draft l.draft × (length l.states ≡ length l.initial.states)
    × Low (numbers_of l.states) × Parents l.d.states (l.j + 1) (numbers_of l.states)
    × ((o : Buffers) → Settled (plan (nodes_in l.book) l.root) → Shows o (counted l.initial.d) (held l.initial.states l.initial.draft) (start (signed (nodes_in l.book) l.root false))
    → Shows o (counted l.d) (held l.states l.draft) (after (plan (nodes_in l.book) l.root) l.j) × Due (expand (plan (nodes_in l.book) l.root)) states# l.j (start (signed (nodes_in l.book) l.root false)))

abbrev pub decreases-loop-j : goal.decreases-loop-j
decreases-loop-j l = max_states - l.j
