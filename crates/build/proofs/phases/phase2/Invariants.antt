-- The invariant: at v, a variable of the state or the end, stands what the definition's scan gives at v. The measure is what is left of the places.
use Prim.Native.Nat.{ℕ, ◌-◌}
use mathlib.Core.Path.{◌≡◌}
use lib.ListN.{length}
use Rattle.book.specs.Held.{nodes_in}
use Rattle.encoding.specs.Build.{plan, scan, by, rule2}
use Rattle.encoding.specs.Holds.{Holds}
use Rattle.encoding.specs.Drafts.{SameDraft, held}
use Rattle.encoding.specs.Shows.{counted}
use Rattle.rules.specs.Does.{Moves, Does}
use Rattle.records.specs.Table.{numbers_of}
use Rattle.build.proofs.Walking.{upto, Walk}
use Rattle.build.proofs.phases.phase2.Given as goal

abbrev pub invariant-loop-next : goal.invariant-loop-next
invariant-loop-next l =
    Moves l.s (counted l.initial.d) (counted l.d) (numbers_of l.initial.states) (numbers_of l.states) l.initial.draft.index.now.words.now l.draft.index.now.words.now × (length l.states ≡ length l.initial.states) × SameDraft l.initial.draft l.draft
    × Holds l.d.variables l.draft.index.now × Walk l.n l.s (counted l.d) l.draft.index.now.words.now l.next
    × ((root : ℕ) → Does (counted l.initial.d) (held l.initial.states l.initial.draft) (held l.states l.draft) (counted l.d) (scan (by (plan (nodes_in l.book) root) (rule2 (plan (nodes_in l.book) root)) l.s) (upto l.n l.next) 0))

abbrev pub decreases-loop-next : goal.decreases-loop-next
decreases-loop-next l = l.n - upto l.n l.next
