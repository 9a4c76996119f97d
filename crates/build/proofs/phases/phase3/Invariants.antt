-- The invariant: at v, a variable of the state or the end, stands what the definition's scan gives at v. With no state made there is nothing to do. The
-- measure is what is left of the places.
use Prim.Native.Nat.{ℕ, ◌-◌}
use Rattle.book.specs.Held.{nodes_in}
use Rattle.encoding.specs.Build.{plan, scan, by, rule3}
use Rattle.encoding.specs.Holds.{Holds}
use Rattle.encoding.specs.Drafts.{SameDraft, held}
use Rattle.encoding.specs.Shows.{counted}
use Rattle.rules.specs.Does.{Stays, Does}
use Rattle.build.proofs.Walking.{upto, Walk}
use Rattle.build.proofs.phases.phase3.Given as goal

abbrev pub invariant-loop-next : goal.invariant-loop-next
invariant-loop-next l =
    Stays (counted l.initial.d) (counted l.d) l.initial.draft.index.now.words.now l.draft.index.now.words.now × SameDraft l.initial.draft l.draft
    × Holds l.d.variables l.draft.index.now × Walk l.n l.s (counted l.d) l.draft.index.now.words.now l.next
    × ((root : ℕ) → Does (counted l.initial.d) (held l.states l.initial.draft) (held l.states l.draft) (counted l.d) (scan (by (plan (nodes_in l.book) root) (rule3 (plan (nodes_in l.book) root)) l.s) (upto l.n l.next) 0))

abbrev pub decreases-loop-next : goal.decreases-loop-next
decreases-loop-next l = l.n - upto l.n l.next
