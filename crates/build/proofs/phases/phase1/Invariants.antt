-- The invariant: at v, a variable of the state or the end, stands what the definition's scan gives at v, and each turn so far was due. At the end no place
-- is left, or the build is over for good. The measure is what is left of the limit.
use Prim.Native.Nat.{ℕ, ◌-◌}
use Rattle.book.specs.Held.{nodes_in}
use mathlib.Core.List.{List}
use Rattle.encoding.specs.Build as def
use Rattle.encoding.specs.Build.{plan, scan, by, rule1, variables#}
use Rattle.encoding.specs.Holds.{Holds}
use Rattle.encoding.specs.Drafts.{SameDraft}
use Rattle.encoding.specs.Limits.{max_variables}
use Rattle.encoding.specs.Shows.{Buffers, buffers, Shows, counted}
use Rattle.encoding.proofs.Settling.{Due}
use Rattle.rules.specs.Does.{Stays, Does}
use Rattle.build.proofs.Walking.{upto, Walk}
use Rattle.build.proofs.phases.phase1.Given as goal

abbrev pub invariant-loop-next : goal.invariant-loop-next
invariant-loop-next l =
    Stays (counted l.initial.d) (counted l.d) l.initial.draft.index.now.words.now l.draft.index.now.words.now × SameDraft l.initial.draft l.draft
    × Holds l.d.variables l.draft.index.now × Walk l.d.variables l.s (counted l.d) l.draft.index.now.words.now l.next
    × ((root : ℕ) (st : List ℕ) → Does (counted l.initial.d) (buffers st l.initial.draft.index.now.words.now l.initial.draft.clauses.now) (buffers st l.draft.index.now.words.now l.draft.clauses.now) (counted l.d) (scan (by (plan (nodes_in l.book) root) (rule1 (plan (nodes_in l.book) root)) l.s) (upto l.d.variables l.next) 0))
    × ((root : ℕ) (st : List ℕ) (o : Buffers) (B : def.Build) → Shows o (counted l.initial.d) (buffers st l.initial.draft.index.now.words.now l.initial.draft.clauses.now) B → Due (by (plan (nodes_in l.book) root) (rule1 (plan (nodes_in l.book) root)) l.s) variables# (upto l.d.variables l.next) B)

abbrev pub decreases-loop-next : goal.decreases-loop-next
decreases-loop-next l = max_variables - upto l.d.variables l.next
