use Prim.Native.Nat.{ℕ, suc}
use mathlib.Core.Path.{◌≡◌}
use Rattle.signed.specs.Signed as class
use Rattle.encoding.specs.Build.{Plan, scan, push}
use Rattle.encoding.specs.Holds.{Holds}
use Rattle.encoding.specs.Drafts.{SameDraft, held}
use Rattle.encoding.specs.Shows.{counted}
use Rattle.rules.specs.Does.{Part, Stays, Does}
use Rattle.rules.proofs.classes.universal.Given as goal

abbrev pub invariant-loop-j : goal.invariant-loop-j
invariant-loop-j l =
    Stays (counted l.initial.d) (counted l.d) l.initial.draft.index.now.words.now l.draft.index.now.words.now × SameDraft l.initial.draft l.draft × Holds l.d.variables l.draft.index.now
    × ((φ : Plan) (v : ℕ) (p : class.Ask) → Part l.l p → l.a ≡ suc v → Does (counted l.initial.d) (held l.states l.initial.draft) (held l.states l.draft) (counted l.d) (scan (push φ l.s v l.r p) l.j 0))
