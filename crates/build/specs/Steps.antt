-- What the functions of a build promise one another, over the rules: phases, the state at one place, the start and the whole. Only the code and its
-- proofs look here. Assumes nothing.
use Rattle.std.specs.Prelude.{ℕ, suc, ◌+◌, ◌*◌, ◌≡◌, false, List, [], ◌∷◌, ℤ, pos}
use Rattle.ground.specs.Buffer.{cleared}
use Rattle.logic.specs.Table.{Node}
use Rattle.signed.specs.Signed.{signed}
use Rattle.encoding.specs.Build.{Build, variables#, norecord, by, rule1, phase1, expand, start, plan, built}
use Rattle.encoding.specs.Limits.{max_states, max_variables, max_clauses}
use Rattle.encoding.specs.Shows.{at_start, Room, Buffers, buffers, Shows, Next, Low, Parents}
use Rattle.encoding.specs.Shows.{Tally}
use Rattle.encoding.proofs.Settling.{Settles, Settled}
use Rattle.rules.specs.Does.{Stays}

-- "all 0 up to the stated sizes"
pub record Cleared (st ws : List ℕ) (cs : List ℤ) (st' ws' : List ℕ) (cs' : List ℤ) : Type 0 where
  pub states : st' ≡ cleared 0 (3 * max_states) st
  pub words : ws' ≡ cleared 0 max_variables ws
  pub clauses : cs' ≡ cleared (pos 0) (3 * max_clauses) cs

-- phase 1 of state s: from B to where its loop comes to its end
pub record Settling (s : ℕ) (ns : List Node) (c r : Tally) (ws ws' : List ℕ) (cs cs' : List ℤ) : Type 0 where
  pub stays : Stays c r ws ws'
  pub does : (root : ℕ) (o : Buffers) (st : List ℕ) (B R : Build) → Settles (by (plan ns root) (rule1 (plan ns root)) s) variables# B R
      → Shows o c (buffers st ws cs) B → Shows o r (buffers st ws' cs') R

-- the state at place j
pub record Expands (j : ℕ) (ns : List Node) (c r : Tally) (b b' : Buffers) : Type 0 where
  pub next : Next c r b.words b'.words
  pub low : Low b'.states
  pub parents : Parents r.states (j + 2) b'.states
  pub does : (root : ℕ) (o : Buffers) (B : Build) → Settles (by (plan ns root) (rule1 (plan ns root)) (suc j)) variables# B (phase1 (plan ns root) (suc j) B)
      → Shows o c b B → Shows o r b' (expand (plan ns root) j B)

-- the build before anything is asked, with state 1 asked for the root, and whole
abbrev pub bare : Build
bare = record { states = norecord ∷ []; variables = []; clauses = [] }

pub record Begins (root : ℕ) (ns : List Node) (r : Tally) (ws ws' : List ℕ) (cs cs' : List ℤ) : Type 0 where
  pub stays : Stays at_start r ws ws'
  pub does : (o : Buffers) (st : List ℕ) → Shows o at_start (buffers st ws cs) bare → Shows o r (buffers st ws' cs') (start (signed ns root false))

pub record Runs (root : ℕ) (ns : List Node) (r : Tally) (b b' : Buffers) : Type 0 where
  pub room : Room r
  pub does : (o : Buffers) → Settled (plan ns root) → Shows o at_start b bare → Shows o r b' (built ns root)
