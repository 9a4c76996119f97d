-- What the rules promise: each does to every build that counts and buffers show what the definition does to it. Only the code and its proofs, here and
-- in the build, look here. Assumes nothing.
use Rattle.std.specs.Prelude.{ℕ, suc, ◌≡◌, List, ℤ, get_or}
use Rattle.logic.specs.Table.{Node}
use Rattle.signed.specs.Signed as class
use Rattle.signed.specs.Signed.{plus, classed}
use Rattle.signed.specs.Asking.{ask_of, class_of, Small, Tame}
use Rattle.signed.specs.declared.Ask.{Ask}
use Rattle.signed.specs.declared.Class.{Class}
use Rattle.encoding.specs.Build.{Build, Variable, Plan, rule1, rule2, plan}
use Rattle.encoding.specs.Limits.{word}
use Rattle.encoding.specs.Shows.{Buffers, buffers, Shows, Next, Made}
use Rattle.encoding.specs.Shows.{Tally}

-- a part as the code holds it
pub record Part (l : Ask) (p : class.Ask) : Type 0 where
  pub small : Small p.key
  pub is : l ≡ ask_of p

-- r is the class of the variable whose word stands at place v
pub record Sees (ns : List Node) (v : ℕ) (ws : List ℕ) (r : Class) : Type 0 where
  pub tame : Tame r
  pub is : (x : Variable) → Small x.key → word x ≡ get_or ws v 0 → r ≡ class_of (classed ns (plus x.key))

-- the counts and words after steps that make no state; and after steps whose new states have the parent s
pub record Stays (c r : Tally) (ws ws' : List ℕ) : Type 0 where
  pub next : Next c r ws ws'
  pub same : r.states ≡ c.states

pub record Moves (s : ℕ) (c r : Tally) (st st' ws ws' : List ℕ) : Type 0 where
  pub next : Next c r ws ws'
  pub made : Made s c r st st'

-- f is done to every build that is shown
abbrev pub Does : Tally → Buffers → Buffers → Tally → (Build → Build) → Type 0
Does c b b' r f = (o : Buffers) (B : Build) → Shows o c b B → Shows o r b' (f B)

-- a variable a of state s: of the class f, with parts l and m, by rule 1
pub record TwoParts (f : class.Ask → class.Ask → class.Class) (s a : ℕ) (l m : Ask) (c r : Tally) (ws ws' : List ℕ) (cs cs' : List ℤ) : Type 0 where
  pub stays : Stays c r ws ws'
  pub does : (φ : Plan) (v : ℕ) (p q : class.Ask) → Part l p → Part m q → a ≡ suc v → (st : List ℕ) → Does c (buffers st ws cs) (buffers st ws' cs') r (rule1 φ s v (f p q))

-- existential by relation q, with part l, by rule 2
pub record Opens (s a q : ℕ) (l : Ask) (c r : Tally) (b b' : Buffers) : Type 0 where
  pub moves : Moves s c r b.states b'.states b.words b'.words
  pub does : (φ : Plan) (v : ℕ) (p : class.Ask) → Part l p → a ≡ suc v → Does c b b' r (rule2 φ s v (class.existential q p))

-- with part l, which f asks of successors
pub record Pushes (f : Plan → ℕ → class.Ask → Build → Build) (a : ℕ) (l : Ask) (c r : Tally) (b b' : Buffers) : Type 0 where
  pub stays : Stays c r b.words b'.words
  pub does : (φ : Plan) (v : ℕ) (p : class.Ask) → Part l p → a ≡ suc v → Does c b b' r (f φ v p)

-- f of a book's plan: where words and clauses alone are touched, whatever the records are; where states are made of the parent s; where records are read
pub record Asking (f : Plan → Build → Build) (ns : List Node) (c r : Tally) (ws ws' : List ℕ) (cs cs' : List ℤ) : Type 0 where
  pub stays : Stays c r ws ws'
  pub does : (root : ℕ) (st : List ℕ) → Does c (buffers st ws cs) (buffers st ws' cs') r (f (plan ns root))

pub record Making (s : ℕ) (f : Plan → Build → Build) (ns : List Node) (c r : Tally) (b b' : Buffers) : Type 0 where
  pub moves : Moves s c r b.states b'.states b.words b'.words
  pub does : (root : ℕ) → Does c b b' r (f (plan ns root))

pub record Pushing (f : Plan → Build → Build) (ns : List Node) (c r : Tally) (b b' : Buffers) : Type 0 where
  pub stays : Stays c r b.words b'.words
  pub does : (root : ℕ) → Does c b b' r (f (plan ns root))
