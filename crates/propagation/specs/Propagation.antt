-- Document 01, "The search", propagation with the trail as a queue: what has been assigned is reached by some sequence of forcings, and every clause that
-- could fail or force holds a variable that is still to be visited. Only `branching` cites this besides. Assumes nothing.
use Rattle.std.specs.Prelude.{◌≡◌, Bool, true, false, ◌⊎◌, ℕ, suc, ◌+◌, ◌-◌, ◌≤◌, ◌<◌, length, take, ℤ, nat_abs}
use mathlib.Core.List.{List, Memᴰ}
use Rattle.clauses.specs.Clause.{Clause, triples}
use Rattle.search.specs.Search.{says, scan, quiet, fails, Settles, clash, calm, settle, zeros, lowest}
use Rattle.search.specs.Models.{Forcing}
use Rattle.propagation.specs.Trail.{plain, noted, Marked, Branch, pending, latest_branch}

-- the clause holds the variable at a place
abbrev pub Held : Clause → ℕ → Type 0
Held c x = (l : ℤ) × Memᴰ l c × (nat_abs l ≡ suc x)

-- it holds a variable that the entries from n up to the top note
abbrev pub Waits : Clause → List ℕ → ℕ → ℕ → Type 0
Waits c t n top = (k : ℕ) × (n ≤ k) × (k < top) × Held c (noted t k)

-- it says nothing, or it is still to be visited
abbrev pub Calmed : Clause → List ℕ → List ℕ → ℕ → ℕ → Type 0
Calmed c a t n top = (says a c ≡ quiet) ⊎ Waits c t n top

-- some clause fails
abbrev pub Failing : List ℤ → List ℕ → Type 0
Failing cl a = (c : Clause) × Memᴰ c (triples cl) × (says a c ≡ fails)

-- from a with n entries on the trail t literals were forced, in some order, and noted: the same branches are pending, nothing that was assigned is
-- unassigned, what was noted is so, and a clause that said nothing still says nothing or waits
pub record Moved (cl : List ℤ) (n : ℕ) (a t : List ℕ) (top : ℕ) (a' t' : List ℕ) : Type 0 where
  pub by : Forcing (triples cl) a a'
  pub long : length a' ≡ length a
  pub long_t : length t' ≡ length t
  pub above : n ≤ top
  pub used : top + zeros a' ≡ n + zeros a
  pub back : pending a' t' top ≡ pending a t n
  pub low : lowest a ≤ lowest a'
  pub front : take n t' ≡ take n t
  pub marked : (k : ℕ) → n ≤ k → k < top → Marked a' (plain t' k)
  pub rest : (c : Clause) → says a c ≡ quiet → Calmed c a' t' n top

-- these clauses P were heeded on the way, up to one that fails
pub record Heard (cl : List ℤ) (P : Clause → Type 0) (n : ℕ) (a t : List ℕ) (top : ℕ) (a' t' : List ℕ) (calmly : Bool) : Type 0 where
  pub moved : Moved cl n a t top a' t'
  pub calmed : calmly ≡ true → (c : Clause) → P c → Calmed c a' t' n top
  pub failing : calmly ≡ false → Failing cl a'

-- every clause, and those that hold the variable at a place
abbrev pub Every : List ℤ → Clause → Type 0
Every cl c = Memᴰ c (triples cl)

abbrev pub Holding : List ℤ → ℕ → Clause → Type 0
Holding cl x c = Every cl c × Held c x

-- the entries from a head up to n are a queue: what they note is so, and every clause that could fail or force waits in it
pub record Queue (cl : List ℤ) (a t : List ℕ) (head n : ℕ) : Type 0 where
  pub marked : (k : ℕ) → head ≤ k → k < n → Marked a (plain t k)
  pub calmed : (c : Clause) → Every cl c → Calmed c a t head n

-- all that waits was visited
pub record Followed (cl : List ℤ) (n : ℕ) (a t : List ℕ) (top : ℕ) (a' t' : List ℕ) (calmly : Bool) : Type 0 where
  pub moved : Moved cl n a t top a' t'
  pub silent : calmly ≡ true → (c : Clause) → Every cl c → says a' c ≡ quiet
  pub failing : calmly ≡ false → Failing cl a'

unfoldable pub settled_by : Bool → List ℕ → Settles
settled_by true a = calm a
settled_by false a = clash

-- from a with n entries on the trail t: what `settle` gives, the same branches pending, and nothing unassigned that was assigned
pub record Settling (cl : List ℤ) (n : ℕ) (a t a' t' : List ℕ) (calmly : Bool) (top : ℕ) : Type 0 where
  pub is : settled_by calmly a' ≡ settle (triples cl) a
  pub above : n ≤ top
  pub used : top + zeros a' ≡ n + zeros a
  pub back : pending a' t' top ≡ pending a t n
  pub low : lowest a ≤ lowest a'

-- a branch is made on the lowest unassigned variable, and where it is made all clauses are quiet
abbrev pub Rested : List ℤ → Branch → Type 0
Rested cl d = (d.at ≡ lowest d.marks) × (scan d.marks (triples cl) ≡ quiet)

-- a node is entered at the root, or with its branch noted last
pub record Started (cl : List ℤ) (a t : List ℕ) (n : ℕ) : Type 0 where
  pub made : (n ≡ 0) ⊎ (Rested cl (latest_branch a t n) × Marked a (plain t (n - 1)))
  pub left : (d : Branch) → Memᴰ d (pending a t n) → Rested cl d
