-- Document 01, "The search", as one loop with a trail does it: which variables were assigned, in order, which branches are still to be made, with how many
-- unmet clauses, and going back to them. Only `branching` cites this besides. Assumes nothing.
use Rattle.std.specs.Prelude.{◌≡◌, Bool, true, false, cond, Option, MatchOption, ℕ, zero, suc, ◌+◌, ◌-◌, ◌*◌, ◌/◌, ◌%◌, ◌≤◌, ◌<◌, length, get_or, set, ℤ, ltb}
use mathlib.Core.List.{List, [], ◌∷◌, Memᴰ}
use Rattle.clauses.specs.Clause.{triples}
use Rattle.search.specs.Search.{zeros, lowest}
use Rattle.propagation.specs.Unmet.{unmet_among, Counts}
use Rattle.propagation.specs.declared.marks.Second.{Second}

-- an entry from here on is a first branch, whose second is still to be made
abbrev pub first_branch : ℕ
first_branch = 32768

-- an entry without that: twice the place of a variable that was made true, and one more for one that was made false
abbrev pub entry_for : ℕ → ℕ → ℕ
entry_for i m = 2 * i + m - 1

abbrev pub plain : List ℕ → ℕ → ℕ
plain t k = get_or t k 0 % first_branch

-- the variable's place that an entry notes
abbrev pub noted : List ℕ → ℕ → ℕ
noted t k = plain t k / 2

-- that variable has the mark that the entry tells
abbrev pub Marked : List ℕ → ℕ → Type 0
Marked a e = get_or a (e / 2) 0 ≡ e % 2 + 1

-- a branch: the trail's entry that notes it, the variable's place, and the marks at which it is made
pub record Branch : Type 0 where
  pub entry : ℕ
  pub at : ℕ
  pub marks : List ℕ

abbrev pub branch : ℕ → ℕ → List ℕ → Branch
branch k i a = record { entry = k; at = i; marks = a }

abbrev pub second : Branch → List ℕ
second d = set d.marks d.at 2

-- the branches whose second is still to be made, the latest first, read off the first n entries of a trail: what was assigned after each is undone
unfoldable pub pending : List ℕ → List ℕ → ℕ → List Branch
pending a t zero = []
pending a t (suc k) =
    cond (ltb (get_or t k 0) first_branch)
    (pending (set a (noted t k) 0) t k)
    (branch k (noted t k) (set a (noted t k) 0) ∷ pending (set a (noted t k) 0) t k)

-- the branch that the last of n entries notes
abbrev pub latest_branch : List ℕ → List ℕ → ℕ → Branch
latest_branch a t n = branch (n - 1) (noted t (n - 1)) (set a (noted t (n - 1)) 0)

-- ---- the number of unmet clauses at each pending branch, saved under the branch's entry
abbrev pub Saved : List ℤ → List ℕ → Branch → Type 0
Saved cl s d = (d.at < length d.marks) × Counts cl d.marks (get_or s d.entry 0)

abbrev pub AllSaved : List ℤ → List ℕ → List Branch → Type 0
AllSaved cl s P = (d : Branch) → Memᴰ d P → Saved cl s d

-- the lowest unassigned variable is made true, and noted as a first branch; the number of unmet clauses before that is saved, and that after it is v
pub record Branched (cl : List ℤ) (n : ℕ) (a t s a' t' s' : List ℕ) (k v : ℕ) : Type 0 where
  pub marks : a' ≡ set a (lowest a) 1
  pub notes : t' ≡ set t n (entry_for (lowest a) 1 + first_branch)
  pub saves : s' ≡ set s n (unmet_among a (triples cl))
  pub leads : k ≡ n + 1
  pub unmet : v ≡ unmet_among a' (triples cl)

-- the entries from one up to another are no first branches
abbrev pub Plain : List ℕ → ℕ → ℕ → Type 0
Plain t from to = (j : ℕ) → from ≤ j → j < to → get_or t j 0 < first_branch

-- what they assigned is undone
pub record Undone (t : List ℕ) (from to : ℕ) (a a' : List ℕ) : Type 0 where
  pub long : length a' ≡ length a
  pub left : pending a' t from ≡ pending a t to
  pub used : from + zeros a' ≤ to + zeros a

-- where the latest first branch stands among the first n entries
abbrev pub LatestFirst : List ℕ → ℕ → Option ℕ → Type 0
LatestFirst t n o = MatchOption o (Plain t 0 n) (λ k. (k < n) × (first_branch ≤ get_or t k 0) × Plain t (k + 1) n)

-- going back: the latest pending branch gets its second, with the number of unmet clauses; or there is none
pub record Resumed (cl : List ℤ) (n : ℕ) (a t a' t' : List ℕ) (k u : ℕ) : Type 0 where
  pub is : pending a t n ≡ latest_branch a' t' k ∷ pending a' t' k
  pub marks : a' ≡ second (latest_branch a' t' k)
  pub told : Marked a' (plain t' (k - 1))
  pub room : k + zeros a' ≤ n + zeros a
  pub counts : Counts cl a' u

-- nothing is pending, and all stays
abbrev pub Ended : List ℕ → List ℕ → ℕ → List ℕ → List ℕ → Type 0
Ended a t n a' t' = (pending a t n ≡ []) × (a' ≡ a) × (t' ≡ t)

abbrev pub Backed : List ℤ → ℕ → List ℕ → List ℕ → List ℕ → List ℕ → Option Second → Type 0
Backed cl n a t a' t' o = MatchOption o (Ended a t n a' t') (λ r. Resumed cl n a t a' t' r.top r.unmet)

-- the same, told by a test
abbrev pub Entered : List ℤ → ℕ → List ℕ → List ℕ → List ℕ → List ℕ → ℕ → ℕ → Bool → Type 0
Entered cl n a t a' t' k u false = Ended a t n a' t'
Entered cl n a t a' t' k u true = Resumed cl n a t a' t' k u
