-- The clauses of each literal, found again: in the working space stands, for the 0 of unused places and for each literal, its latest place among the clause
-- numbers, and then for each place the one before it with the same literal. Places count from 1; 0 is none. A clause that has a literal more than once is
-- found once, at the first of its places. Assumes nothing.
use Rattle.std.specs.Prelude.{◌≡◌, cond, List, ℕ, zero, suc, ◌+◌, ◌*◌, ◌/◌, ◌≤◌, ◌<◌, eqb, ℤ, pos, negsuc, length, get_or}
use Rattle.propagation.specs.Ready.{Ready, space_for}

-- clauses over v variables, and room for their links
abbrev pub Linkable : List ℤ → ℕ → List ℕ → Type 0
Linkable cl v L = (many : ℕ) × Ready cl many v × (space_for v many ≤ length L)

-- the literal of the variable at a place that a mark makes true
unfoldable pub made : ℕ → ℕ → ℤ
made i m = cond (eqb m 1) (pos (suc i)) (negsuc i)

-- where a literal's latest place stands: that of the unused places first, then for each variable that of its negation and its own
unfoldable pub head_of : ℤ → ℕ
head_of (pos n) = 2 * n
head_of (negsuc n) = 2 * n + 1

-- of the latest place so far and the next one with the same literal, the one that counts: the earlier, if both are in one clause
unfoldable pub joined : ℕ → ℕ → ℕ
joined last p = cond (eqb ((last + 2) / 3) ((p + 2) / 3)) last p

-- the latest place among the first n clause numbers of the literal that stands at x
unfoldable pub latest : List ℤ → ℕ → ℕ → ℕ
latest cl x zero = 0
latest cl x (suc n) = cond (eqb (head_of (get_or cl n (pos 0))) x) (joined (latest cl x n) (suc n)) (latest cl x n)

-- the first n clause numbers, of v variables, are linked in L
pub record Linked (cl : List ℤ) (v n : ℕ) (L : List ℕ) : Type 0 where
  pub long : 2 * v + n < length L
  pub heads : (x : ℕ) → x ≤ 2 * v → get_or L x 0 ≡ latest cl x n
  pub before : (p : ℕ) → p < n → get_or L (2 * v + suc p) 0 ≡ latest cl (head_of (get_or cl p (pos 0))) p
