-- What `search` promises: document 01, "Answers by number", the rows 1, 2 and 3 with their count, and what is left in the lent
-- values and working space. Assumes nothing.
use Rattle.std.specs.Prelude.{◌≡◌, cond, List, ℕ, length, replicate, ℤ}
use Rattle.clauses.specs.Clause.{triples}
use Rattle.search.specs.Search.{Run, sat, unsat, run, finishes, left}
use Rattle.branching.specs.declared.Outcome.{Outcome}
use Rattle.branching.specs.declared.Outcome.TheVariants.{Yes, No, Stopped}

-- "the count is C for 1 and 2"
unfoldable pub verdict : Run → Outcome
verdict (sat b n) = Yes n
verdict (unsat n) = No n

-- "and the budget for 3"
unfoldable pub answer : ℕ → Run → Outcome
answer budget R = cond (finishes budget R) (verdict R) (Stopped budget)

-- "Answers by number": "1 yes", "2 no", "3 stopped"
abbrev pub number_of : Outcome → ℕ
number_of (Yes n) = 1
number_of (No n) = 2
number_of (Stopped n) = 3

-- of the clauses, values and working space that came in, the values and working space that are left, and the result r
pub record Answered (clauses : List ℤ) (values work : List ℕ) (budget : ℕ) (values' work' : List ℕ) (r : Outcome) : Type 0 where
  pub gives : r ≡ answer budget (run (length values) (triples clauses))
  pub leaves : values' ≡ left budget (length values) (run (length values) (triples clauses))
  pub clears : work' ≡ replicate (length work) 0
