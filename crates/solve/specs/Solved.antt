-- What `rulebook_search` promises: document 01, "Answers by number", the rows 1, 2, 3 and 10, for clauses that come from no book. Of any numbers and
-- buffers it says what is returned and what is left. Assumes nothing.
use Rattle.std.specs.Prelude.{◌≡◌, Bool, true, ◌&&◌, cond, List, [], ◌∷◌, ℕ, ◌/◌, ◌%◌, leb, eqb, ℤ, nat_abs, length, replicate}
use Rattle.clauses.specs.Clause.{triples}
use Rattle.search.specs.Search.{Run, run, left}
use Rattle.propagation.specs.Ready.{space_for}
use Rattle.branching.specs.Answered.{answer, number_of}

-- the search's own limits, "A clause is three literals", and working space
unfoldable pub lengths_fit : ℕ → ℕ → ℕ → Bool
lengths_fit numbers v room = leb v 4095 && leb numbers 65535 && eqb (numbers % 3) 0 && leb (space_for v (numbers / 3)) room

-- each literal is of one of v variables, or an unused place
unfoldable pub within : ℕ → List ℤ → Bool
within v [] = true
within v (l ∷ clauses) = leb (nat_abs l) v && within v clauses

unfoldable pub fits : List ℤ → ℕ → ℕ → Bool
fits clauses v room = lengths_fit (length clauses) v room && within v clauses

-- the search of the clauses, over as many variables as there are values
abbrev pub searched : List ℤ → List ℕ → Run
searched clauses values = run (length values) (triples clauses)

-- of the clauses, values and working space that came in, the values and working space that are left, and the result r; "10 .. untouched"
pub record Solved (clauses : List ℤ) (values work : List ℕ) (budget : ℕ) (values' work' : List ℕ) (r : ℕ) : Type 0 where
  pub number : r ≡ cond (fits clauses (length values) (length work)) (number_of (answer budget (searched clauses values))) 10
  pub leaves : values' ≡ cond (fits clauses (length values) (length work)) (left budget (length values) (searched clauses values)) values
  pub clears : work' ≡ cond (fits clauses (length values) (length work)) (replicate (length work) 0) work
