-- What propagation and the search ask of the clause numbers and the working space. Assumes nothing.
use Rattle.std.specs.Prelude.{◌≡◌, List, ℕ, ◌+◌, ◌*◌, ◌≤◌, ◌<◌, length, get_or, ℤ, pos, nat_abs}

-- the numbers are `many` clauses, each literal is of one of v variables or an unused place, there are at most 4,095 variables, and a clause number's
-- place fits 16 bits
pub record Ready (clauses : List ℤ) (many v : ℕ) : Type 0 where
  pub long : length clauses ≡ 3 * many
  pub range : (k : ℕ) → nat_abs (get_or clauses k (pos 0)) ≤ v
  pub small : v < 4096
  pub few : 3 * many < 65536

-- the working space: a place for each literal, one for the unused places of clauses, and one for each clause number
abbrev pub space_for : ℕ → ℕ → ℕ
space_for v many = 2 * v + 1 + 3 * many
