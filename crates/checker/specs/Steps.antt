-- What the functions of the check promise one another: a build searched, a table of numbers filled. Assumes nothing.
use Rattle.std.specs.Prelude.{ℕ, ◌*◌, ◌≤◌, ◌≡◌, ◌&&◌, cond, List, leb, ◌++◌, ℤ, length, take, drop, replicate}
use Rattle.encoding.specs.Limits.{max_states}
use Rattle.encoding.specs.declared.counts.Build.{Build}
use Rattle.clauses.specs.Clause.{triples}
use Rattle.search.specs.Search.{Run, run, nodes, finishes, left}
use Rattle.propagation.specs.Ready.{Ready, space_for}
use Rattle.meaning.specs.Answers.{Answer, verdict}
use Rattle.checker.specs.Checked.{ended, told}
use Rattle.std.specs.Prelude.{Ok}
use Rattle.checker.specs.declared.Answer as code

-- the clauses of a build with totals b, where they lie
abbrev pub run_of : Build → List ℤ → Run
run_of b cs = run b.variables (triples (take (3 * b.clauses) cs))

-- the answer to a run within a budget
unfoldable pub decided : ℕ → Build → Run → Answer
decided budget b R = ended (cond (finishes budget R) (verdict R) 3) b (cond (finishes budget R) (nodes R) budget)

-- the numbers of working space that the search of a build takes
abbrev pub space : Build → ℕ
space b = space_for b.variables b.clauses

-- the first places of values and working space are the search's
pub record Decided (b : Build) (budget : ℕ) (cs : List ℤ) (vs wk vs' wk' : List ℕ) (r : code.Answer) : Type 0 where
  pub answer : told (Ok r) ≡ decided budget b (run_of b cs)
  pub values : vs' ≡ left budget b.variables (run_of b cs) ++ drop b.variables vs
  pub work : wk' ≡ replicate (space b) 0 ++ drop (space b) wk

pub record Searchable (b : Build) (cs : List ℤ) (vs wk : List ℕ) : Type 0 where
  pub ready : Ready (take (3 * b.clauses) cs) b.clauses b.variables
  pub clauses : 3 * b.clauses ≤ length cs
  pub values : b.variables ≤ length vs
  pub work : space b ≤ length wk

-- how many records an answer fills: with 10 to 14 a lent table is "untouched"
unfoldable pub shown_of : ℕ → ℕ
shown_of n = cond (leb 10 n && leb n 14) 0 max_states
