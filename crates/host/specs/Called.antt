-- What the calls from C promise: "From C it is called with a book's bytes and a budget and returns the answer's number." The lent table of state
-- records is read as its numbers, three to a record, so that the checker's and the structure's definitions say what it holds. Assumes nothing.
use Rattle.std.specs.Prelude.{ℕ, ◌≤◌, ◌<◌, ◌≡◌, ◌↔◌, cond, List, [], ◌∷◌, ◌++◌, leb, length, drop}
use Rattle.logic.specs.Table.{Node}
use Rattle.logic.specs.Finite.{Somewhere, Nowhere}
use Rattle.book.specs.Rulebook.{book, accepted}
use Rattle.book.specs.declared.Header.{Header}
use Rattle.structure.specs.Evaluation.{judged, left}
use Rattle.meaning.specs.Answers.{Answer, answer, refusal, C}
use Rattle.checker.specs.Checked.{Lent, Outcome, leaving, checked}
use Rattle.checker.specs.Meant.{Meant}

-- what the number means, of an accepted book answered by 1, 2 or 3
pub record Says (ns : List Node) (root budget r : ℕ) : Type 0 where
  pub stopped : r ≡ 3 ↔ budget < C ns root
  pub yes_exactly : C ns root ≤ budget → r ≡ 1 ↔ Somewhere ns root
  pub no_nowhere : r ≡ 2 → Nowhere ns root

-- `rulebook_check`: "The call from C .. meet[s] every size [itself], so there 10 is never given."
pub record Numbered (bs : List ℕ) (budget r : ℕ) : Type 0 where
  pub number : r ≡ (answer bs budget).number
  pub means : (h : Header) (ns : List Node) → book bs ≡ accepted h ns → r ≤ 3 → Says ns h.root budget r

-- the answer's fields in a lent array of numbers: number, place, states, variables, clauses, count
abbrev pub fields_of : Answer → List ℕ
fields_of a = a.number ∷ a.place ∷ a.states ∷ a.variables ∷ a.clauses ∷ a.count ∷ []

-- `rulebook_check_into`: with an array too short for the fields, 10 and nothing touched; otherwise the check, and the fields of its answer
unfoldable pub called : List ℕ → ℕ → Lent → List ℕ → Outcome
called bs budget o out = cond (leb 6 (length out)) (checked bs budget o) (leaving (refusal 10 0) o)

unfoldable pub written : List ℕ → Answer → List ℕ
written out a = cond (leb 6 (length out)) (fields_of a ++ drop 6 out) out

pub record Into (bs : List ℕ) (budget : ℕ) (o : Lent) (out : List ℕ) (o' : Lent) (out' : List ℕ) (r : ℕ) : Type 0 where
  pub number : r ≡ (called bs budget o out).answer.number
  pub lent : o' ≡ (called bs budget o out).lent
  pub fields : out' ≡ written out (checked bs budget o).answer
  pub means : (h : Header) (ns : List Node) → book bs ≡ accepted h ns → r ≤ 3 → Meant ns h.root budget (checked bs budget o).answer o'

-- `rulebook_evaluate`: of the numbers of the table, with the working space work' when it returns
pub record Judged (bs st : List ℕ) (n : ℕ) (ws : List ℕ) (v : ℕ) (vs work work' : List ℕ) (r : ℕ) : Type 0 where
  pub number : r ≡ (judged bs st n ws v vs work).number
  pub leaves : work' ≡ left bs st n ws v vs work
