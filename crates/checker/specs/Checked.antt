-- Document 01, "Answers by number": the answer, and what it leaves in each lent buffer, for every book, every budget and buffers of any lengths.
-- Assumes nothing.
use Rattle.std.specs.Prelude.{ℕ, ◌*◌, Bool, ◌&&◌, cond, List, leb, ℤ, pos, length}
use Rattle.ground.specs.Buffer.{filled, cleared}
use Rattle.book.specs.Rulebook.{Book, book, accepted, refused}
use Rattle.encoding.specs.Build.{Build, variables#, built}
use Rattle.encoding.specs.Limits.{max_states, max_variables, max_clauses, oversized, state_buffer, word_buffer, clause_buffer}
use Rattle.encoding.specs.declared.counts.Build as counts
use Rattle.search.specs.Search.{left}
use Rattle.propagation.specs.Ready.{space_for}
use Rattle.meaning.specs.Answers.{Answer, refusal, searched, judged}
use Rattle.std.specs.Prelude.{Result, Ok, Err}
use Rattle.book.specs.declared.refusal.Refusal.TheVariants.{Short, Ranges, Extent, Node}
use Rattle.book.specs.declared.refusal.NoAnswer.{NoAnswer}
use Rattle.book.specs.declared.refusal.NoAnswer.TheVariants.{Lent as LentOut, Refused, Oversized}
use Rattle.branching.specs.declared.Outcome as search
use Rattle.branching.specs.declared.Outcome.TheVariants.{Yes, No, Stopped}
use Rattle.checker.specs.declared.Answer as code

-- "Working space that the search needs besides is the team's choice; if lent, its size is stated and at most 4 MiB, and it is zero afterwards, but
-- untouched by 10 to 14": the search's for the most variables and clauses of a build
abbrev pub max_work : ℕ
max_work = space_for max_variables max_clauses

-- "Buffers: a lent table of state records (parent, relation, making variable); variable words; clause numbers; values", and the search's working
-- space, where it links the clauses of each literal
pub record Lent : Type 0 where
  pub states : List ℕ
  pub words : List ℕ
  pub clauses : List ℤ
  pub values : List ℕ
  pub work : List ℕ

abbrev pub lent : List ℕ → List ℕ → List ℤ → List ℕ → List ℕ → Lent
lent st ws cs vs wk = record { states = st; words = ws; clauses = cs; values = vs; work = wk }

-- "10: a lent buffer is shorter than its size"
unfoldable pub enough : Lent → Bool
enough o =
    leb (3 * max_states) (length o.states)
    && leb max_variables (length o.words)
    && leb (3 * max_clauses) (length o.clauses)
    && leb max_variables (length o.values)
    && leb max_work (length o.work)

-- "15: all 0 up to the stated sizes"
abbrev pub emptied : Lent → Lent
emptied o =
    record {
      states = cleared 0 (3 * max_states) o.states;
      words = cleared 0 max_variables o.words;
      clauses = cleared (pos 0) (3 * max_clauses) o.clauses;
      values = cleared 0 max_variables o.values;
      work = cleared 0 max_work o.work;
    }

-- "1 yes: build; values. 2 no: build; values all 0. 3 stopped: build; values all 0": `left` has the values of each; the working space "is zero
-- afterwards"
abbrev pub holding : ℕ → Build → Lent → Lent
holding budget B o =
    record {
      states = filled 0 (3 * max_states) (state_buffer B) o.states;
      words = filled 0 max_variables (word_buffer B) o.words;
      clauses = filled (pos 0) (3 * max_clauses) (clause_buffer B) o.clauses;
      values = filled 0 max_variables (left budget (variables# B) (searched B)) o.values;
      work = cleared 0 max_work o.work;
    }

-- an answer and the buffers that it leaves
pub record Outcome : Type 0 where
  pub answer : Answer
  pub lent : Lent

abbrev pub leaving : Answer → Lent → Outcome
leaving a o = record { answer = a; lent = o }

unfoldable pub finished : ℕ → Build → Lent → Outcome
finished budget B o = cond (oversized B) (leaving (refusal 15 0) (emptied o)) (leaving (judged budget B) (holding budget B o))

unfoldable pub on_book : ℕ → Lent → Book → Outcome
on_book budget o (refused n p) = leaving (refusal n p) o
on_book budget o (accepted h ns) = finished budget (built ns h.root) o

-- "Checked in the order 10, 11, 12, 13, 14, 15."
unfoldable pub checked : List ℕ → ℕ → Lent → Outcome
checked bs budget o = cond (enough o) (on_book budget o (book bs)) (leaving (refusal 10 0) o)

-- document 01's number, place, totals and count for each case of the code's answer
abbrev pub ended : ℕ → counts.Build → ℕ → Answer
ended n b count = record { number = n; place = 0; states = b.states; variables = b.variables; clauses = b.clauses; count = count }

abbrev pub ended_by : counts.Build → search.Outcome → Answer
ended_by b (Yes n) = ended 1 b n
ended_by b (No n) = ended 2 b n
ended_by b (Stopped n) = ended 3 b n

abbrev pub told : Result code.Answer NoAnswer → Answer
told (Ok a) = ended_by a.totals a.outcome
told (Err LentOut) = refusal 10 0
told (Err (Refused Short)) = refusal 11 0
told (Err (Refused Ranges)) = refusal 12 0
told (Err (Refused Extent)) = refusal 13 0
told (Err (Refused (Node i))) = refusal 14 i
told (Err Oversized) = refusal 15 0
