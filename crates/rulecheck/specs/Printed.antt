-- What the program prints of a book: document 01, "The program". Assumes nothing.
use Rattle.std.specs.Prelude.{ℕ, List, ◌++◌, cond, eqb, take, codes}
use Rattle.meaning.specs.Answers.{Answer}
use Rattle.checker.specs.Checked.{Outcome, checked}
use Rattle.checker.specs.Lending.{own}
use Rattle.rulecheck.specs.Lines.{refusal_line, size_line, verdict_line, structure_lines}

-- the lines of an answer, with the structure that lies in buffers after a yes
unfoldable pub printed : Answer → List ℕ → List ℕ → List ℕ → List ℕ
printed a st ws vs =
    let head = λ (word : List ℕ). size_line a.states a.variables a.clauses ++ verdict_line word a.count in
    cond (eqb a.number 1) (head (codes "yes") ++ structure_lines a.states st a.variables ws vs)
    (cond (eqb a.number 2) (head (codes "no")) (cond (eqb a.number 3) (head (codes "stopped")) (refusal_line a.number a.place)))

abbrev pub printed_after : Outcome → List ℕ
printed_after k = printed k.answer k.lent.states k.lent.words k.lent.values

-- of a book's bytes, within the program's budget
unfoldable pub printed_of : List ℕ → List ℕ
printed_of bs = printed_after (checked bs 1000000 own)

-- of an input: at most 8,193 bytes of it are read
abbrev pub printed_for : List ℕ → List ℕ
printed_for input = printed_of (take 8193 input)
