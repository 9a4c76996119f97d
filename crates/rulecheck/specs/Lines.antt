-- The lines of an answer, as bytes. Assumes nothing.
use Rattle.std.specs.Prelude.{ℕ, zero, suc, ◌+◌, List, [], ◌∷◌, ◌++◌, cond, replicate, codes}
use Rattle.std.specs.List.{flat_map}
use Rattle.std.specs.Fmt.{decimal}
use Rattle.encoding.specs.Limits.{max_states}
use Rattle.structure.specs.Evaluation.{max_atoms}
use Rattle.structure.specs.Held.{numbers}
use Rattle.structure.specs.declared.Structure.{Structure}
use Rattle.structure.specs.Marks.{on, lives_fit, lives_marked, atoms_fit, atoms_marked, edge_of, record_of}

-- a number after a space; a word with numbers after it; the end of a line
abbrev pub spaced : ℕ → List ℕ
spaced n = codes " " ++ decimal n

abbrev pub begun : List ℕ → List ℕ → List ℕ
begun word numbers = word ++ flat_map spaced numbers

abbrev pub newline : List ℕ
newline = 10 ∷ []

abbrev pub refusal_line : ℕ → ℕ → List ℕ
refusal_line number place = begun (codes "refused") (number ∷ place ∷ []) ++ newline

abbrev pub size_line : ℕ → ℕ → ℕ → List ℕ
size_line states variables clauses = begun (codes "size") (states ∷ variables ∷ clauses ∷ []) ++ newline

abbrev pub verdict_line : List ℕ → ℕ → List ℕ
verdict_line word count = begun word (count ∷ []) ++ newline

-- the texts of the places below n that are marked
unfoldable pub marked : List ℕ → (ℕ → List ℕ) → ℕ → List ℕ
marked marks text zero = []
marked marks text (suc i) = marked marks text i ++ cond (on marks i) (text i) []

abbrev pub state_line : ℕ → ℕ → ℕ → List ℕ → List ℕ
state_line s parent relation atoms = begun (codes "state") (s ∷ parent ∷ relation ∷ []) ++ (marked atoms spaced max_atoms ++ newline)

-- the marks of the living states, and of the atoms at state s, in buffers that held zeros
unfoldable pub lives_at : ℕ → List ℕ → ℕ → List ℕ → List ℕ
lives_at n st v vs = let none = replicate max_states 0 in cond (lives_fit n st v vs none) (lives_marked n st v vs none) none

unfoldable pub atoms_at : ℕ → List ℕ → List ℕ → ℕ → List ℕ
atoms_at v ws vs s = let none = replicate max_atoms 0 in cond (atoms_fit v ws vs none) (atoms_marked v ws vs s none) none

-- the line of state s, and the lines of all that live, of the structure that lies in buffers
abbrev pub line_of : ℕ → List ℕ → ℕ → List ℕ → List ℕ → ℕ → List ℕ
line_of n st v ws vs s = let e = edge_of (record_of n st s) in state_line s e.parent e.relation (atoms_at v ws vs s)

abbrev pub structure_lines : ℕ → List ℕ → ℕ → List ℕ → List ℕ → List ℕ
structure_lines n st v ws vs = marked (lives_at n st v vs) (λ i. line_of n st v ws vs (i + 1)) max_states

-- the same of a structure as one value
abbrev pub line_at : Structure → ℕ → List ℕ
line_at s i = line_of s.states_count (numbers s) s.variables_count s.words.now s.values.now i

abbrev pub lines_of : Structure → List ℕ
lines_of s = structure_lines s.states_count (numbers s) s.variables_count s.words.now s.values.now
