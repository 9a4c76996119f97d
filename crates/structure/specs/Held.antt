-- What lies in the buffers as one value, in the words of the definitions over its numbers. Assumes nothing.
use Rattle.std.specs.Prelude.{ℕ, Bool, List}
use Rattle.logic.specs.Finite.{Finite}
use Rattle.records.specs.Table.{numbers_of}
use Rattle.structure.specs.Evaluation.{lies}
use Rattle.structure.specs.Marks.{lives_fit, lives_marked, atoms_fit, atoms_marked}
use Rattle.structure.specs.declared.Structure.{Structure}

-- the numbers of its records, three a state
abbrev pub numbers : Structure → List ℕ
numbers s = numbers_of s.states.now

-- the structure that it is
abbrev pub lies_in : Structure → Finite
lies_in s = lies s.states_count s.variables_count (numbers s) s.words.now s.values.now

-- what a buffer that held `old` holds when its lives, or the true atoms of a state, are marked there, and whether all have their sizes
abbrev pub lives_room : Structure → List ℕ → Bool
lives_room s old = lives_fit s.states_count (numbers s) s.variables_count s.values.now old

abbrev pub lives_left : Structure → List ℕ → List ℕ
lives_left s old = lives_marked s.states_count (numbers s) s.variables_count s.values.now old

abbrev pub atoms_room : Structure → List ℕ → Bool
atoms_room s old = atoms_fit s.variables_count s.words.now s.values.now old

abbrev pub atoms_left : Structure → ℕ → List ℕ → List ℕ
atoms_left s k old = atoms_marked s.variables_count s.words.now s.values.now k old
