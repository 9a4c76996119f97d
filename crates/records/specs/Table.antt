-- Document 01, "Answers by number": "a lent table of state records (512; parent, relation, making variable)". The records of a table and the same
-- records as numbers, three to a record. What a table holds is said by the ground's `filled`: these records, then zero records up to a size, and
-- beyond it nothing changed. Assumes nothing.
use Rattle.std.specs.Prelude.{ℕ, ◌+◌, ◌*◌, List, [], ◌∷◌, get_or, set}
use Rattle.records.specs.declared.State.{State}

-- "unused places below it are 0"
abbrev pub zero_state : State
zero_state = record { parent = 0; relation = 0; maker = 0 }

-- "parent, relation, making variable": the record at place i of the numbers, and the numbers with s there
abbrev pub row_at : List ℕ → ℕ → State
row_at xs i = record { parent = get_or xs (3 * i) 0; relation = get_or xs (3 * i + 1) 0; maker = get_or xs (3 * i + 2) 0 }

abbrev pub row_put : List ℕ → ℕ → State → List ℕ
row_put xs i s = set (set (set xs (3 * i) s.parent) (3 * i + 1) s.relation) (3 * i + 2) s.maker

-- the records in a list of numbers, and the numbers of a list of records
unfoldable pub rows : List ℕ → List State
rows [] = []
rows (p ∷ []) = []
rows (p ∷ r ∷ []) = []
rows (p ∷ r ∷ m ∷ xs) = record { parent = p; relation = r; maker = m } ∷ rows xs

unfoldable pub numbers_of : List State → List ℕ
numbers_of [] = []
numbers_of (s ∷ ss) = s.parent ∷ s.relation ∷ s.maker ∷ numbers_of ss
