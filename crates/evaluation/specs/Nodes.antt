-- What the functions inside the crate promise one another: rows of marks in the working space, one place for each state, and what they show of a
-- structure and of a book's nodes on it. Assumes nothing.
use Rattle.std.specs.Prelude.{ℕ, suc, ◌+◌, ◌*◌, ◌≤◌, ◌<◌, ◌≡◌, Bool, true, false, not, ◌&&◌, ◌||◌, List, leb, eqb, get_or, length}
use Rattle.ground.proofs.Buffers.{Kept}
use Rattle.logic.specs.Table as table
use Rattle.logic.specs.Finite.{Finite, evaluate}
use Rattle.signed.specs.Signed.{bit}
use Rattle.book.specs.declared.node.Node.{Node}
use Rattle.book.specs.declared.node.Node.TheVariants.{Atom, Not, And, Or, Implies, Box, Diamond}
use Rattle.encoding.specs.Limits.{max_states}
use Rattle.structure.specs.Marks.{on}
use Rattle.structure.specs.Evaluation.{states_fit, variables_fit, max_atoms, work_size}
use Rattle.structure.specs.Held.{numbers, lies_in}
use Rattle.structure.specs.Rows.{reached, atom_row}
use Rattle.structure.specs.declared.Structure.{Structure}
use Rattle.evaluation.specs.declared.rows.Modal.{Modal}

-- the lent buffers, the working space of this length among them, have their sizes
abbrev pub fits : Structure → ℕ → Bool
fits s space = states_fit s.states_count (numbers s) && variables_fit s.variables_count s.words.now && variables_fit s.variables_count s.values.now && leb work_size space

-- where the row of a node begins
abbrev pub node_row : ℕ → ℕ
node_row i = (1 + max_atoms + i) * max_states

-- the rows that a node is made from
abbrev pub first_row : Node → ℕ
first_row (Atom a) = atom_row a
first_row (Not c) = node_row c
first_row (And c d) = node_row c
first_row (Or c d) = node_row c
first_row (Implies c d) = node_row c
first_row (Box r c) = node_row c
first_row (Diamond r c) = node_row c

abbrev pub second_row : Node → ℕ
second_row (Atom a) = atom_row a
second_row (Not c) = node_row c
second_row (And c d) = node_row d
second_row (Or c d) = node_row d
second_row (Implies c d) = node_row d
second_row (Box r c) = node_row c
second_row (Diamond r c) = node_row c

-- a state's mark from its own marks in those rows: not, and, or, implies; an atom's is copied
abbrev pub joined : Node → Bool → Bool → Bool
joined (Atom x) a b = a
joined (Not c) a b = not a
joined (And c d) a b = a && b
joined (Or c d) a b = a || b
joined (Implies c d) a b = not a || b
joined (Box r c) a b = a
joined (Diamond r c) a b = a

-- of a box or a diamond, which of them
abbrev pub is_diamond : Node → Bool
is_diamond (Atom a) = false
is_diamond (Not c) = false
is_diamond (And c d) = false
is_diamond (Or c d) = false
is_diamond (Implies c d) = false
is_diamond (Box r c) = false
is_diamond (Diamond r c) = true

-- as it is for a diamond, turned for a box
unfoldable pub turned : Bool → Bool → Bool
turned true b = b
turned false b = not b

-- the state at place j lives, by that relation, and its child's mark is the one that counts
unfoldable pub counts : List ℕ → List ℕ → ℕ → ℕ → Bool → ℕ → Bool
counts st w r child diamond j = on w j && eqb (get_or st (3 * j + 1) 0) r && turned diamond (on w (child + j))

-- and so it reaches its parent in the node's row
unfoldable pub parent_reaches : List ℕ → List ℕ → ℕ → ℕ → Bool → ℕ → ℕ → ℕ → ℕ → Bool
parent_reaches st w r child diamond base n i j = reached base n (counts st w r child diamond j) (get_or st (3 * j) 0) i

-- of a structure, for a box or a diamond
abbrev pub reaches : Structure → List ℕ → Modal → ℕ → ℕ → ℕ → Bool
reaches s w m base i j = parent_reaches (numbers s) w m.relation m.child m.diamond base s.states_count i j

-- a row tells a test of the states 1 to n
abbrev pub Row : List ℕ → ℕ → ℕ → (ℕ → Bool) → Type 0
Row w base n f = (j : ℕ) → j < n → get_or w (base + j) 0 ≡ bit (f (suc j))

-- the working space tells the lives, the atoms and the nodes below i
pub record Shown (F : Finite) (ns : List table.Node) (i n : ℕ) (w : List ℕ) : Type 0 where
  pub lives : (j : ℕ) → j < n → get_or w j 0 ≡ bit (F.state (suc j))
  pub atoms : (a : ℕ) → a < max_atoms → Row w (atom_row a) n (F.L a)
  pub nodes : (c : ℕ) → c < i → Row w (node_row c) n (evaluate F ns c)

-- a structure of a build's totals, and working space of its size
pub record Room (s : Structure) (work : List ℕ) : Type 0 where
  pub first : 1 ≤ s.states_count
  pub few : s.states_count ≤ max_states
  pub records : s.states_count ≤ length s.states.now
  pub words : s.variables_count ≤ length s.words.now
  pub rows : work_size ≤ length work

-- from the working space `old`, the nodes from i up to k were evaluated, and nothing beyond it changed
pub record Evaluating (ns : List table.Node) (s : Structure) (i k : ℕ) (old new : List ℕ) : Type 0 where
  pub long : length new ≡ length old
  pub kept : Kept 0 work_size old new
  pub shows : Shown (lies_in s) ns i s.states_count old → Shown (lies_in s) ns k s.states_count new

-- the working space tells the lives and the atoms of a finite structure with the states 1 to n, and nothing beyond it changed
pub record Begun (F : Finite) (n : ℕ) (old new : List ℕ) : Type 0 where
  pub long : length new ≡ length old
  pub kept : Kept 0 work_size old new
  pub shows : (ns : List table.Node) → Shown F ns 0 n new

abbrev pub Prepared : Structure → List ℕ → List ℕ → Type 0
Prepared s old new = Begun (lies_in s) s.states_count old new
