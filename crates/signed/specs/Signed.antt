-- Document 01, "Signed formulas and four classes", after the table of document 000. A sign is a Bool, true for minus. Assumes nothing.
use Rattle.std.specs.Prelude.{ℕ, ◌+◌, ◌*◌, Bool, true, false, not, List}
use Rattle.logic.specs.Table.{Shape, Node, atom, neg, and, or, imp, box, dia, children, node, at}

-- a key: an atom under either sign, or a node that is neither atom nor "not", with its sign
pub data Key : Type 0 where
  atomic : ℕ → Key
  solid : ℕ → Bool → Key

unfoldable pub bit : Bool → ℕ
bit false = 0
bit true = 1

-- "Its key is 2 × node (+1 for a minus sign), and for an atom 1,024 + the atom's number under either sign."
abbrev pub first_atom : ℕ
first_atom = 1024

unfoldable pub number : Key → ℕ
number (atomic a) = first_atom + a
number (solid i s) = 2 * i + bit s

-- what a state is asked for: a key, and whether its literal is the minus one
pub record Ask : Type 0 where
  pub minus : Bool
  pub key : Key

abbrev pub plus : Key → Ask
plus k = record { minus = false; key = k }

-- "A "not" is stripped and flips the sign." "The literal is minus the variable for an atom under a minus sign, plus the variable otherwise."
unfoldable pub stripped : ℕ → Shape (Bool → Ask) → Bool → Ask
stripped i (atom a) s = record { minus = s; key = atomic a }
stripped i (neg l) s = l (not s)
stripped i (and l m) s = plus (solid i s)
stripped i (or l m) s = plus (solid i s)
stripped i (imp l m) s = plus (solid i s)
stripped i (box r l) s = plus (solid i s)
stripped i (dia r l) s = plus (solid i s)

-- "A signed formula is a node and a sign": how it is asked for
unfoldable pub signed : List Node → ℕ → Bool → Ask
signed ns i s = at stripped ns i s

-- the four classes with their parts; an atom has none
pub data Class : Type 0 where
  leaf : Class
  conjunctive disjunctive : Ask → Ask → Class
  existential universal : ℕ → Ask → Class

-- "conjunctive: and +, parts + +; or −, parts − −; implies −, parts + −." and so on, line by line
unfoldable pub class : Bool → Shape (Bool → Ask) → Class
class s (atom a) = leaf
class s (neg l) = leaf
class false (and l m) = conjunctive (l false) (m false)
class true (or l m) = conjunctive (l true) (m true)
class true (imp l m) = conjunctive (l false) (m true)
class false (or l m) = disjunctive (l false) (m false)
class true (and l m) = disjunctive (l true) (m true)
class false (imp l m) = disjunctive (l true) (m false)
class false (dia r l) = existential r (l false)
class true (box r l) = existential r (l true)
class false (box r l) = universal r (l false)
class true (dia r l) = universal r (l true)

-- the class of what is asked for
unfoldable pub classed : List Node → Ask → Class
classed ns l = elim l.key [ atomic a ↦ leaf | solid i s ↦ class s (children (signed ns) (node ns i)) ]
