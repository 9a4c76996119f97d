-- A node of the code: the record that makes it, the shape that it is in the table, and its bounds. Assumes nothing.
use Rattle.std.specs.Prelude.{ℕ, ◌<◌, ◌==◌, if◌then◌else◌}
use Rattle.logic.specs.Table as table
use Rattle.logic.specs.Table.{atom, neg, and, or, imp, box, dia}
use Rattle.book.specs.declared.Record.{Record}
use Rattle.book.specs.declared.node.Node.{Node}
use Rattle.book.specs.declared.node.Node.TheVariants.{Atom, Not, And, Or, Implies, Box, Diamond}

-- the table of kinds, 1 to 7
abbrev pub node_by : Record → Node
node_by r =
    if r.kind == 1 then Atom r.first
    else (if r.kind == 2 then Not r.first
    else (if r.kind == 3 then And r.first r.second
    else (if r.kind == 4 then Or r.first r.second
    else (if r.kind == 5 then Implies r.first r.second
    else (if r.kind == 6 then Box r.relation r.first
    else Diamond r.relation r.first)))))

abbrev pub shape_of : Node → table.Node
shape_of (Atom a) = atom a
shape_of (Not c) = neg c
shape_of (And c d) = and c d
shape_of (Or c d) = or c d
shape_of (Implies c d) = imp c d
shape_of (Box r c) = box r c
shape_of (Diamond r c) = dia r c

-- of node i: "A child's index is below the node's own index"; an atom is one of at most 256, a relation one of at most 16
abbrev pub Bounded : ℕ → Node → Type 0
Bounded i (Atom a) = a < 256
Bounded i (Not c) = c < i
Bounded i (And c d) = (c < i) × (d < i)
Bounded i (Or c d) = (c < i) × (d < i)
Bounded i (Implies c d) = (c < i) × (d < i)
Bounded i (Box r c) = (r < 16) × (c < i)
Bounded i (Diamond r c) = (r < 16) × (c < i)
