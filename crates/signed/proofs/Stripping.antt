-- How a node tells what its signed formula is stripped to, in a sound book; and that its key is small. Assumes nothing.
use Prim.Native.Nat.{ℕ, zero, suc, ◌+◌, ◌*◌, ◌<◌}
use native.Mathlib.Omega.{arith}
use mathlib.Core.Path.{◌≡◌, refl, sym, ap}
use mathlib.Core.Bool.{Bool, false, not}
use mathlib.Core.List.{List}
use lib.ListN.{length}
use mir.Val.{bool_byte}
use Rattle.book.specs.declared.node.Node as code
use Rattle.book.specs.declared.node.Node.TheVariants.{Atom, Not, And, Or, Implies, Box, Diamond}
use Rattle.book.specs.Shapes.{shape_of}
use Rattle.logic.specs.Table.{Node, atom, neg, and, or, imp, box, dia, children, node, Below}
use Rattle.book.specs.Rulebook.{table_of}
use Rattle.book.specs.Told.{Ruled, Sound}
use Rattle.book.specs.Held.{nodes_of}
use Rattle.book.specs.declared.sound.Table.{Table}
use Rattle.book.proofs.Accepted.{sound-below}
use Rattle.signed.specs.Signed.{first_atom, number, stripped, signed}
use Rattle.signed.specs.Asking.{ask_of, Small}
use Rattle.signed.specs.declared.Ask.{Ask}
use Rattle.signed.proofs.Signed.{signed-step}
use Rattle.signed.proofs.Keys.{byte_bit, number-low}

module _ (ns : List Node) (i k a b r : ℕ) (s : Bool) where
  ruled-small : (n : Node) → Ruled i k a b r n → i < 512 → ((c : ℕ) → c < i → Small (signed ns c (not s)).key) → Small (stripped i (children (signed ns) n) s).key
  unfolding Ruled stripped children Small
  ruled-small (atom x) u few low = omega arith
  ruled-small (neg c) u few low = low c u.2
  ruled-small (and c d) u few low = omega arith
  ruled-small (or c d) u few low = omega arith
  ruled-small (imp c d) u few low = omega arith
  ruled-small (box q c) u few low = omega arith
  ruled-small (dia q c) u few low = omega arith

module _ (bs : List ℕ) (offset : ℕ) (sound : Sound bs offset) where
  small-within : (f i : ℕ) (s : Bool) → i < f → i < length (table_of bs) → Small (signed (table_of bs) i s).key
  small-within zero i s p q = absurd (omega arith)
  small-within (suc f) i s p q =
      rw (signed-step (table_of bs) (sound-below bs offset sound) i s)
      (ruled-small (table_of bs) i _ _ _ _ s (node (table_of bs) i) (sound.rule i q) (omega (arith, sound.few)) (λ c h. small-within f c (not s) (omega arith) (omega arith)))

  pub signed-small : (i : ℕ) (s : Bool) → i < length (table_of bs) → Small (signed (table_of bs) i s).key
  signed-small i s q = small-within (suc i) i s (omega arith) q

  pub ask-low : (i : ℕ) (s : Bool) → i < length (table_of bs) → (l : Ask) → l ≡ ask_of (signed (table_of bs) i s) → l.key < 2048
  ask-low i s q l e = rw e (number-low (signed (table_of bs) i s).key (signed-small i s q))

-- of a `Table`
pub table-low : (t : Table) (i : ℕ) (s : Bool) → i < length (nodes_of t) → (l : Ask) → l ≡ ask_of (signed (nodes_of t) i s) → l.key < 2048
table-low t i s h l e = ask-low t.bytes.now t.offset t.sound i s h l e

pub table-below : (t : Table) → Below (nodes_of t)
table-below t = sound-below t.bytes.now t.offset t.sound

-- the three ways of the code: an atom, "not", the rest
module _ (t : Table) (i : ℕ) (s : Bool) where
  strip_is : (n : code.Node) → shape_of n ≡ node (nodes_of t) i → ask_of (stripped i (children (signed (nodes_of t)) (shape_of n)) s) ≡ ask_of (signed (nodes_of t) i s)
  strip_is n e = rw e (ap ask_of (sym (signed-step (nodes_of t) (table-below t) i s)))

  pub strip_atom : (a : ℕ) → shape_of (Atom a) ≡ node (nodes_of t) i → record { minus = s; key = first_atom + a } ≡ ask_of (signed (nodes_of t) i s)
  unfolding stripped children number
  strip_atom a e = strip_is (Atom a) e

  pub strip_solid : (n : code.Node) → ((a : ℕ) → n ≡ Atom a → ⊥) → ((c : ℕ) → n ≡ Not c → ⊥) → shape_of n ≡ node (nodes_of t) i
      → record { minus = false; key = 2 * i + bool_byte s } ≡ ask_of (signed (nodes_of t) i s)
  unfolding stripped children number
  strip_solid (Atom a) p q e = absurd (p a refl)
  strip_solid (Not c) p q e = absurd (q c refl)
  strip_solid (And a b) p q e = rw (byte_bit s) (strip_is (And a b) e)
  strip_solid (Or a b) p q e = rw (byte_bit s) (strip_is (Or a b) e)
  strip_solid (Implies a b) p q e = rw (byte_bit s) (strip_is (Implies a b) e)
  strip_solid (Box r a) p q e = rw (byte_bit s) (strip_is (Box r a) e)
  strip_solid (Diamond r a) p q e = rw (byte_bit s) (strip_is (Diamond r a) e)

  pub strip_not : (c : ℕ) → shape_of (Not c) ≡ node (nodes_of t) i → ask_of (signed (nodes_of t) c (not s)) ≡ ask_of (signed (nodes_of t) i s)
  unfolding stripped children
  strip_not c e = strip_is (Not c) e
