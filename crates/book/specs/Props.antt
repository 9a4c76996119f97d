-- That a book is sound is a proposition, as a ghost field wants. Assumes nothing.
use Rattle.std.proofs.Props.{props}
use Prim.Native.Nat.{ℕ}
use mathlib.Core.List.{List}
use Rattle.logic.specs.Table.{Node, atom, neg, and, or, imp, box, dia}
use Rattle.book.specs.Told.{Ruled, Sound}

ruled_prop : (i k a b r : ℕ) (n : Node) → IsProp (Ruled i k a b r n)
unfolding Ruled
ruled_prop i k a b r (atom x) = hlevel props
ruled_prop i k a b r (neg c) = hlevel props
ruled_prop i k a b r (and c d) = hlevel props
ruled_prop i k a b r (or c d) = hlevel props
ruled_prop i k a b r (imp c d) = hlevel props
ruled_prop i k a b r (box q c) = hlevel props
ruled_prop i k a b r (dia q c) = hlevel props

pub sound_prop : (bs : List ℕ) (offset : ℕ) → IsProp (Sound bs offset)
sound_prop bs offset = hlevel (props, ruled_prop)
