use Prim.Native.Nat.{◌<◌}
use lib.ListN.{length}
use mathlib.Core.Path.{◌≡◌}
use Rattle.book.specs.Held.{nodes_of}
use Rattle.signed.specs.Signed.{signed}
use Rattle.signed.specs.Asking.{ask_of}
use Rattle.signed.proofs.strip.Given as goal

abbrev pub invariant-nots : goal.invariant-nots
invariant-nots l = (l.i < length (nodes_of l.table)) × (ask_of (signed (nodes_of l.table) l.i l.sign) ≡ ask_of (signed (nodes_of l.table) l.node l.minus))

abbrev pub decreases-nots : goal.decreases-nots
decreases-nots l = l.i
