-- The invariant: the lowest is i places and then the lowest from i on.
use mathlib.Core.Path.{◌≡◌}
use Prim.Native.Nat.{◌+◌, ◌≤◌}
use lib.ListN.{length, drop}
use Rattle.search.specs.Search.{lowest}
use Rattle.branching.proofs.branch.lowest.Given as goal

abbrev pub invariant-loop-i : goal.invariant-loop-i
invariant-loop-i l = (l.i ≤ length l.node.values.now) × (l.i + lowest (drop l.i l.node.values.now) ≡ lowest l.node.values.now)
