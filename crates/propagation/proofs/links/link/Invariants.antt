-- The invariant: the first i clause numbers are linked.
use mathlib.Core.Path.{◌≡◌}
use mathlib.Core.List.{List}
use Prim.Native.Nat.{ℕ, ◌≤◌}
use lib.ListN.{length}
use lib.IntN.{ℤ}
use Rattle.propagation.specs.Links.{Linked}
use Rattle.propagation.proofs.links.link.Given as goal

pub record Way (cl : List ℤ) (v : ℕ) (L₀ L : List ℕ) (i : ℕ) : Type 0 where
  pub low : i ≤ length cl
  pub long : length L ≡ length L₀
  pub linked : Linked cl v i L

abbrev pub invariant-loop-i : goal.invariant-loop-i
invariant-loop-i l = Way l.clauses l.variables l.initial.links l.links l.i
