-- The invariant: the first i marks have become values, the rest are as they were.
use mathlib.Core.Path.{◌≡◌}
use mathlib.Core.List.{List, ◌++◌, map}
use Prim.Native.Nat.{ℕ, ◌%◌}
use lib.ListN.{take, drop}
use Rattle.branching.proofs.finish.Given as goal

abbrev pub rest : ℕ → ℕ
rest x = x % 2

-- a list whose first i elements are changed by f
abbrev pub part : (ℕ → ℕ) → ℕ → List ℕ → List ℕ
part f i l = map f (take i l) ++ drop i l

abbrev pub invariant-loop-x : goal.invariant-loop-x
invariant-loop-x l = l.values ≡ part rest l.x-index l.initial.values
