-- Only a true literal brings the sum of the weights to 4.
use mathlib.Core.Path.{ap, ◌∙◌}
use mathlib.Core.List.{List}
use Prim.Native.Nat.{ℕ, ◌+◌, ◌≤◌}
use native.Mathlib.Omega.{arith}
use lib.Dec.{leb}
use lib.ListN.{get_or}
use Rattle.propagation.proofs.Judged.{weights_light, judged-met}
use Rattle.propagation.proofs.clause.met.Goals as goal
use Rattle.propagation.proofs.clause.met.Goals.{After-weights-s}

module _ (c : After-weights-s) where
  light : get_or c.weights-s.result 0 0 + get_or c.weights-s.result 1 0 + get_or c.weights-s.result 2 0 ≤ 12
  light = weights_light c.requires.0 c.args.c c.weights-s.result (c.weights-s.ensures c.requires.0 c.requires.1)

pub overflow_add-result : goal.overflow_add-result
overflow_add-result c = omega (arith, light c)

pub overflow_add-result-2 : goal.overflow_add-result-2
overflow_add-result-2 c = omega (arith, light c)

pub returns : goal.returns
returns c =
    λ a S.
    ap (λ (r : List ℕ). leb 4 (get_or r 0 0 + get_or r 1 0 + get_or r 2 0)) (c.weights-s.ensures a S) ∙ judged-met a c.args.c S.ready.long
