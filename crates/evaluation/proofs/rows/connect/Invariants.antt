-- The first j places of the row are written, and nothing else changed: the rows that are read lie before it, so they hold what they held at entry.
use Prim.Native.Nat.{◌+◌}
use Rattle.signed.specs.Signed.{bit}
use Rattle.structure.specs.Marks.{on}
use Rattle.structure.specs.Rows.{Written}
use Rattle.evaluation.specs.Nodes.{first_row, second_row, node_row, joined}
use Rattle.evaluation.proofs.rows.connect.Given as goal

abbrev pub invariant-loop-j : goal.invariant-loop-j
invariant-loop-j l = Written (node_row l.i) l.j (λ k. bit (joined l.node (on l.initial.work (first_row l.node + k)) (on l.initial.work (second_row l.node + k)))) l.initial.work l.work
