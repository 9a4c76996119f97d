-- The rows of the nodes below i are written, and nothing beyond the working space changed.
use Rattle.book.specs.Held.{nodes_in}
use Rattle.evaluation.specs.Nodes.{Evaluating}
use Rattle.evaluation.proofs.nodes.write_nodes.Given as goal

abbrev pub invariant-loop-i : goal.invariant-loop-i
invariant-loop-i l = Evaluating (nodes_in l.book) l.structure 0 l.i l.initial.work l.work
