-- The mark stands where one of the first j states reached, and nothing else changed.
use Rattle.signed.specs.Signed.{bit}
use Rattle.structure.specs.Rows.{Scattered}
use Rattle.evaluation.specs.Nodes.{reaches}
use Rattle.evaluation.proofs.rows.spread.Given as goal

abbrev pub invariant-loop-j : goal.invariant-loop-j
invariant-loop-j l = Scattered (bit l.modal.diamond) (reaches l.structure l.initial.work l.modal l.base) l.j l.initial.work l.work
