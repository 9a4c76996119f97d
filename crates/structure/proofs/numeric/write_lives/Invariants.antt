use Rattle.std.proofs.Common.{suc, ◌≤◌, take}
use Rattle.signed.specs.Signed.{bit}
use Rattle.structure.specs.Structure.{lives}
use Rattle.structure.specs.Evaluation.{records_in}
use Rattle.structure.specs.Rows.{Written}
use Rattle.structure.proofs.numeric.write_lives.Given as goal

-- the states before place j are marked
abbrev pub invariant-loop-j : goal.invariant-loop-j
invariant-loop-j l = (l.j ≤ l.n) × Written 0 l.j (λ i. bit (lives (records_in l.n l.states) (take l.v l.values) (suc i))) l.initial.marks l.marks
