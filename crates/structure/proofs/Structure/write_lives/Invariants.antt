use Rattle.std.proofs.Common.{suc, ◌≤◌, take}
use Rattle.signed.specs.Signed.{bit}
use Rattle.structure.specs.Structure.{lives}
use Rattle.structure.specs.Evaluation.{records_in}
use Rattle.structure.specs.Rows.{Written}
use Rattle.structure.specs.Held.{numbers}
use Rattle.structure.proofs.Structure.write_lives.Given as goal

-- the states before place j are marked
abbrev pub invariant-loop-j : goal.invariant-loop-j
invariant-loop-j l = let s = l.self in (l.j ≤ s.states_count) × Written 0 l.j (λ i. bit (lives (records_in s.states_count (numbers s)) (take s.variables_count s.values.now) (suc i))) l.initial.marks l.marks
