use Rattle.std.proofs.Common.{◌≤◌}
use Rattle.propagation.specs.Judging.{Mirrors}
use Rattle.propagation.specs.Trail.{Undone}
use Rattle.propagation.proofs.marks.undo.Given as goal

abbrev pub invariant-loop-k : goal.invariant-loop-k
invariant-loop-k l = (l.from ≤ l.k) × Undone l.trail l.k l.to l.initial.values l.values × Mirrors l.values l.truth
