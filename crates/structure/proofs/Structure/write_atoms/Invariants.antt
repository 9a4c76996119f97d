use Rattle.std.proofs.Common.{◌≤◌}
use Rattle.structure.specs.Rows.{Scattered, atom_reaches}
use Rattle.structure.proofs.Structure.write_atoms.Given as goal

-- what the words before place j reach is marked
abbrev pub invariant-loop-j : goal.invariant-loop-j
invariant-loop-j l = let s = l.self in (l.j ≤ s.variables_count) × Scattered 1 (atom_reaches s.words.now s.variables_count s.values.now l.s) l.j l.initial.marks l.marks
