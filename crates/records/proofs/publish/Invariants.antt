use Rattle.std.proofs.Common.{◌≡◌, ◌≤◌}
use Rattle.ground.specs.Buffer.{filled}
use Rattle.records.specs.Table.{zero_state, rows}
use Rattle.records.proofs.publish.Given as goal

-- the first i records are written
abbrev pub invariant-loop-i : goal.invariant-loop-i
invariant-loop-i l = (l.i ≤ l.n) × (l.t ≡ filled zero_state l.i (rows l.numbers) l.initial.t)
