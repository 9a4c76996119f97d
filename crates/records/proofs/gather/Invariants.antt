use Rattle.std.proofs.Common.{◌≡◌, ◌*◌, ◌≤◌}
use Rattle.ground.specs.Buffer.{filled}
use Rattle.records.specs.Table.{numbers_of}
use Rattle.records.proofs.gather.Given as goal

-- the first i records are written
abbrev pub invariant-loop-i : goal.invariant-loop-i
invariant-loop-i l = (l.i ≤ l.n) × (l.numbers ≡ filled 0 (3 * l.i) (numbers_of l.t) l.initial.numbers)
