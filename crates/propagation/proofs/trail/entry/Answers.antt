use native.Mathlib.Omega.{arith}
use Rattle.propagation.proofs.trail.entry.Goals as goal

pub returns-then-m-eq1 : goal.returns-then-m-eq1
returns-then-m-eq1 c = omega (arith, c.if-m-eq1.true)

pub returns-else-m-eq1 : goal.returns-else-m-eq1
returns-else-m-eq1 c = omega (arith, c.if-m-eq1.false, c.requires.1, c.requires.2)
