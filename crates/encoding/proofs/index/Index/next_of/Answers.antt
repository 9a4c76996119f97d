use native.Mathlib.Omega.{arith}
use Rattle.encoding.proofs.index.Index.next_of.Goals as goal

pub returns-then-found : goal.returns-then-found
returns-then-found c = λ ws m le x. let z = c.next_of-next.ensures ws m (omega (arith, le, c.requires.0)) x in (z.0, c.if-found.true, z.2, z.3 c.if-found.true)

pub returns-else-found : goal.returns-else-found
returns-else-found c = λ ws m le x i from to. let z = c.next_of-next.ensures ws m (omega (arith, le, c.requires.0)) x in z.2 i from (omega (arith, z.1, c.if-found.false))
