use native.Mathlib.Omega.{arith}
use borrow.Author.Tests.{eq-eqb, ne_eqb}
use Rattle.propagation.specs.Links.{made, head_of}
use Rattle.propagation.proofs.links.head.Goals as goal

pub returns-then-m-eq1 : goal.returns-then-m-eq1
unfolding made head_of
returns-then-m-eq1 c = simp (eq-eqb c.args.m 1 c.if-m-eq1.true) (omega arith)

pub returns-else-m-eq1 : goal.returns-else-m-eq1
unfolding made head_of
returns-else-m-eq1 c = simp (ne_eqb c.args.m 1 c.if-m-eq1.false)
