use mathlib.Core.Path.{ap}
use Prim.Native.Nat.{ℕ, ◌+◌}
use borrow.Author.Tests.{eq-eqb, ne_eqb}
use Rattle.branching.specs.Nodes.{above}
use Rattle.branching.proofs.branch.above.Goals as goal

pub returns-then-node-eq0 : goal.returns-then-node-eq0
unfolding above
returns-then-node-eq0 c = simp (eq-eqb c.args.node.now.top 0 c.if-node-eq0.true)

pub returns : goal.returns
unfolding above
returns c = simp (ne_eqb c.args.node.now.top 0 c.if-node-eq0.false) (ap (λ (i : ℕ). i + 1) c.noted.ensures)
