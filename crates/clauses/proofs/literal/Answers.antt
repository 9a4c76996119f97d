use Rattle.clauses.specs.Clause.{literal}
use Rattle.clauses.proofs.Signs.{neg_is, to_pos}
use lib.IntN.{pos}
use Rattle.clauses.proofs.literal.Goals as goal

pub returns-then-negative : goal.returns-then-negative
unfolding literal
returns-then-negative c = let v = c.args.v in rw (c.if-negative.true, to_pos v c.requires) (neg_is (pos v) c.requires)

pub returns-else-negative : goal.returns-else-negative
unfolding literal
returns-else-negative c = rw c.if-negative.false (to_pos c.args.v c.requires)
