use mathlib.Core.Path.{sym}
use Rattle.propagation.proofs.Latest.{joined-one, joined-two}
use Rattle.propagation.proofs.links.joined.Goals as goal

pub returns-then-earlier-later : goal.returns-then-earlier-later
returns-then-earlier-later c = sym (joined-one c.args.last c.args.p c.if-earlier-later.true)

pub returns-else-earlier-later : goal.returns-else-earlier-later
returns-else-earlier-later c = sym (joined-two c.args.last c.args.p c.if-earlier-later.false)
