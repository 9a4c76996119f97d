use native.Mathlib.Omega.{arith}
use lib.ListN.{length}
use Rattle.propagation.proofs.Latest.{latest_le}
use Rattle.propagation.proofs.formula.Formula.holders.Goals as goal

pub invariant_of-result : goal.invariant_of-result
invariant_of-result c =
    let F = c.args.self in
    let cl = F.clauses.now in
    record { inside = omega (arith, c.from.ensures, F.linked.heads c.args.x c.requires, latest_le cl c.args.x (length cl)) }
