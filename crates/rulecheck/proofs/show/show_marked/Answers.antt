use Rattle.std.proofs.Common.{rules}
use Rattle.rulecheck.proofs.Written.{on_err, marked_stops}
use Rattle.rulecheck.proofs.show.show_marked.Goals as goal

pub returns-in_err-show-clause-error : goal.returns-in_err-show-clause-error
returns-in_err-show-clause-error g c =
    let a = c.args in
    on_err c.from_residual.result
    (marked_stops a.marks.now (g.S.Shown.text a.of.now) _ _ _ c.loop-i.i _ (search rules) (search rules) c.loop-i.invariant c.in_err-show.ensures.error)
