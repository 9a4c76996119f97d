use Rattle.std.proofs.lemmas.Result.{on_err_weaker}
use Rattle.rulecheck.proofs.Written.{on_err, begins_first, begins_then}
use Rattle.rulecheck.proofs.show.line.Goals as goal

pub returns-in_err-begin-clause-error : goal.returns-in_err-begin-clause-error
returns-in_err-begin-clause-error g c = on_err c.from_residual.result (begins_first _ _ _ _ c.in_err-begin.ensures.error)

pub returns-in_err-show_marked-clause-error : goal.returns-in_err-show_marked-clause-error
returns-in_err-show_marked-clause-error g c =
    on_err c.from_residual-in_err-show_marked.result (begins_then _ _ _ _ _ c.in_ok-begin.ensures.written (begins_first _ _ _ _ c.in_err-show_marked.ensures.error))

pub returns-clause-error : goal.returns-clause-error
returns-clause-error g c =
    on_err_weaker c.end.result (λ e. begins_then _ _ _ _ _ c.in_ok-begin.ensures.written (begins_then _ _ _ _ _ c.in_ok-show_marked.ensures.written e)) c.end.ensures.error
