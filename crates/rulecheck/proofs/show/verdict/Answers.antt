use Rattle.std.proofs.Common.{sym}
use Rattle.std.proofs.lemmas.Result.{on_err_weaker}
use Rattle.std.proofs.KnownBytes.{Appends-trans}
use Rattle.rulecheck.proofs.Written.{on_err, begins_first, begins_then}
use Rattle.rulecheck.proofs.show.verdict.Goals as goal

pub returns-in_err-begin-clause-error : goal.returns-in_err-begin-clause-error
returns-in_err-begin-clause-error g c = on_err c.from_residual.result (begins_first _ _ _ _ (begins_first _ _ _ _ c.in_err-begin.ensures.error))

pub returns-in_err-end-clause-error : goal.returns-in_err-end-clause-error
returns-in_err-end-clause-error g c = on_err c.from_residual-in_err-end.result (begins_first _ _ _ _ (begins_then _ _ _ _ _ c.in_ok-begin.ensures.written c.in_err-end.ensures.error))

pub returns-in_err-begin-2-clause-error : goal.returns-in_err-begin-2-clause-error
returns-in_err-begin-2-clause-error g c =
    rw (sym c.from.ensures)
    (on_err c.from_residual-in_err-begin-2.result
    (begins_then _ _ _ _ _ (Appends-trans _ _ _ _ _ c.in_ok-begin.ensures.written c.in_ok-end.ensures.written) (begins_first _ _ _ _ c.in_err-begin-2.ensures.error)))

pub returns-clause-error : goal.returns-clause-error
returns-clause-error g c =
    rw (sym c.from.ensures)
    (on_err_weaker c.end-2.result
    (λ e. begins_then _ _ _ _ _ (Appends-trans _ _ _ _ _ c.in_ok-begin.ensures.written c.in_ok-end.ensures.written) (begins_then _ _ _ _ _ c.in_ok-begin-2.ensures.written e))
    c.end-2.ensures.error)
