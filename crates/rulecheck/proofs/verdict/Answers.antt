use Rattle.std.proofs.Common.{subst}
use Rattle.std.proofs.lemmas.Result.{on_err_weaker}
use Rattle.streams.specs.Writing.{Begins}
use Rattle.rulecheck.specs.Printed.{printed}
use Rattle.rulecheck.proofs.Reading.{same_lines}
use Rattle.rulecheck.proofs.Written.{on_err, begins_first, begins_then}
use Rattle.rulecheck.proofs.verdict.Goals as goal

pub returns-in_err-verdict-in-Yes-clause-error : goal.returns-in_err-verdict-in-Yes-clause-error
unfolding printed
returns-in_err-verdict-in-Yes-clause-error g c = rw c.in-Yes.is (on_err c.from_residual.result (begins_first _ _ _ _ c.in_err-verdict-in-Yes.ensures.error))

pub returns-in_ok-verdict-in-Yes-clause-error : goal.returns-in_ok-verdict-in-Yes-clause-error
unfolding printed
returns-in_ok-verdict-in-Yes-clause-error g c =
    let there = c.structure.ensures in
    rw c.in-Yes.is
    (on_err_weaker c.structure-in-Yes.result
    (λ e. begins_then _ _ _ _ _ c.in_ok-verdict-in-Yes.ensures.written (subst (Begins _ _) (same_lines c.structure.result _ _ _ _ _ there.records there.variables) e))
    c.structure-in-Yes.ensures.error)
