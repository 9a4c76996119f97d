use Rattle.std.proofs.Common.{codes, subst, ◌∙◌}
use Rattle.std.specs.Fmt.{decimal}
use Rattle.std.proofs.lemmas.Result.{on_err_weaker}
use Rattle.streams.specs.Writing.{Begins}
use Rattle.rulecheck.proofs.Written.{begins_then}
use Rattle.rulecheck.proofs.show.put.Goals as goal

pub returns-clause-error : goal.returns-clause-error
returns-clause-error g c =
    on_err_weaker c.write_full-2.result
    (λ e. begins_then _ _ _ (codes " ") (decimal c.args.n) c.in_ok-write_full.ensures.written (subst (Begins _ _) (c.as_bytes.ensures.value ∙ c.format.ensures.text) e))
    c.write_full-2.ensures.error
