use mathlib.Core.Path.{◌≡◌, sym, ◌∙◌}
use borrow.Author.Rules.{rules}
use Rattle.std.specs.Prelude.{Err}
use Rattle.book.specs.declared.refusal.NoAnswer.TheVariants.{Refused}
use Rattle.checker.specs.Lending.{held}
use Rattle.checker.proofs.Promising.{promised_refused, promised_accepted}
use Rattle.checker.proofs.check.Goals as goal

pub returns-in_err-header-clause-promised : goal.returns-in_err-header-clause-promised
returns-in_err-header-clause-promised c =
    let a = c.args in
    let is : c.from_residual.result ≡ Err (Refused c.in_err-header.field-0.0) = search rules in
    promised_refused a.bytes.now a.budget (held a.buffers.now) c.in_err-header.field-0.0 c.from_residual.result (sym c.enough.ensures ∙ c.if-not-enough.false) c.in_err-header.ensures is

pub returns-clause-promised : goal.returns-clause-promised
returns-clause-promised c =
    let a = c.args in
    promised_accepted a.bytes.now a.budget (held a.buffers.now) c.in_ok-header.header (held c.judge.new.buffers) c.judge.result (sym c.enough.ensures ∙ c.if-not-enough.false) c.in_ok-header.ensures
    (rw (← c.accepted.ensures.bytes) c.judge.ensures.judged)
