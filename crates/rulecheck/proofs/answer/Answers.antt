use Rattle.std.proofs.Common.{◌∙◌}
use Rattle.checker.specs.Lending.{held}
use Rattle.rulecheck.proofs.Reading.{told_printed}
use Rattle.rulecheck.proofs.answer.Goals as goal

pub returns : goal.returns
returns g c =
    rw (told_printed c.args.book.now _ (held c.check-answer.new.buffers) c.check-answer.result (c.lend-buffers.ensures ∙ c.new-own.ensures) c.check-answer.ensures.promised) c.lines.ensures
