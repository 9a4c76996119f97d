use native.Mathlib.Omega.{arith}
use borrow.Author.Rules.{rules}
use Rattle.records.specs.Table.{numbers_of}
use Rattle.checker.specs.Checked.{lent}
use Rattle.host.proofs.Entering.{array_short, entered_over}
use Rattle.host.proofs.Fields.{told_small}
use Rattle.host.proofs.rulebook_check_into.Goals as goal

pub returns-then-answer-lt-FIELDS : goal.returns-then-answer-lt-FIELDS
returns-then-answer-lt-FIELDS c = rw c.from.ensures (array_short c.args.book.now c.args.budget _ c.args.answer.now (omega (arith, c.if-answer-lt-FIELDS.true)))

pub report-requires : goal.report-requires
report-requires c = (told_small _ _ _ _ _ c.check-told.ensures.promised, omega (arith, c.if-answer-lt-FIELDS.false))

pub returns : goal.returns
returns c =
    let a = c.args in
    entered_over a.book.now a.budget (lent (numbers_of a.states.now) a.words.now a.clauses.now a.values.now a.work.now) a.answer.now c.check-told.result c.check-told.new.buffers _ _ _ _ _ c.report.new.out c.number.result
    (omega (arith, c.if-answer-lt-FIELDS.false)) c.check-told.ensures.promised c.report.ensures c.number.ensures (search rules) (search rules) (search rules) (search rules) (search rules)
