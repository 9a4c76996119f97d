-- The tests in 01's order; each way out is the judgement that they make.
use Rattle.evaluation.proofs.Answering.{answers_lent, answers_refused, answers_holds}
use Rattle.evaluation.proofs.evaluate.Goals as goal

pub returns-then-not-all_fit : goal.returns-then-not-all_fit
returns-then-not-all_fit c = answers_lent c.args.book.now c.args.structure.now c.args.work.now c.if-not-all_fit.ensures

pub returns-in_err-header : goal.returns-in_err-header
returns-in_err-header c = answers_refused c.args.book.now c.args.structure.now c.args.work.now c.if-not-all_fit.ensures _ c.in_err-header.ensures _ c.from_residual.ensures.1

pub returns : goal.returns
returns c = answers_holds c.args.book.now c.args.structure.now c.args.work.now c.if-not-all_fit.ensures _ c.in_ok-header.ensures _ _ (rw c.accepted-accepted.ensures.bytes at c.root_holds.ensures)
