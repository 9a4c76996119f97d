use Rattle.rulecheck.proofs.Written.{on_err, begins_first, begun_next, begun_stops}
use Rattle.rulecheck.proofs.show.begin.Goals as goal

pub returns-in_err-write_full-clause-error : goal.returns-in_err-write_full-clause-error
returns-in_err-write_full-clause-error g c = on_err c.from_residual.result (begins_first _ _ _ _ c.in_err-write_full.ensures.error)

pub returns-in_err-put-clause-error : goal.returns-in_err-put-clause-error
returns-in_err-put-clause-error g c =
    on_err c.from_residual-in_err-put.result (begun_stops _ _ _ c.args.word.now c.args.numbers.now c.loop-n.n-index c.loop-n-test.true c.loop-n.invariant c.in_err-put.ensures.error)

pub loop-n-preserved : goal.loop-n-preserved
loop-n-preserved g c = begun_next _ _ _ c.args.word.now c.args.numbers.now c.loop-n.n-index c.loop-n-test.true c.loop-n.invariant c.in_ok-put.ensures.written
