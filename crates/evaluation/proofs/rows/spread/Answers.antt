use Rattle.evaluation.proofs.Showing.{spread_none}
use Rattle.evaluation.proofs.rows.spread.Goals as goal

pub loop-j-init : goal.loop-j-init
loop-j-init c = spread_none c.args.structure.now c.args.work.now c.args.modal c.args.base
