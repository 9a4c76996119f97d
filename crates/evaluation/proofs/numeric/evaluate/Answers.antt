-- The records that are read are those that are judged.
use Rattle.evaluation.proofs.Taken.{taken_evaluated}
use Rattle.evaluation.proofs.numeric.evaluate.Goals as goal

pub returns : goal.returns
returns c =
    let a = c.args in
    taken_evaluated a.states.now c.min-read.result c.min-read.ensures a.book.now a.n a.words.now a.v a.values.now a.work.now _ c.publish.new.t
    c.evaluate.new.work c.evaluate.result c.publish.ensures c.evaluate.ensures
