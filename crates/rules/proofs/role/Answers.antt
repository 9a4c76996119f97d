use Rattle.book.specs.Held.{nodes_in}
use Rattle.rules.proofs.Seeing.{sees_in}
use Rattle.rules.proofs.role.Goals as goal

pub returns : goal.returns
returns c =
    let a = c.args in
    sees_in (nodes_in a.book.now) a.v a.index.now.words.now c.key_at.result c.classify.result c.key_at.ensures c.classify.ensures
