-- A box or a diamond marks the parents of the states that count, over what its row begins with; every other row is made from those of its children.
use Rattle.evaluation.proofs.Showing.{joined_node, modal_node}
use Rattle.evaluation.proofs.nodes.write_node.Goals as goal

pub returns-in-Box : goal.returns-in-Box
returns-in-Box c =
    let a = c.args in
    let x = c.node-node in
    let d = c.is_diamond-diamond in
    modal_node a.table.now a.structure.now a.i a.work.now c.requires.room c.requires.inside x.result x.ensures.is x.ensures.bounds _ _ c.begin.new.work c.spread.new.work d.result (rw c.in-Box.node-is at d.ensures) c.in-Box.is
    (rw c.node_row-base.ensures at c.begin.ensures) (rw (c.node_row-base.ensures, c.node_row.ensures) at c.spread.ensures)

pub returns-in_default : goal.returns-in_default
returns-in_default c =
    let a = c.args in
    let x = c.node-node in
    joined_node a.table.now a.structure.now a.i a.work.now c.requires.room c.requires.inside x.result x.ensures.is x.ensures.bounds c.connect.new.work c.connect.ensures c.in_default.not-Box c.in_default.not-Diamond
