-- The root's row at state 1; and clearing at the end leaves what clearing at entry would have left.
use mathlib.Core.Path.{ap, ◌∙◌}
use Rattle.book.specs.Held.{nodes_in}
use Rattle.structure.specs.Evaluation.{work_size}
use Rattle.structure.specs.Marks.{on}
use Rattle.evaluation.proofs.Showing.{root-shown}
use Rattle.evaluation.proofs.Preparing.{cleared-kept}
use Rattle.evaluation.proofs.nodes.root_holds.Goals as goal

pub returns : goal.returns
returns c =
    let a = c.args in
    let x = c.prepare.ensures in
    let y = c.write_nodes.ensures in
    let new = c.write_nodes.new.work in (
      c.marked-holds.ensures
          ∙ ap (on new) c.node_row.ensures
          ∙ root-shown _ (nodes_in a.book.now) a.book.now.nodes a.structure.now.states_count a.root new (y.shows (x.shows (nodes_in a.book.now))) c.requires.root c.requires.room.first,
      c.clear.ensures ∙ cleared-kept work_size a.work.now new c.requires.room.rows (y.long ∙ x.long) (λ i h. y.kept i h ∙ x.kept i h),
    )
