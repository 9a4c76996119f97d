-- Both slots of the variable are written, and `set` out of range changes nothing.
use mathlib.Core.Path.{refl, ap, ◌∙◌}
use Rattle.propagation.specs.Judging.{weight}
use Rattle.propagation.proofs.Table.{mirrors-set}
use Rattle.propagation.proofs.marks.put.Goals as goal

pub returns-then-i-values : goal.returns-then-i-values
returns-then-i-values c =
    let up = c.weight.ensures in
    let down = c.weight-then-i-values.ensures ∙ ap weight c.turned.ensures in
    (refl, rw (up, down) (mirrors-set c.args.values.now c.args.truth.now c.requires c.args.i c.args.v c.if-i-values.true))
