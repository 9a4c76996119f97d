use mathlib.Core.Path.{ap, ◌∙◌}
use mir.Facts.{to_z-of_z}
use Rattle.clauses.proofs.Signs.{read}
use Rattle.search.specs.Search.{mark}
use Rattle.propagation.proofs.Literals.{mark-down, mark-up}
use Rattle.propagation.proofs.clause.mark.Goals as goal

pub returns-then-l-lt0 : goal.returns-then-l-lt0
returns-then-l-lt0 c = mark-down (read c.args.l) c.if-l-lt0.true ∙ ap mark (to_z-of_z c.ranges.l)

pub returns-else-l-lt0 : goal.returns-else-l-lt0
returns-else-l-lt0 c = mark-up (read c.args.l) c.if-l-lt0.false ∙ ap mark (to_z-of_z c.ranges.l)
