use mathlib.Core.Path.{◌∙◌}
use Rattle.host.proofs.Numbered.{numbered}
use Rattle.host.proofs.rulebook_check.Goals as goal

pub returns : goal.returns
returns c = numbered _ _ _ _ c.check.result _ (c.lend-buffers.ensures ∙ c.new-own.ensures) c.check.ensures.promised c.number.ensures
