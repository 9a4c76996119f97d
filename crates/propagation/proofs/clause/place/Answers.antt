use mathlib.Core.Path.{ap, ◌∙◌}
use native.Mathlib.Omega.{arith}
use lib.IntN.{nat_abs}
use mir.Facts.{to_z-of_z}
use Rattle.propagation.proofs.Literals.{place_less}
use Rattle.propagation.proofs.clause.place.Goals as goal

pub returns : goal.returns
returns c = omega (arith, c.saturating_sub.ensures, c.number.ensures ∙ ap nat_abs (to_z-of_z c.ranges.l), place_less c.args.l)
