-- 4,096 more than the literal is its slot.
use mathlib.Core.Path.{◌≡◌, ap, ◌∙◌}
use native.Mathlib.Omega.{arith}
use lib.IntN.{ℤ, pos, nat_abs, ◌+ℤ◌}
use mir.Syntax.{w16}
use mir.Val.{SFits}
use mir.Facts.{to_z-of_z}
use Rattle.clauses.proofs.Signs.{read}
use Rattle.propagation.specs.Judging.{slot_of}
use Rattle.propagation.proofs.Literals.{slot_is}
use Rattle.propagation.proofs.Table.{slot_small}
use Rattle.propagation.proofs.clause.slot.Goals as goal
use Rattle.propagation.proofs.clause.slot.Goals.{Start}

module _ (s : Start) where
  abbrev l : ℤ
  l = s.args.l

  plain : read l +ℤ pos 4096 ≡ pos (slot_of l)
  plain = ap (λ (y : ℤ). y +ℤ pos 4096) (to_z-of_z s.ranges.l) ∙ slot_is l s.requires

  fits : SFits w16 (pos (slot_of l))
  fits = record { sfits = omega (arith, slot_small l s.requires) }

  sum-read : read (read l +ℤ pos 4096) ≡ pos (slot_of l)
  sum-read = ap read plain ∙ to_z-of_z fits

pub returns : goal.returns
returns c = ap nat_abs (sum-read c)
