-- A literal is the one that its mark makes true.
use mathlib.Core.Path.{◌≡◌, sym, ap, ◌∙◌}
use Prim.Native.Nat.{ℕ}
use native.Mathlib.Omega.{arith}
use lib.IntN.{ℤ, pos}
use mir.Facts.{to_z-of_z}
use Rattle.search.specs.Search.{place, mark}
use Rattle.propagation.specs.Links.{made, head_of}
use Rattle.propagation.proofs.Literals.{place-small, not-zero, is_zero}
use Rattle.propagation.proofs.Latest.{made_again}
use Rattle.propagation.proofs.links.head_of.Goals as goal
use Rattle.propagation.proofs.links.head_of.Goals.{After-mark}

-- of a literal that is not an unused place

module _ (c : After-mark) where
  abbrev l : ℤ
  l = c.args.l

  used : l ≡ pos 0 → ⊥
  used e = not-zero l c.ranges.l c.if-l-eq0.false (to_z-of_z c.ranges.l ∙ e)

  place_is : c.place.result ≡ place l
  place_is = c.place.ensures ∙ ap place (to_z-of_z c.ranges.l)

  mark-is : c.mark.result ≡ mark l
  mark-is = c.mark.ensures ∙ ap mark (to_z-of_z c.ranges.l)

pub head-requires : goal.head-requires
head-requires c = omega (arith, place_is c, place-small (l c) c.ranges.l)

pub returns-then-l-eq0 : goal.returns-then-l-eq0
unfolding head_of
returns-then-l-eq0 c = sym (ap head_of (is_zero c.args.l c.ranges.l c.if-l-eq0.true))

pub returns-else-l-eq0 : goal.returns-else-l-eq0
returns-else-l-eq0 c =
    c.head.ensures
    ∙ ap (λ (i : ℕ). head_of (made i c.mark.result)) (place_is (goal.at.returns-else-l-eq0 c).After-mark)
    ∙ ap (λ (m : ℕ). head_of (made (place (l (goal.at.returns-else-l-eq0 c).After-mark)) m)) (mark-is (goal.at.returns-else-l-eq0 c).After-mark)
    ∙ ap head_of (made_again (l (goal.at.returns-else-l-eq0 c).After-mark) (used (goal.at.returns-else-l-eq0 c).After-mark))
