-- The answer's fields: they are small, a place being that of a node and totals those of a build within the limits; and six stores write them.
-- Assumes nothing.
use Prim.Native.Nat.{ℕ}
use native.Mathlib.Omega.{arith}
use mathlib.Core.Path.{◌≡◌, refl, sym, subst}
use mathlib.Core.Bool.{Bool, true, false}
use mathlib.Core.List.{List}
use Rattle.book.proofs.Verdicts.{refused-low}
use Rattle.encoding.specs.Build.{built}
use Rattle.meaning.specs.Answers.{judged}
use Rattle.checker.specs.Checked.{Lent, enough, checked, told}
use Rattle.checker.proofs.Promising.{within, checked_short, checked-book, by-book}
use Rattle.std.specs.Prelude.{Result}
use Rattle.book.specs.declared.refusal.NoAnswer.{NoAnswer}
use Rattle.checker.specs.Meant.{Promised}
use Rattle.checker.specs.declared.Answer as code
use Rattle.host.specs.Steps.{Small}

module _ (bs : List ℕ) (budget : ℕ) (o : Lent) where
  checked-small : Small (checked bs budget o).answer
  unfolding judged
  checked-small = go (enough o) refl
    where
      go : (b : Bool) → enough o ≡ b → Small (checked bs budget o).answer
      go false e = rw (checked_short bs budget o e) (record { place = omega arith; states = omega arith; variables = omega arith; clauses = omega arith })
      go true e =
          rw (checked-book bs budget o e)
          (by-book bs budget (λ f. Small (f o).answer)
          (λ n p q. record { place = omega (arith, (refused-low bs n p q).2); states = omega arith; variables = omega arith; clauses = omega arith })
          (λ h ns q x. record { place = omega arith; states = omega arith; variables = omega arith; clauses = omega arith })
          (λ h ns q x. let w = within (built ns h.root) x in record { place = omega arith; states = omega arith; variables = omega arith; clauses = omega arith }))

-- what an answer of the check holds
pub told_small : (bs : List ℕ) (budget : ℕ) (o o' : Lent) (a : Result code.Answer NoAnswer) → Promised bs budget o o' a → Small (told a)
told_small bs budget o o' a p = subst Small (sym p.answer) (checked-small bs budget o)
