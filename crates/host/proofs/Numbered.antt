-- The check with buffers of its own: they are long enough, so the book and the budget alone give the answer. Assumes nothing.
use Prim.Native.Nat.{ℕ}
use native.Mathlib.Omega.{arith}
use mathlib.Core.Path.{◌≡◌, refl, ap, ◌∙◌}
use mathlib.Core.Bool.{true}
use mathlib.Core.List.{List}
use Rattle.meaning.specs.Answers.{Answer}
use Rattle.checker.specs.Checked.{Lent, enough, told}
use Rattle.checker.specs.Meant.{Promised}
use Rattle.std.specs.Prelude.{Result}
use Rattle.book.specs.declared.refusal.NoAnswer.{NoAnswer}
use Rattle.records.specs.Table.{numbers_of}
use Rattle.checker.specs.declared.Answer as code
use Rattle.checker.proofs.Promising.{checked-answer}
use Rattle.checker.specs.Lending.{own}
use Rattle.host.specs.Called.{Numbered}

own-enough : enough own ≡ true
unfolding enough numbers_of
own-enough = refl

pub numbered : (bs : List ℕ) (budget : ℕ) (o o' : Lent) (a : Result code.Answer NoAnswer) (r : ℕ) → o ≡ own → Promised bs budget o o' a → r ≡ (told a).number → Numbered bs budget r
numbered bs budget o o' a r q p e =
    record {
      number = e ∙ ap (λ (x : Answer). x.number) (p.answer ∙ checked-answer bs budget o (ap enough q ∙ own-enough));
      means = λ h ns q low. let m = p.means h ns q (omega arith) in rw e (record { stopped = m.stopped; yes_exactly = m.yes_exactly; no_nowhere = m.no_nowhere });
    }
