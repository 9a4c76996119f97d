-- The check with an array for the answer's fields: what the check promises and the fields written are what the call promises. Assumes nothing.
use Prim.Native.Nat.{ℕ, ◌≤◌, ◌<◌}
use native.Mathlib.Omega.{arith}
use mathlib.Core.Path.{◌≡◌, refl, ap, ◌∙◌, subst}
use mathlib.Core.List.{List, ◌++◌}
use borrow.Author.Tests.{lt-leb, le-leb}
use lib.ListN.{length, drop}
use Rattle.std.specs.Prelude.{Result}
use Rattle.book.specs.declared.refusal.NoAnswer.{NoAnswer}
use Rattle.meaning.specs.Answers.{Answer}
use lib.IntN.{ℤ}
use Rattle.records.specs.declared.State.{State}
use Rattle.records.specs.Table.{numbers_of}
use Rattle.checker.specs.Checked.{Lent, lent, told}
use Rattle.checker.specs.Lending.{held}
use Rattle.checker.specs.declared.Lent as lending
use Rattle.checker.specs.Meant.{Meant, Promised}
use Rattle.checker.specs.declared.Answer as code
use Rattle.host.specs.Called.{fields_of, called, written, Into}

module _ (bs : List ℕ) (budget : ℕ) (o : Lent) (out : List ℕ) where
  pub array_short : length out < 6 → Into bs budget o out o out 10
  unfolding called written
  array_short h =
      let short = lt-leb 6 (length out) (omega arith) in
      record { number = rw short refl; lent = rw short refl; fields = rw short refl; means = λ h ns q low. absurd (omega arith) }

  pub entered : (a : Result code.Answer NoAnswer) (o' : Lent) (out' : List ℕ) (r : ℕ) → 6 ≤ length out → Promised bs budget o o' a → out' ≡ fields_of (told a) ++ drop 6 out
      → r ≡ (told a).number → Into bs budget o out o' out' r
  unfolding called written
  entered a o' out' r h p f n =
      let long = le-leb 6 (length out) (omega arith) in
      record {
        number = rw long (n ∙ ap (λ (x : Answer). x.number) p.answer);
        lent = rw long p.lent;
        fields = rw long (f ∙ ap (λ (x : Answer). fields_of x ++ drop 6 out) p.answer);
        means = λ h ns q low. subst (λ (x : Answer). Meant ns h.root budget x o') p.answer (p.means h ns q (omega (arith, n)));
      }

-- the same of what lies behind the references that the buffers hold
pub entered_over : (bs : List ℕ) (budget : ℕ) (o : Lent) (out : List ℕ) (a : Result code.Answer NoAnswer) (b : lending.Lent) (t : List State) (ws : List ℕ) (cs : List ℤ) (vs wk out' : List ℕ) (r : ℕ)
    → 6 ≤ length out → Promised bs budget o (held b) a → out' ≡ fields_of (told a) ++ drop 6 out → r ≡ (told a).number
    → t ≡ b.states.now → ws ≡ b.words.now → cs ≡ b.clauses.now → vs ≡ b.values.now → wk ≡ b.work.now
    → Into bs budget o out (lent (numbers_of t) ws cs vs wk) out' r
entered_over bs budget o out a b t ws cs vs wk out' r h p f n e₁ e₂ e₃ e₄ e₅ = rw (e₁, e₂, e₃, e₄, e₅) (entered bs budget o out a (held b) out' r h p f n)
