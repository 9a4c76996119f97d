-- The promise of `check`, over records or over numbers, admits a single outcome: 01's numbers tell the answer. Assumes nothing.
use Prim.Native.Nat.{ℕ}
use mathlib.Core.Path.{◌≡◌, refl, sym, ap, ◌∙◌}
use mathlib.Core.Bool.{cond}
use mathlib.Core.List.{List}
use lib.Dec.{eqb}
use Rattle.meaning.specs.Answers.{Answer}
use Rattle.checker.specs.Checked.{Lent, ended_by, told}
use Rattle.checker.specs.Meant.{Promised}
use Rattle.checker.specs.Lending.{held}
use Rattle.checker.specs.declared.Lent as lending
use Rattle.records.proofs.Tables.{numbers_of_inj}
use Rattle.std.specs.Prelude.{Result, Ok, Err}
use Rattle.book.specs.declared.refusal.Refusal.TheVariants.{Short, Ranges, Extent, Node}
use Rattle.book.specs.declared.refusal.NoAnswer.{NoAnswer}
use Rattle.book.specs.declared.refusal.NoAnswer.TheVariants.{Lent as LentOut, Refused, Oversized}
use Rattle.branching.specs.declared.Outcome.{Outcome}
use Rattle.branching.specs.declared.Outcome.TheVariants.{Yes, No, Stopped}
use Rattle.checker.specs.declared.Answer as code

searched : Answer → Outcome → code.Answer
searched a x = record { totals = record { states = a.states; variables = a.variables; clauses = a.clauses }; outcome = x }

untold : Answer → Result code.Answer NoAnswer
untold a =
    cond (eqb a.number 1) (Ok (searched a (Yes a.count)))
    (cond (eqb a.number 2) (Ok (searched a (No a.count)))
    (cond (eqb a.number 3) (Ok (searched a (Stopped a.count)))
    (cond (eqb a.number 10) (Err LentOut)
    (cond (eqb a.number 11) (Err (Refused Short))
    (cond (eqb a.number 12) (Err (Refused Ranges))
    (cond (eqb a.number 13) (Err (Refused Extent))
    (cond (eqb a.number 14) (Err (Refused (Node a.place))) (Err Oversized))))))))

untold-told : (r : Result code.Answer NoAnswer) → untold (told r) ≡ r
unfolding untold searched
untold-told (Ok a) = go a.outcome
  where
    go : (x : Outcome) → untold (ended_by a.totals x) ≡ Ok (record { totals = a.totals; outcome = x })
    go (Yes n) = refl
    go (No n) = refl
    go (Stopped n) = refl
untold-told (Err LentOut) = refl
untold-told (Err (Refused Short)) = refl
untold-told (Err (Refused Ranges)) = refl
untold-told (Err (Refused Extent)) = refl
untold-told (Err (Refused (Node i))) = refl
untold-told (Err Oversized) = refl

pub told_inj : (r s : Result code.Answer NoAnswer) → told r ≡ told s → r ≡ s
told_inj r s e = sym (untold-told r) ∙ ap untold e ∙ untold-told s

-- of the lists that the buffers hold: over numbers these are what is lent
pub single : {bs : List ℕ} {budget : ℕ} {o o₁ o₂ : Lent} {r₁ r₂ : Result code.Answer NoAnswer} → Promised bs budget o o₁ r₁ → Promised bs budget o o₂ r₂ → (r₁ ≡ r₂) × (o₁ ≡ o₂)
single {r₁} {r₂} p q = (told_inj r₁ r₂ (p.answer ∙ sym q.answer), p.lent ∙ sym q.lent)

-- over records the same of everything that is lent, as a table is its numbers
pub single_lent : {bs : List ℕ} {budget : ℕ} {o : Lent} {r₁ r₂ : Result code.Answer NoAnswer} (b₁ b₂ : lending.Lent) → Promised bs budget o (held b₁) r₁ → Promised bs budget o (held b₂) r₂
    → (r₁ ≡ r₂) × (b₁.states.now ≡ b₂.states.now) × (b₁.words.now ≡ b₂.words.now) × (b₁.clauses.now ≡ b₂.clauses.now) × (b₁.values.now ≡ b₂.values.now) × (b₁.work.now ≡ b₂.work.now)
single_lent b₁ b₂ p q =
    let same = (single p q).1 in
    ((single p q).0, numbers_of_inj b₁.states.now b₂.states.now (ap (λ (o : Lent). o.states) same), ap (λ (o : Lent). o.words) same, ap (λ (o : Lent). o.clauses) same, ap (λ (o : Lent). o.values) same, ap (λ (o : Lent). o.work) same)
