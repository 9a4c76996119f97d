-- The promises of the calls from C each admit a single outcome. Assumes nothing.
use Prim.Native.Nat.{ℕ}
use mathlib.Core.Path.{◌≡◌, sym, ap, ◌∙◌}
use mathlib.Core.List.{List}
use lib.IntN.{ℤ}
use Rattle.records.specs.declared.State.{State}
use Rattle.records.specs.Table.{numbers_of}
use Rattle.records.proofs.Tables.{numbers_of_inj}
use Rattle.checker.specs.Checked.{Lent, lent}
use Rattle.host.specs.Called.{Numbered, Into, Judged}

pub single-check : {bs : List ℕ} {budget r₁ r₂ : ℕ} → Numbered bs budget r₁ → Numbered bs budget r₂ → r₁ ≡ r₂
single-check p q = p.number ∙ sym q.number

pub single_into : {bs : List ℕ} {budget : ℕ} {o : Lent} {out : List ℕ} {t₁ t₂ : List State} {ws₁ ws₂ : List ℕ} {cs₁ cs₂ : List ℤ} {vs₁ vs₂ wk₁ wk₂ out₁ out₂ : List ℕ} {r₁ r₂ : ℕ}
    → Into bs budget o out (lent (numbers_of t₁) ws₁ cs₁ vs₁ wk₁) out₁ r₁ → Into bs budget o out (lent (numbers_of t₂) ws₂ cs₂ vs₂ wk₂) out₂ r₂
    → (r₁ ≡ r₂) × (t₁ ≡ t₂) × (ws₁ ≡ ws₂) × (cs₁ ≡ cs₂) × (vs₁ ≡ vs₂) × (wk₁ ≡ wk₂) × (out₁ ≡ out₂)
single_into {t₁} {t₂} p q =
    let same = p.lent ∙ sym q.lent in
    (p.number ∙ sym q.number, numbers_of_inj t₁ t₂ (ap (λ (o : Lent). o.states) same), ap (λ (o : Lent). o.words) same, ap (λ (o : Lent). o.clauses) same, ap (λ (o : Lent). o.values) same, ap (λ (o : Lent). o.work) same, p.fields ∙ sym q.fields)

pub single-evaluate : {bs st : List ℕ} {n : ℕ} {ws : List ℕ} {v : ℕ} {vs work work₁ work₂ : List ℕ} {r₁ r₂ : ℕ} → Judged bs st n ws v vs work work₁ r₁ → Judged bs st n ws v vs work work₂ r₂ → (r₁ ≡ r₂) × (work₁ ≡ work₂)
single-evaluate p q = (p.number ∙ sym q.number, p.leaves ∙ sym q.leaves)
