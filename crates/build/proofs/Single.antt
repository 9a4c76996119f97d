-- The contract of `fill` admits one outcome: a result and three lists, for every book and every buffer; where the states are lent as a table, one table.
-- Assumes nothing.
use Prim.Native.Nat.{ℕ}
use mathlib.Core.Path.{◌≡◌, sym, ◌∙◌}
use mathlib.Core.List.{List}
use lib.IntN.{ℤ}
use Rattle.records.specs.declared.State.{State}
use Rattle.records.specs.Table.{numbers_of}
use Rattle.records.proofs.Tables.{numbers_of_inj}
use Rattle.encoding.specs.Build as def
use Rattle.build.specs.Filled.{Filled}
use Rattle.std.specs.Prelude.{Result}
use Rattle.encoding.specs.declared.counts.Build.{Build}
use Rattle.build.specs.declared.Oversized.{Oversized}

pub fill_single : {B : def.Build} {st ws : List ℕ} {cs : List ℤ} {st₁ ws₁ st₂ ws₂ : List ℕ} {cs₁ cs₂ : List ℤ} {r₁ r₂ : Result Build Oversized} → Filled B st ws cs st₁ ws₁ cs₁ r₁ → Filled B st ws cs st₂ ws₂ cs₂ r₂
    → (r₁ ≡ r₂) × (st₁ ≡ st₂) × (ws₁ ≡ ws₂) × (cs₁ ≡ cs₂)
fill_single a b = (a.gives ∙ sym b.gives, a.in_states ∙ sym b.in_states, a.in_words ∙ sym b.in_words, a.in_clauses ∙ sym b.in_clauses)

-- a table is its numbers
pub fill_single_table : {B : def.Build} {st ws : List ℕ} {cs : List ℤ} {t₁ t₂ : List State} {ws₁ ws₂ : List ℕ} {cs₁ cs₂ : List ℤ} {r₁ r₂ : Result Build Oversized} → Filled B st ws cs (numbers_of t₁) ws₁ cs₁ r₁ → Filled B st ws cs (numbers_of t₂) ws₂ cs₂ r₂
    → (r₁ ≡ r₂) × (t₁ ≡ t₂) × (ws₁ ≡ ws₂) × (cs₁ ≡ cs₂)
fill_single_table {B} {st} {ws} {cs} {t₁} {t₂} a b = let h = fill_single a b in (h.0, numbers_of_inj t₁ t₂ h.1, h.2, h.3)
