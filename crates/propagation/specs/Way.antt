-- The way down the links of a literal, as an iterator goes it: a clause at each step, and the place before. Assumes nothing.
use Rattle.std.specs.Prelude.{◌≡◌, Option, Some, None, ℕ, ◌+◌, ◌-◌, ◌*◌, ◌/◌, ◌<◌, get_or}
use Rattle.propagation.specs.declared.holders.Holders.{Holders}

pub record Down (s : Holders) (i : ℕ) (s' : Holders) : Type 0 where
  pub some : 0 < s.place
  pub gives : i ≡ (s.place - 1) / 3
  pub next : s'.place ≡ get_or s.formula.links.now (2 * s.formula.variables + s.place) 0
  pub formula : s'.formula ≡ s.formula

abbrev pub StepsDown : Holders → Option ℕ → Holders → Type 0
StepsDown s None s' = (s.place ≡ 0) × (s' ≡ s)
StepsDown s (Some i) s' = Down s i s'
