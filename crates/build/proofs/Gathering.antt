-- The build over numbers, from the build over a table: as many records as a build has states are enough numbers, and what was left in some, gathered into
-- numbers that were lent, fills these alike. Assumes nothing.
use Prim.Native.Nat.{ℕ, ◌*◌, ◌≤◌}
use native.Mathlib.Omega.{arith}
use mathlib.Core.Path.{◌≡◌, ap, ◌∙◌}
use mathlib.Core.List.{List, []}
use lib.IntN.{ℤ}
use lib.ListN.{length, replicate, length-replicate}
use Rattle.ground.specs.Buffer.{filled}
use Rattle.records.specs.Table.{zero_state, numbers_of}
use Rattle.records.proofs.Tables.{length-numbers_of, refilled}
use Rattle.encoding.specs.Build as def
use Rattle.encoding.specs.Limits.{max_states, oversized, state_buffer}
use Rattle.encoding.specs.declared.counts.Build.{Build}
use Rattle.build.specs.Filled.{Filled}
use Rattle.std.specs.Prelude.{Result, cond}
use Rattle.build.specs.declared.Oversized.{Oversized}

pub long_unused : 3 * max_states ≤ length (numbers_of (replicate max_states zero_state))
long_unused = omega (arith, length-numbers_of (replicate max_states zero_state), length-replicate max_states zero_state)

pub filled_gathered : {B : def.Build} {st old st₁ st₂ ws ws₁ : List ℕ} {cs cs₁ : List ℤ} {r : Result Build Oversized} → Filled B old ws cs st₁ ws₁ cs₁ r → st₂ ≡ filled 0 (3 * max_states) st₁ st → Filled B st ws cs st₂ ws₁ cs₁ r
filled_gathered {B} {st} {old} f e =
    record {
      gives = f.gives;
      in_states = e ∙ ap (λ (xs : List ℕ). filled 0 (3 * max_states) xs st) f.in_states ∙ refilled 0 (3 * max_states) (cond (oversized B) [] (state_buffer B)) old st;
      in_words = f.in_words;
      in_clauses = f.in_clauses;
    }
