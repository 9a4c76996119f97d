-- What the build leaves in its lent buffers (document 01, "Answers by number"): the build of the definition, or 15 and zeros. Assumes nothing.
use Rattle.std.specs.Prelude.{ℕ, ◌*◌, ◌≡◌, cond, List, [], ℤ, pos}
use Rattle.ground.specs.Buffer.{filled}
use Rattle.encoding.specs.Build as def
use Rattle.encoding.specs.Build.{states#, variables#, clauses#}
use Rattle.encoding.specs.Limits.{max_states, max_variables, max_clauses, oversized, state_buffer, word_buffer, clause_buffer}
use Rattle.encoding.specs.declared.counts.Build.{Build}
use Rattle.std.specs.Prelude.{Result, Ok, Err}
use Rattle.build.specs.declared.Oversized.{Oversized}

-- "For 1, 2 and 3 the totals are those of the build"
abbrev pub totals : def.Build → Build
totals B = record { states = states# B; variables = variables# B; clauses = clauses# B }

-- "15: build has over 512 states, 4,095 variables or 5,000 clauses"
unfoldable pub built_of : def.Build → Result Build Oversized
built_of B = cond (oversized B) (Err (record {})) (Ok (totals B))

-- Of the states, words and clauses that were lent, those that are left, and the result r: "State 1 and variable 1 stand at the first place. Anything
-- beyond a stated size is never touched; unused places below it are 0." For 15 they are "all 0 up to the stated sizes".
pub record Filled (B : def.Build) (states words : List ℕ) (clauses : List ℤ) (states' words' : List ℕ) (clauses' : List ℤ) (r : Result Build Oversized) : Type 0 where
  pub gives : r ≡ built_of B
  pub in_states : states' ≡ filled 0 (3 * max_states) (cond (oversized B) [] (state_buffer B)) states
  pub in_words : words' ≡ filled 0 max_variables (cond (oversized B) [] (word_buffer B)) words
  pub in_clauses : clauses' ≡ filled (pos 0) (3 * max_clauses) (cond (oversized B) [] (clause_buffer B)) clauses
