-- From what is shown to what is left in the buffers: cleared buffers show the build before anything is asked; a build that is shown and not over fills
-- them; and clearing them once more after an overflow leaves zeros. Assumes nothing.
use Prim.Native.Nat.{ℕ, zero, suc, ◌*◌, ◌≤◌, ◌<◌}
use native.Mathlib.Omega.{arith}
use mathlib.Core.Path.{◌≡◌, refl, sym, ap, ◌∙◌}
use mathlib.Core.List.{List, [], ◌∷◌, ◌++◌}
use lib.IntN.{ℤ, pos}
use lib.ListN.{length, get_or, drop, replicate}
use lib.Seq.{drop-nil}
use Rattle.ground.specs.Buffer.{cleared}
use Rattle.ground.proofs.Buffers.{Kept, cleared_front, is-filled, filled-laid, filled-kept, length-filled}
use Rattle.clauses.specs.Clause.{numbers}
use Rattle.signed.specs.Asking.{Small}
use Rattle.records.specs.declared.State.{State}
use Rattle.records.specs.Table.{zero_state, numbers_of}
use Rattle.encoding.specs.Build as def
use Rattle.encoding.specs.Limits.{max_states, max_variables, max_clauses, Long, state_numbers, state_buffer, word_buffer, clause_buffer}
use Rattle.encoding.specs.Shows.{at_start, Room, buffers, Shows, Low, Parents}
use Rattle.encoding.specs.declared.counts.Build.{Build}
use Rattle.encoding.specs.Shows.{Tally}
use Rattle.encoding.proofs.Rows.{next-rows}
use Rattle.encoding.proofs.Steps.{exact-fits}
use Rattle.build.specs.Filled.{built_of, Filled}
use Rattle.build.specs.Steps.{Cleared, bare}
use Rattle.std.specs.Prelude.{Ok, Err}
use Rattle.build.specs.declared.Oversized.{Oversized}

module _ {A : Type 0} (z : A) (n : ℕ) (old new : List A) (e : new ≡ cleared z n old) where
  cleared-zero : (i : ℕ) → i < n → get_or new i z ≡ z
  cleared-zero i h = ap (λ (l : List A). get_or l i z) e ∙ filled-laid z n [] old i h

  cleared-kept : Kept z n old new
  cleared-kept i h = ap (λ (l : List A). get_or l i z) e ∙ filled-kept z n [] old i h

-- state records cleared are their numbers cleared
numbers_of-zeros : (n : ℕ) (ss : List State) → numbers_of (replicate n zero_state ++ ss) ≡ replicate (3 * n) 0 ++ numbers_of ss
unfolding numbers_of
numbers_of-zeros zero ss = refl
numbers_of-zeros (suc n) ss = rw (next-rows n) (ap (λ (xs : List ℕ). 0 ∷ 0 ∷ 0 ∷ xs) (numbers_of-zeros n ss))

numbers_of-drop : (n : ℕ) (ss : List State) → numbers_of (drop n ss) ≡ drop (3 * n) (numbers_of ss)
unfolding numbers_of
numbers_of-drop zero ss = refl
numbers_of-drop (suc n) [] = sym (drop-nil (3 * suc n))
numbers_of-drop (suc n) (s ∷ ss) = rw (next-rows n) (numbers_of-drop n ss)

pub numbers_of_cleared : (n : ℕ) (ss : List State) → numbers_of (cleared zero_state n ss) ≡ cleared 0 (3 * n) (numbers_of ss)
numbers_of_cleared n ss =
    ap numbers_of (sym (cleared_front zero_state n ss)) ∙ numbers_of-zeros n (drop n ss) ∙ ap (λ (xs : List ℕ). replicate (3 * n) 0 ++ xs) (numbers_of-drop n ss)
    ∙ cleared_front 0 (3 * n) (numbers_of ss)

-- cleared again, after steps that left alone what lies beyond
cleared-again : {A : Type 0} (z : A) (n : ℕ) (old mid new : List A) → n ≤ length old → length mid ≡ length old → Kept z n old mid → new ≡ cleared z n mid → new ≡ cleared z n old
cleared-again z n old mid new h l k e =
    e ∙ is-filled z n [] old (cleared z n mid) h (length-filled z n [] mid (omega arith) ∙ l) (filled-laid z n [] mid) (λ i q. filled-kept z n [] mid i q ∙ k i q)

module _ {st ws st₁ ws₁ : List ℕ} {cs cs₁ : List ℤ} (a : Cleared st ws cs st₁ ws₁ cs₁) where
  pub cleared-shows : Shows (buffers st ws cs) at_start (buffers st₁ ws₁ cs₁) bare
  unfolding state_numbers numbers Small
  cleared-shows =
      record {
        low_states = omega arith;
        low_variables = omega arith;
        exact = λ q. record {
          states = refl;
          variables = refl;
          clauses = refl;
          keys = λ i. omega arith;
          threes = tt;
          in_states = λ i h. cleared-zero 0 (3 * max_states) st st₁ a.states i h ∙ sym (zeros i);
          in_words = cleared-zero 0 max_variables ws ws₁ a.words;
          in_clauses = cleared-zero (pos 0) (3 * max_clauses) cs cs₁ a.clauses;
        };
        over = λ q. absurd (q refl);
        kept_states = cleared-kept 0 (3 * max_states) st st₁ a.states;
        kept_words = cleared-kept 0 max_variables ws ws₁ a.words;
        kept_clauses = cleared-kept (pos 0) (3 * max_clauses) cs cs₁ a.clauses;
      }
    where
      zeros : (i : ℕ) → ◌≡◌ {A = ℕ} (get_or (0 ∷ 0 ∷ 0 ∷ []) i 0) 0
      zeros zero = refl
      zeros (suc zero) = refl
      zeros (suc (suc zero)) = refl
      zeros (suc (suc (suc i))) = refl

  pub cleared-low : Low st₁
  cleared-low i h = rw (cleared-zero 0 (3 * max_states) st st₁ a.states i h) (omega arith)

  pub cleared-parents : Parents 1 1 st₁
  cleared-parents j h = rw (cleared-zero 0 (3 * max_states) st st₁ a.states (3 * j) (omega arith)) (omega arith)

-- the two ends
module _ {st ws st₁ ws₁ : List ℕ} {cs cs₁ : List ℤ} {c : Tally} {B : def.Build} (long : Long st ws cs) (ls : length st₁ ≡ length st) (lw : length ws₁ ≡ length ws) (lc : length cs₁ ≡ length cs)
    (sh : Shows (buffers st ws cs) c (buffers st₁ ws₁ cs₁) B) where
  pub filled-whole : Room c → c.over ≡ 0 → {r : Build} → r ≡ record { states = c.states; variables = c.variables; clauses = c.clauses } → Filled B st ws cs st₁ ws₁ cs₁ (Ok r)
  unfolding built_of
  filled-whole room off {r} e =
      let x = sh.exact off in
      let f = exact-fits c (buffers st₁ ws₁ cs₁) B room x in
      record {
        gives = rw f (ap Ok (e ∙ (λ i. record { states = x.states i; variables = x.variables i; clauses = x.clauses i })));
        in_states = rw f (is-filled 0 (3 * max_states) (state_buffer B) st st₁ long.0 ls x.in_states sh.kept_states);
        in_words = rw f (is-filled 0 max_variables (word_buffer B) ws ws₁ long.1 lw x.in_words sh.kept_words);
        in_clauses = rw f (is-filled (pos 0) (3 * max_clauses) (clause_buffer B) cs cs₁ long.2 lc x.in_clauses sh.kept_clauses);
      }

  pub filled-over : (c.over ≡ 0 → ⊥) → {st₂ ws₂ : List ℕ} {cs₂ : List ℤ} → Cleared st₁ ws₁ cs₁ st₂ ws₂ cs₂ → (v : Oversized) → Filled B st ws cs st₂ ws₂ cs₂ (Err v)
  unfolding built_of
  filled-over on {st₂} {ws₂} {cs₂} a v =
      let f = sh.over on in
      record {
        gives = rw f refl;
        in_states = rw f (cleared-again 0 (3 * max_states) st st₁ st₂ long.0 ls sh.kept_states a.states);
        in_words = rw f (cleared-again 0 max_variables ws ws₁ ws₂ long.1 lw sh.kept_words a.words);
        in_clauses = rw f (cleared-again (pos 0) (3 * max_clauses) cs cs₁ cs₂ long.2 lc sh.kept_clauses a.clauses);
      }
