-- From what the build and the search leave in the buffers to what the definition says that they hold. Assumes nothing.
use Prim.Native.Nat.{ℕ, ◌*◌, ◌<◌}
use native.Mathlib.Omega.{arith}
use mathlib.Core.Path.{◌≡◌, refl, sym, ap, ◌∙◌, subst}
use mathlib.Core.Bool.{Bool, true, false, cond}
use mathlib.Core.List.{List, [], ◌++◌}
use lib.IntN.{ℤ, pos}
use lib.ListN.{length, take, drop, replicate, length-replicate}
use Rattle.ground.specs.Buffer.{filled, cleared}
use Rattle.ground.proofs.Buffers.{length-filled, take-filled, zeros-filled, over-cleared}
use Rattle.clauses.specs.Clause.{triples}
use Rattle.clauses.proofs.Numbers.{length-numbers, triples-numbers}
use Rattle.book.specs.Rulebook.{table_of}
use Rattle.book.specs.Told.{Sound}
use Rattle.book.proofs.Accepted.{sound-below}
use Rattle.encoding.specs.Build.{Build, built, variables#, clauses#}
use Rattle.encoding.specs.Limits.{max_states, max_variables, max_clauses, oversized, state_buffer, word_buffer, clause_buffer}
use Rattle.encoding.specs.declared.counts.Build as counts
use Rattle.encoding.proofs.Bounds.{clauses-range, clauses-threes}
use Rattle.build.specs.Filled.{Filled, built_of, totals}
use Rattle.std.specs.Prelude.{Result, Ok, Err}
use Rattle.build.specs.declared.Oversized as fill
use Rattle.search.specs.Search.{run, left}
use Rattle.meaning.specs.Answers.{refusal, searched, judged}
use Rattle.checker.specs.Checked.{max_work, Lent, lent, enough, holding, leaving, finished, told}
use Rattle.checker.specs.Steps.{run_of, decided, space, Decided, Searchable}
use Rattle.checker.specs.declared.Answer as code
use Rattle.book.specs.declared.refusal.NoAnswer.TheVariants.{Oversized}
use Rattle.checker.proofs.Promising.{enough-is, Within, within, finished-over, finished-whole, length-left}

-- ---- what `fill` answered
whole_is : (B : Build) (b : counts.Build) → Ok b ≡ built_of B → (oversized B ≡ false) × (b ≡ totals B)
unfolding built_of
whole_is B b e = go (oversized B) refl e
  where
    go : (f : Bool) → oversized B ≡ f → ◌≡◌ {A = Result counts.Build fill.Oversized} (Ok b) (cond f (Err (record {})) (Ok (totals B))) → (oversized B ≡ false) × (b ≡ totals B)
    go true q e = let z : ◌≡◌ {A = ℕ} 0 1 = cc in absurd (omega arith)
    go false q e = (q, cc)

over-is : (B : Build) (o : fill.Oversized) → Err o ≡ built_of B → oversized B ≡ true
unfolding built_of
over-is B o e = go (oversized B) refl e
  where
    go : (f : Bool) → oversized B ≡ f → ◌≡◌ {A = Result counts.Build fill.Oversized} (Err o) (cond f (Err (record {})) (Ok (totals B))) → oversized B ≡ true
    go true q e = q
    go false q e = let z : ◌≡◌ {A = ℕ} 0 1 = cc in absurd (omega arith)

module _ {bs : List ℕ} {offset : ℕ} (sound : Sound bs offset) (root : ℕ) (root_in : root < length (table_of bs)) (o : Lent) (sizes : enough o ≡ true) (budget : ℕ) where
  abbrev B : Build
  B = built (table_of bs) root

  abbrev vs₁ : List ℕ
  vs₁ = cleared 0 max_variables o.values

  abbrev wk₁ : List ℕ
  wk₁ = cleared 0 max_work o.work

  module _ {st ws : List ℕ} {cs : List ℤ} {x : Result counts.Build fill.Oversized} (f : Filled B o.states o.words o.clauses st ws cs x) where
    -- 15
    pub judged-over : (v : fill.Oversized) → x ≡ Err v → leaving (told (Err Oversized)) (lent st ws cs vs₁ wk₁) ≡ finished budget B o
    judged-over v e =
        let big = over-is B v (sym e ∙ f.gives) in
        (λ i.
        leaving (refusal 15 0)
        (lent ((f.in_states ∙ ap (λ b. filled 0 (3 * max_states) (cond b [] (state_buffer B)) o.states) big) i)
        ((f.in_words ∙ ap (λ b. filled 0 max_variables (cond b [] (word_buffer B)) o.words) big) i)
        ((f.in_clauses ∙ ap (λ b. filled (pos 0) (3 * max_clauses) (cond b [] (clause_buffer B)) o.clauses) big) i) vs₁ wk₁))
        ∙ sym (finished-over budget B o big)

    module _ {b : counts.Build} (e : x ≡ Ok b) where
      small : oversized B ≡ false
      small = (whole_is B b (sym e ∙ f.gives)).0

      are : b ≡ totals B
      are = (whole_is B b (sym e ∙ f.gives)).1

      abbrev low : Within B
      low = within B small

      below : Rattle.logic.specs.Table.Below (table_of bs)
      below = sound-below bs offset sound

      many : length (clause_buffer B) ≡ 3 * clauses# B
      many = length-numbers B.clauses (clauses-threes (table_of bs) below root root_in)

      in_clauses : cs ≡ filled (pos 0) (3 * max_clauses) (clause_buffer B) o.clauses
      in_clauses = f.in_clauses ∙ ap (λ b. filled (pos 0) (3 * max_clauses) (cond b [] (clause_buffer B)) o.clauses) small

      clauses-are : take (3 * b.clauses) cs ≡ clause_buffer B
      clauses-are =
          ap (λ (d : counts.Build). take (3 * d.clauses) cs) are
          ∙ ap (λ (k : ℕ). take k cs) (sym many)
          ∙ ap (take (length (clause_buffer B))) in_clauses
          ∙ take-filled (pos 0) (3 * max_clauses) (clause_buffer B) o.clauses (omega (arith, many, low.clauses))

      long-clauses : length cs ≡ length o.clauses
      long-clauses = ap length in_clauses ∙ length-filled (pos 0) (3 * max_clauses) (clause_buffer B) o.clauses (enough-is o sizes).clauses

      pub searchable : Searchable b cs vs₁ wk₁
      searchable =
          subst (λ (d : counts.Build). (take (3 * d.clauses) cs ≡ clause_buffer B) → Searchable d cs vs₁ wk₁) (sym are)
          (λ q.
          record {
            ready = rw q (record { long = many; range = clauses-range (table_of bs) below root root_in; small = omega (arith, low.variables); few = omega (arith, low.clauses) });
            clauses = omega (arith, long-clauses, low.clauses, (enough-is o sizes).clauses);
            values = omega (arith, length-filled 0 max_variables [] o.values (enough-is o sizes).values, low.variables, (enough-is o sizes).values);
            work = omega (arith, length-filled 0 max_work [] o.work (enough-is o sizes).work, low.variables, low.clauses, (enough-is o sizes).work);
          })
          clauses-are

      run_is : run_of b cs ≡ searched B
      unfolding searched
      run_is =
          ap (λ (l : List ℤ). run b.variables (triples l)) clauses-are
          ∙ ap (run b.variables) (triples-numbers B.clauses (clauses-threes (table_of bs) below root root_in))
          ∙ ap (λ (d : counts.Build). run d.variables B.clauses) are

      decided-is : decided budget b (run_of b cs) ≡ judged budget B
      unfolding decided judged
      decided-is = λ i. decided budget (are i) (run_is i)

      pub judged-whole : {vs₂ wk₂ : List ℕ} (r : code.Answer) → Decided b budget cs vs₁ wk₁ vs₂ wk₂ r → leaving (told (Ok r)) (lent st ws cs vs₂ wk₂) ≡ finished budget B o
      judged-whole {vs₂} {wk₂} r d =
          (λ i. leaving ((d.answer ∙ decided-is) i) (lent (states i) (words i) (in_clauses i) (values i) (work i)))
          ∙ sym (finished-whole budget B o small)
        where
          states : st ≡ (holding budget B o).states
          states = f.in_states ∙ ap (λ b. filled 0 (3 * max_states) (cond b [] (state_buffer B)) o.states) small

          words : ws ≡ (holding budget B o).words
          words = f.in_words ∙ ap (λ b. filled 0 max_variables (cond b [] (word_buffer B)) o.words) small

          v : b.variables ≡ variables# B
          v = ap (λ (x : counts.Build). x.variables) are

          c : b.clauses ≡ clauses# B
          c = ap (λ (x : counts.Build). x.clauses) are

          values : vs₂ ≡ (holding budget B o).values
          values =
              let l : length (left budget b.variables (searched B)) ≡ b.variables = length-left budget b.variables B v in
              d.values
              ∙ ap (λ (R : Rattle.search.specs.Search.Run). left budget b.variables R ++ drop b.variables vs₁) run_is
              ∙ ap (λ (k : ℕ). left budget b.variables (searched B) ++ drop k vs₁) (sym l)
              ∙ over-cleared 0 max_variables (left budget b.variables (searched B)) o.values (omega (arith, l, v, low.variables)) (enough-is o sizes).values
              ∙ ap (λ (k : ℕ). filled 0 max_variables (left budget k (searched B)) o.values) v

          work : wk₂ ≡ (holding budget B o).work
          work =
              let l : length {A = ℕ} (replicate (space b) 0) ≡ space b = length-replicate (space b) 0 in
              d.work
              ∙ ap (λ (k : ℕ). replicate (space b) 0 ++ drop k wk₁) (sym l)
              ∙ over-cleared 0 max_work (replicate (space b) 0) o.work (omega (arith, l, v, c, low.variables, low.clauses)) (enough-is o sizes).work
              ∙ zeros-filled 0 max_work (space b) o.work (enough-is o sizes).work
