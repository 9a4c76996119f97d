-- The loops of a build. Where the code stands at place j it shows what the definition's scan gives at j: at the places that it passes over the scan
-- does nothing. It ends where the definition ends. Assumes nothing.
use Prim.Native.Nat.{ℕ, suc, ◌+◌, ◌≤◌, ◌<◌}
use native.Mathlib.Omega.{arith}
use native.Mathlib.Numerals.{add-one}
use native.Mathlib.Decide.{ℕ_discrete}
use mathlib.Core.Path.{◌≡◌, sym, subst}
use mathlib.Core.List.{List}
use lib.IntN.{ℤ}
use Rattle.logic.specs.Table.{Node}
use Rattle.encoding.specs.Build as def
use Rattle.encoding.specs.Build.{Plan, plan, variables#, novariable, scan, by, rule1, rule2, rule3, phase1, phase2, phase3, expand}
use Rattle.encoding.specs.Shows.{Low, Room, Buffers, buffers, Shows, Parents}
use Rattle.encoding.specs.Shows.{Tally}
use Rattle.encoding.proofs.Steps.{over-stays, next-then}
use Rattle.encoding.proofs.Settling.{Due, Settles}
use Rattle.encoding.proofs.Skipping as skipping
use Rattle.rules.specs.Does.{Does, Making, Pushing}
use Rattle.build.specs.Steps.{Settling, Expands}
use Rattle.rules.proofs.Moving.{stays-refl, strangers}

-- one turn more was due
pub due-more : (f : ℕ → def.Build → def.Build) (size : def.Build → ℕ) (k : ℕ) (B : def.Build) → Due f size k B → k < size (scan f k 0 B) → Due f size (k + 1) B
due-more f size k B due h u q = go (ℕ_discrete u k)
  where
    go : Dec (u ≡ k) → u < size (scan f u 0 B)
    go (yes e) = rw e h
    go (no e) = due u (omega arith)

-- all states have other parents: phase 3 does nothing
pub childless : {s n : ℕ} {ns : List Node} {c : Tally} {b : Buffers} → Room c → c.over ≡ 0 → c.states ≡ n → Parents n s b.states → Pushing (λ φ. phase3 φ s) ns c c b b
childless {s} {n} {ns} {c} {b} room off e parents =
    record {
      stays = stays-refl c b.words room;
      does = λ root o B sh.
          rw (skipping.phase3_skips (plan ns root) s B (λ j q. strangers s n o c b B room off (omega arith) parents sh j (omega (arith, (sh.exact off).states)))) sh;
    }

-- a growing loop: once over it is over for good; otherwise at its end it has made the result
module _ (f : ℕ → def.Build → def.Build) (size : def.Build → ℕ) (k : ℕ) {o : Buffers} {d : Tally} {b : Buffers} (B R : def.Build) (st : Settles f size B R) (due : Due f size k B) (sh : Shows o d b (scan f k 0 B)) where
  pub settles-over : (d.over ≡ 0 → ⊥) → Shows o d b R
  settles-over e = over-stays o d b (scan f k 0 B) R e (st k due).1 sh

  pub settles : (n : ℕ) → n ≤ k → (d.over ≡ 0 → n ≡ size (scan f k 0 B)) → Shows o d b R
  settles n out is = go (ℕ_discrete d.over 0)
    where
      go : Dec (d.over ≡ 0) → Shows o d b R
      go (no e) = settles-over e
      go (yes e) = let q = is e in subst (λ (C : def.Build). Shows o d b C) ((st k due).0 (omega arith)) sh

-- the three phases of a state
expand-does : (φ : Plan) (j t : ℕ) {c d e r : Tally} {st st₁ ws ws₁ ws₂ ws₃ : List ℕ} {cs cs₁ cs₂ cs₃ : List ℤ} → t ≡ suc j
    → ((o : Buffers) (x : List ℕ) (B R : def.Build) → Settles (by φ (rule1 φ) t) variables# B R → Shows o c (buffers x ws cs) B → Shows o d (buffers x ws₁ cs₁) R)
    → Does d (buffers st ws₁ cs₁) (buffers st₁ ws₂ cs₂) e (phase2 φ t) → Does e (buffers st₁ ws₂ cs₂) (buffers st₁ ws₃ cs₃) r (phase3 φ t)
    → (o : Buffers) (B : def.Build) → Settles (by φ (rule1 φ) (suc j)) variables# B (phase1 φ (suc j) B) → Shows o c (buffers st ws cs) B → Shows o r (buffers st₁ ws₃ cs₃) (expand φ j B)
unfolding expand
expand-does φ j t {c} {d} {e} {r} {st} {st₁} {ws} {ws₁} {ws₂} {ws₃} {cs} {cs₁} {cs₂} {cs₃} tj h₁ h₂ h₃ o B se sh =
    subst (λ (z : ℕ). Shows o r (buffers st₁ ws₃ cs₃) (phase3 φ z (phase2 φ z (phase1 φ z B)))) tj
    (h₃ o _ (h₂ o _ (h₁ o st B (phase1 φ t B) (subst (λ (z : ℕ). Settles (by φ (rule1 φ) z) variables# B (phase1 φ z B)) (sym tj) se) sh)))

module _ (j : ℕ) {ns : List Node} {c d e r : Tally} {st st₁ ws ws₁ ws₂ ws₃ : List ℕ} {cs cs₁ cs₂ cs₃ : List ℤ} where
  pub expands : Settling (j + 1) ns c d ws ws₁ cs cs₁ → Making (j + 1) (λ φ. phase2 φ (j + 1)) ns d e (buffers st ws₁ cs₁) (buffers st₁ ws₂ cs₂)
      → Pushing (λ φ. phase3 φ (j + 1)) ns e r (buffers st₁ ws₂ cs₂) (buffers st₁ ws₃ cs₃) → Low st × Parents c.states (j + 1) st → Expands j ns c r (buffers st ws cs) (buffers st₁ ws₃ cs₃)
  expands one two three low =
      record {
        next = next-then one.stays.next (next-then two.moves.next three.stays.next);
        low = two.moves.made.low low.0;
        parents = λ k h. omega (arith, two.moves.made.parents (λ i g. omega (arith, low.1 i (omega (arith, one.stays.same)))) k (omega (arith, three.stays.same)));
        does = λ root. expand-does (plan ns root) j (j + 1) (add-one j) (one.does root) (two.does root) (three.does root);
      }
