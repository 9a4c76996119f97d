use mathlib.Core.Path.{◌≡◌, refl, sym, ap, ◌∙◌}
use mathlib.Core.List.{List, [], ◌∷◌}
use Prim.Native.Nat.{ℕ, zero, suc, ◌+◌, ◌<◌}
use native.Mathlib.Nat.{le_of_suc-le-suc, not-suc-le-zero}
use native.Mathlib.Numerals.{add-one}
use lib.ListN.{length, get_or, set}
use Rattle.branching.proofs.finish.Goals as goal
use Rattle.branching.proofs.finish.Invariants.{rest, part}

part-more : (f : ℕ → ℕ) (i : ℕ) (l : List ℕ) → i < length l → set (part f i l) i (f (get_or (part f i l) i 0)) ≡ part f (i + 1) l
part-more f i l h = go i l h ∙ ap (λ (k : ℕ). part f k l) (sym (add-one i))
  where
    go : (i : ℕ) (l : List ℕ) → i < length l → set (part f i l) i (f (get_or (part f i l) i 0)) ≡ part f (suc i) l
    go i [] h = absurd (not-suc-le-zero h)
    go zero (x ∷ l) h = refl
    go (suc i) (x ∷ l) h = ap (λ (t : List ℕ). f x ∷ t) (go i l (le_of_suc-le-suc h))

pub loop-x-preserved : goal.loop-x-preserved
loop-x-preserved c =
    ap (λ (l : List ℕ). set l c.loop-x.x-index (rest (get_or l c.loop-x.x-index 0))) c.loop-x.invariant
    ∙ part-more rest c.loop-x.x-index c.args.values.now c.loop-x-test.true
