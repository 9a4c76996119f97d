-- What is asked for means what its signed formula says, in any structure whose truth is two-valued. Assumes nothing.
use Prim.Native.Nat.{ℕ, zero, suc, ◌<◌}
use native.Mathlib.Omega.{arith}
use mathlib.Core.Path.{◌≡◌, refl, ap, ◌∙◌}
use mathlib.Core.Logic.{◌⊎◌, inl, inr, ◌↔◌}
use mathlib.Core.Bool.{Bool, true, false, not}
use mathlib.Core.List.{List}
use lib.Dec.{T}
use lib.ListN.{length}
use Rattle.ground.proofs.Tests.{true-false}
use Rattle.logic.specs.Table.{Node, atom, neg, and, or, imp, box, dia, children, Kids, Below, kids-map, node, at-step}
use Rattle.logic.specs.Truth.{Structure, Meaning, Holds, TwoValued}
use Rattle.signed.specs.Signed.{Key, atomic, solid, Ask, stripped, signed, class, classed}
use Rattle.signed.proofs.Signed.{signed-step}
use Rattle.encoding.proofs.Formulas.{Solid, GoodAt, Good, class_at}
use Rattle.meaning.proofs.Sound.{Says}
use Rattle.meaning.proofs.Complete.{Gives}

abbrev pub Signed {ℓ} : {W : Type ℓ} → (W → Type 0) → Bool → W → Type 0
Signed P false w = P w
Signed P true w = ¬ P w

module _ (ns : List Node) (below : Below ns) where
  -- meaning, where each node is true or not true
  module _ (M : Structure) (two : TwoValued M ns) where
    abbrev pub SemAt : Bool → Key → M.U → Type 0
    SemAt false (atomic a) w = T (M.L a w)
    SemAt true (atomic a) w = ¬ T (M.L a w)
    SemAt false (solid i s) w = Signed (Holds M ns i) s w
    SemAt true (solid i s) w = Signed (Holds M ns i) (not s) w

    abbrev pub sem : Ask → M.U → Type 0
    sem l w = SemAt l.minus l.key w

    holds_at : (i : ℕ) (n : Node) → node ns i ≡ n → Holds M ns i ≡ Meaning M i (children (Holds M ns) n)
    unfolding Holds
    holds_at i n e = at-step (Meaning M) ns below i ∙ ap (λ n. Meaning M i (children (Holds M ns) n)) e

    stable : (i : ℕ) → i < length ns → (w : M.U) → ¬ ¬ Holds M ns i w → Holds M ns i w
    stable i h w x = elim (two i h w) [ yes y ↦ y | no y ↦ absurd (x y) ]

    -- a literal's meaning is the signed formula's
    pub lit-means : (f i : ℕ) (s : Bool) (w : M.U) → i < f → i < length ns → sem (signed ns i s) w ↔ Signed (Holds M ns i) s w
    unfolding stripped children Meaning
    lit-means zero i s w h k = absurd (omega arith)
    lit-means (suc f) i s w h k = rw (signed-step ns below i s) (go (λ c t p. lit-means f c t w (omega arith) (omega arith)) (node ns i) refl (below i) s)
      where
        go : ((c : ℕ) (t : Bool) → c < i → sem (signed ns c t) w ↔ Signed (Holds M ns c) t w) → (n : Node) → node ns i ≡ n → Kids (λ c. c < i) n
            → (s : Bool) → sem (stripped i (children (signed ns) n) s) w ↔ Signed (Holds M ns i) s w
        go ih (atom a) e l false = rw (holds_at i (atom a) e) (λ x. x, λ x. x)
        go ih (atom a) e l true = rw (holds_at i (atom a) e) (λ x. x, λ x. x)
        go ih (neg c) e l false = rw (holds_at i (neg c) e) ((ih c true l).0, (ih c true l).1)
        go ih (neg c) e l true = rw (holds_at i (neg c) e) (λ x y. y ((ih c false l).0 x), λ x. (ih c false l).1 (stable c (omega arith) w x))
        go ih (and c d) e l s = (λ x. x, λ x. x)
        go ih (or c d) e l s = (λ x. x, λ x. x)
        go ih (imp c d) e l s = (λ x. x, λ x. x)
        go ih (box r c) e l s = (λ x. x, λ x. x)
        go ih (dia r c) e l s = (λ x. x, λ x. x)

    part : (c : ℕ) (t : Bool) (v : M.U) → c < length ns → sem (signed ns c t) v ↔ Signed (Holds M ns c) t v
    part c t v h = lit-means (suc c) c t v (omega arith) h

    -- what a class says of its parts makes the signed formula true
    whole-solid : (i : ℕ) (s : Bool) (at : Type 0) (w : M.U) → i < length ns → Solid (node ns i) → Says M sem at w (class s (children (signed ns) (node ns i))) → Signed (Holds M ns i) s w
    unfolding class children Meaning Says
    whole-solid i s at w k g q = rw (holds_at i (node ns i) refl) (go (node ns i) s g (kids-map (λ c h. omega arith) (node ns i) (below i)) q)
      where
        go : (n : Node) (s : Bool) → Solid n → Kids (λ c. c < length ns) n → Says M sem at w (class s (children (signed ns) n)) → Signed (Meaning M i (children (Holds M ns) n)) s w
        go (atom a) s g l q = absurd g
        go (neg c) s g l q = absurd g
        go (and c d) false g l q = ((part c false w l.0).0 q.0, (part d false w l.1).0 q.1)
        go (and c d) true g l (inl q) = λ h. (part c true w l.0).0 q h.0
        go (and c d) true g l (inr q) = λ h. (part d true w l.1).0 q h.1
        go (or c d) false g l (inl q) = inl ((part c false w l.0).0 q)
        go (or c d) false g l (inr q) = inr ((part d false w l.1).0 q)
        go (or c d) true g l q = λ h. elim h [ inl x ↦ (part c true w l.0).0 q.0 x | inr x ↦ (part d true w l.1).0 q.1 x ]
        go (imp c d) false g l (inl q) = λ h. absurd ((part c true w l.0).0 q h)
        go (imp c d) false g l (inr q) = λ h. (part d false w l.1).0 q
        go (imp c d) true g l q = λ h. (part d true w l.1).0 q.1 (h ((part c false w l.0).0 q.0))
        go (box r c) false g l q = λ v e. (part c false v l).0 (q v e)
        go (box r c) true g l q = λ h. (part c true q.0 l).0 q.2 (h q.0 q.1)
        go (dia r c) false g l q = (q.0, q.1, (part c false q.0 l).0 q.2)
        go (dia r c) true g l q = λ h. (part c true h.0 l).0 (q h.0 h.1) h.2

    pub whole-sound : (m : Bool) (i : ℕ) (s : Bool) (at : Type 0) (w : M.U) → GoodAt ns below m (solid i s) → Says M sem at w (class_at ns below m (solid i s)) → SemAt m (solid i s) w
    unfolding classed
    whole-sound false i s at w g q = whole-solid i s at w g.0 g.1 q
    whole-sound true i s at w g q = absurd (true-false g.2)

    -- and the other way
    parts_give : (i : ℕ) (s : Bool) (w : M.U) → i < length ns → Signed (Holds M ns i) s w → Gives M sem w (class s (children (signed ns) (node ns i)))
    unfolding class children Meaning Gives
    parts_give i s w k q = go (node ns i) s (kids-map (λ c h. omega arith) (node ns i) (below i)) (rw (holds_at i (node ns i) refl) at q)
      where
        go : (n : Node) (s : Bool) → Kids (λ c. c < length ns) n → Signed (Meaning M i (children (Holds M ns) n)) s w → Gives M sem w (class s (children (signed ns) n))
        go (atom a) s l q = tt
        go (neg c) s l q = tt
        go (and c d) false l q = ((part c false w l.0).1 q.0, (part d false w l.1).1 q.1)
        go (and c d) true l q = elim (two c l.0 w) [ yes x ↦ inr ((part d true w l.1).1 (λ y. q (x, y))) | no x ↦ inl ((part c true w l.0).1 x) ]
        go (or c d) false l (inl q) = inl ((part c false w l.0).1 q)
        go (or c d) false l (inr q) = inr ((part d false w l.1).1 q)
        go (or c d) true l q = ((part c true w l.0).1 (λ x. q (inl x)), (part d true w l.1).1 (λ x. q (inr x)))
        go (imp c d) false l q = elim (two c l.0 w) [ yes x ↦ inr ((part d false w l.1).1 (q x)) | no x ↦ inl ((part c true w l.0).1 x) ]
        go (imp c d) true l q = ((part c false w l.0).1 (stable c l.0 w (λ x. q (λ y. absurd (x y)))), (part d true w l.1).1 (λ x. q (λ y. x)))
        go (box r c) false l q = λ v e. (part c false v l).1 (q v e)
        go (box r c) true l q = λ none'. q (λ v e. stable c l v (λ x. none' (v, e, (part c true v l).1 x)))
        go (dia r c) false l q = λ none'. none' (q.0, q.1, (part c false q.0 l).1 q.2)
        go (dia r c) true l q = λ v e. (part c true v l).1 (λ x. q (v, e, x))

    gives_at : (m : Bool) (k : Key) → GoodAt ns below m k → (w : M.U) → SemAt m k w → Gives M sem w (class_at ns below m k)
    unfolding classed Gives
    gives_at m (atomic a) g w q = tt
    gives_at false (solid i s) g w q = parts_give i s w g.0 q
    gives_at true (solid i s) g w q = absurd (true-false g.2)

    pub gives : (l : Ask) → Good ns below l → (w : M.U) → sem l w → Gives M sem w (classed ns l)
    gives l = gives_at l.minus l.key

    pub dec : (k : Key) → GoodAt ns below false k → (w : M.U) → SemAt false k w ⊎ SemAt true k w
    unfolding Meaning children
    dec (atomic a) g w = elim (rw (holds_at g.0 (atom a) g.2) at (two g.0 g.1 w)) [ yes x ↦ inl x | no x ↦ inr x ]
    dec (solid i false) g w = elim (two i g.0 w) [ yes x ↦ inl x | no x ↦ inr x ]
    dec (solid i true) g w = elim (two i g.0 w) [ yes x ↦ inr x | no x ↦ inl x ]

    pub apart : (k : Key) (w : M.U) → SemAt false k w → SemAt true k w → ⊥
    apart (atomic a) w x y = y x
    apart (solid i false) w x y = y x
    apart (solid i true) w x y = x y
