-- The signed formulas of a table are a grammar for its build: what is asked for is good, and ranks fall to the parts. Assumes nothing.
use Prim.Native.Nat.{ℕ, zero, suc, ◌≤◌, ◌<◌}
use native.Mathlib.Omega.{arith}
use mathlib.Core.Path.{◌≡◌, refl}
use mathlib.Core.Bool.{Bool, true, false, not}
use mathlib.Core.List.{List}
use lib.ListN.{length}
use Rattle.logic.specs.Table.{Node, atom, neg, and, or, imp, box, dia, children, Kids, Below, kids-map, node}
use Rattle.signed.specs.Signed.{Key, atomic, solid, Ask, stripped, signed, Class, leaf, conjunctive, disjunctive, existential, universal, class, classed}
use Rattle.signed.proofs.Signed.{signed-step}
use Rattle.encoding.specs.Build.{plan}
use Rattle.encoding.proofs.Facts.{Parts, Signs, Grammar}

abbrev pub Solid : Node → Type 0
Solid (atom a) = ⊥
Solid (neg c) = ⊥
Solid (and c d) = Unit {0}
Solid (or c d) = Unit {0}
Solid (imp c d) = Unit {0}
Solid (box r c) = Unit {0}
Solid (dia r c) = Unit {0}

module _ (ns : List Node) (below : Below ns) where
  -- what may be asked for: an atom of the table, or a node that is neither atom nor "not", and then not under minus
  abbrev pub GoodAt : Bool → Key → Type 0
  GoodAt m (atomic a) = (i : ℕ) × (i < length ns) × (node ns i ≡ atom a)
  GoodAt m (solid i s) = (i < length ns) × Solid (node ns i) × (m ≡ false)

  abbrev pub Good : Ask → Type 0
  Good l = GoodAt l.minus l.key

  -- the number that falls from a formula to its parts
  abbrev pub rank : Key → ℕ
  rank (atomic a) = 0
  rank (solid i s) = i

  -- what is asked for of a signed formula is good, and its rank is at most its node
  abbrev pub Fine : ℕ → Ask → Type 0
  Fine i l = Good l × rank l.key ≤ i

  pub fine : (f i : ℕ) (s : Bool) → i < f → i < length ns → Fine i (signed ns i s)
  unfolding stripped children
  fine zero i s h k = absurd (omega arith)
  fine (suc f) i s h k = rw (signed-step ns below i s) (go (λ c t q. fine f c t (omega arith) (omega arith)) (node ns i) refl (below i))
    where
      go : ((c : ℕ) (t : Bool) → c < i → Fine c (signed ns c t)) → (n : Node) → node ns i ≡ n → Kids (λ c. c < i) n → Fine i (stripped i (children (signed ns) n) s)
      go ih (atom a) e q = ((i, k, e), omega arith)
      go ih (neg c) e q = let r = ih c (not s) q in (r.0, omega (arith, r.1))
      go ih (and c d) e q = ((k, rw e tt, refl), omega arith)
      go ih (or c d) e q = ((k, rw e tt, refl), omega arith)
      go ih (imp c d) e q = ((k, rw e tt, refl), omega arith)
      go ih (box r c) e q = ((k, rw e tt, refl), omega arith)
      go ih (dia r c) e q = ((k, rw e tt, refl), omega arith)

  pub class-parts : (P : Ask → Type 0) (s : Bool) (n : Node) → Kids (λ c. (t : Bool) → P (signed ns c t)) n → Parts P (class s (children (signed ns) n))
  unfolding Parts class children
  class-parts P s (atom a) h = tt
  class-parts P s (neg c) h = tt
  class-parts P false (and c d) h = (h.0 false, h.1 false)
  class-parts P true (and c d) h = (h.0 true, h.1 true)
  class-parts P false (or c d) h = (h.0 false, h.1 false)
  class-parts P true (or c d) h = (h.0 true, h.1 true)
  class-parts P false (imp c d) h = (h.0 true, h.1 false)
  class-parts P true (imp c d) h = (h.0 false, h.1 true)
  class-parts P false (box r c) h = h false
  class-parts P true (box r c) h = h true
  class-parts P false (dia r c) h = h false
  class-parts P true (dia r c) h = h true

  -- the class of what is asked for, by its key
  abbrev pub class_at : Bool → Key → Class
  class_at m k = classed ns (record { minus = m; key = k })

  pub parts_at : (m : Bool) (k : Key) → GoodAt m k → Parts (λ l. Good l × rank l.key < rank k) (class_at m k)
  unfolding Parts classed
  parts_at m (atomic a) g = tt
  parts_at m (solid i s) g =
      class-parts _ s (node ns i) (kids-map (λ c h t. let r = fine (suc c) c t (omega arith) (omega (arith, g.0)) in (r.0, omega (arith, r.1))) (node ns i) (below i))

  pub signs_at : (m : Bool) (k : Key) → GoodAt m k → Signs m (class_at m k)
  unfolding Signs classed
  signs_at m (atomic a) g = tt
  signs_at m (solid i s) g = any (class s (children (signed ns) (node ns i))) g.2
    where
      any : (C : Class) → m ≡ false → Signs m C
      any leaf q = tt
      any (conjunctive k l) q = q
      any (disjunctive k l) q = q
      any (existential r l) q = q
      any (universal r l) q = q

  pub signless_at : (m : Bool) (k : Key) → GoodAt m k → GoodAt false k
  signless_at m (atomic a) g = g
  signless_at m (solid i s) g = (g.0, g.1, refl)

  bounded_at : (m : Bool) (k : Key) → GoodAt m k → rank k < length ns
  bounded_at m (atomic a) g = omega (arith, g.1)
  bounded_at m (solid i s) g = g.0

  pub bounded : (l : Ask) → Good l → rank l.key < length ns
  bounded l = bounded_at l.minus l.key

  module _ (root : ℕ) (inside : root < length ns) where
    abbrev pub grammar : Grammar (plan ns root)
    grammar =
        record {
          Good = Good;
          rank = rank;
          first = (fine (suc root) root false (omega arith) inside).0;
          bound = bounded;
          parts = λ l. parts_at l.minus l.key;
          signs = λ l. signs_at l.minus l.key;
          signless = λ l. signless_at l.minus l.key;
        }
