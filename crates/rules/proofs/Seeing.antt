-- The class that the code has read off a word is the class of the variable that stands there, so that each arm of a rule does what the definition's rule
-- does; where an arm does nothing, so does the definition. Assumes nothing.
use Prim.Native.Nat.{ℕ, ◌+◌, ◌/◌, ◌%◌, ◌<◌}
use native.Mathlib.Omega.{arith}
use native.Mathlib.Numerals.{add-one}
use mathlib.Core.Path.{◌≡◌, refl, sym, ap, ◌∙◌, subst}
use mathlib.Core.List.{List}
use borrow.Author.Tests.{eq-eqb}
use lib.IntN.{ℤ}
use lib.ListN.{get_or}
use Rattle.logic.specs.Table.{Node}
use Rattle.book.specs.Rulebook.{table_of}
use Rattle.book.specs.Told.{Sound}
use Rattle.book.proofs.Accepted.{sound-below, sound-atoms}
use Rattle.signed.specs.Signed as class
use Rattle.signed.specs.Signed.{number, plus, classed, leaf, conjunctive, disjunctive, existential, universal}
use Rattle.signed.specs.Asking.{ask_of, class_of, Small, Tame}
use Rattle.signed.specs.declared.Ask.{Ask}
use Rattle.signed.specs.declared.Class.{Class}
use Rattle.signed.specs.declared.Class.TheVariants.{Leaf, Conjunctive, Disjunctive, Existential, Universal}
use Rattle.encoding.specs.Build as def
use Rattle.encoding.specs.Build.{novariable, Plan, plan, role, by, rule1, rule2, rule3}
use Rattle.encoding.specs.Limits.{word}
use Rattle.encoding.specs.Shows.{Buffers, buffers, Tally, counted}
use Rattle.encoding.specs.declared.counts.Counts.{Counts}
use Rattle.encoding.proofs.Steps.{roomy}
use Rattle.encoding.proofs.Facts.{Parts}
use Rattle.encoding.proofs.Bounds.{class-small}
use Rattle.encoding.proofs.Words.{word-state, word-key, word_at}
use Rattle.rules.specs.Does.{Part, Sees, Does, TwoParts, Opens, Pushes, Asking, Making, Pushing}
use Rattle.rules.proofs.Moving.{stays-refl, moves-refl}

-- `role` reads a word: k is its key's number
pub sees_in : (ns : List Node) (v : ℕ) (ws : List ℕ) (k : ℕ) (r : Class) → k ≡ get_or ws v 0 % 2048 → Tame r × ((m : class.Key) → Small m → number m ≡ k → r ≡ class_of (classed ns (plus m))) → Sees ns v ws r
sees_in ns v ws k r e h = record { tame = h.0; is = λ x small q. h.1 x.key small (sym (word-key x small) ∙ ap (λ (z : ℕ). z % 2048) q ∙ sym e) }

abbrev Smalls : class.Class → Type 0
Smalls C = Parts (λ (l : class.Ask). Small l.key) C

-- where the code does nothing, neither does the definition's rule
module _ (φ : Plan) (s u : ℕ) (B : def.Build) (x : Class) where
  idle1 : (C : class.Class) → x ≡ class_of C → ((l m : Ask) → x ≡ Conjunctive l m → ⊥) → ((l m : Ask) → x ≡ Disjunctive l m → ⊥) → rule1 φ s u C B ≡ B
  unfolding rule1 class_of
  idle1 leaf e p q = refl
  idle1 (conjunctive l m) e p q = absurd (p _ _ e)
  idle1 (disjunctive l m) e p q = absurd (q _ _ e)
  idle1 (existential r l) e p q = refl
  idle1 (universal r l) e p q = refl

  idle2 : (C : class.Class) → x ≡ class_of C → ((r : ℕ) (l : Ask) → x ≡ Existential r l → ⊥) → rule2 φ s u C B ≡ B
  unfolding rule2 class_of
  idle2 leaf e p = refl
  idle2 (conjunctive l m) e p = refl
  idle2 (disjunctive l m) e p = refl
  idle2 (existential r l) e p = absurd (p _ _ e)
  idle2 (universal r l) e p = refl

  idle3 : (C : class.Class) → x ≡ class_of C → ((r : ℕ) (l : Ask) → x ≡ Universal r l → ⊥) → rule3 φ s u C B ≡ B
  unfolding rule3 class_of
  idle3 leaf e p = refl
  idle3 (conjunctive l m) e p = refl
  idle3 (disjunctive l m) e p = refl
  idle3 (existential r l) e p = refl
  idle3 (universal r l) e p = absurd (p _ _ e)

-- what the definition's class C is where the code sees x: of the same form, with the same parts
abbrev Like : Class → class.Class → Type 0
Like Leaf C = C ≡ leaf
Like (Conjunctive l m) C = (p : class.Ask) × (q : class.Ask) × (C ≡ conjunctive p q) × Part l p × Part m q
Like (Disjunctive l m) C = (p : class.Ask) × (q : class.Ask) × (C ≡ disjunctive p q) × Part l p × Part m q
Like (Existential r l) C = (p : class.Ask) × (C ≡ existential r p) × Part l p
Like (Universal r l) C = (p : class.Ask) × (C ≡ universal r p) × Part l p

part : (p : class.Ask) → Small p.key → Part (ask_of p) p
part p h = record { small = h; is = refl }

alike : (C : class.Class) → Smalls C → Like (class_of C) C
unfolding class_of Parts
alike leaf h = refl
alike (conjunctive p q) h = (p, q, refl, part p h.0, part q h.1)
alike (disjunctive p q) h = (p, q, refl, part p h.0, part q h.1)
alike (existential r p) h = (p, refl, part p h)
alike (universal r p) h = (p, refl, part p h)

-- the arms of the three rules: x is the class that was seen of the variable at place u, one of state s
module _ {bs : List ℕ} {offset : ℕ} (sound : Sound bs offset) {s u : ℕ} (k : Counts) {ws : List ℕ} (low : u < k.variables) (own : get_or ws u 0 / 2048 ≡ s) {x : Class}
    (sees : Sees (table_of bs) u ws x) where
  seen : (rule : Plan → ℕ → ℕ → class.Class → def.Build → def.Build) (root : ℕ) {st : List ℕ} {cs : List ℤ} {b : Buffers} {r : Tally}
      → ((C : class.Class) → x ≡ class_of C → Smalls C → Does (counted k) (buffers st ws cs) b r (rule (plan (table_of bs) root) s u C)) → Does (counted k) (buffers st ws cs) b r (by (plan (table_of bs) root) (rule (plan (table_of bs) root)) s u)
  unfolding by role
  seen rule root f o B sh =
      let y = sh.exact refl in
      let e = get_or B.variables u novariable in
      let w : word e ≡ get_or ws u 0 = sym (word_at B.variables ws (omega (arith, k.few_variables, y.variables)) y.in_words u (omega (arith, y.variables))) in
      let p : e.state ≡ s = sym (word-state e (y.keys u)) ∙ ap (λ (z : ℕ). z / 2048) w ∙ own in
      rw (eq-eqb e.state s p)
      (f (classed (table_of bs) (plus e.key)) (sees.is e (y.keys u) w) (class-small (table_of bs) (sound-below bs offset sound) sound.few (sound-atoms bs offset sound) e.key) o B sh)

  -- an arm for the class y: what is done to each class like it
  arm : (rule : Plan → ℕ → ℕ → class.Class → def.Build → def.Build) (root : ℕ) {st : List ℕ} {cs : List ℤ} {b : Buffers} {r : Tally} (y : Class) → x ≡ y
      → ((C : class.Class) → Like y C → Does (counted k) (buffers st ws cs) b r (rule (plan (table_of bs) root) s u C)) → Does (counted k) (buffers st ws cs) b r (by (plan (table_of bs) root) (rule (plan (table_of bs) root)) s u)
  arm rule root y g f = seen rule root (λ C e h. f C (subst (λ (z : Class). Like z C) (sym e ∙ g) (alike C h)))

  module _ {r : Tally} {cs cs' : List ℤ} {ws' : List ℕ} where
    pub arm_conjunctive : {l m : Ask} → x ≡ Conjunctive l m → TwoParts conjunctive s (u + 1) l m (counted k) r ws ws' cs cs' → Asking (λ φ. by φ (rule1 φ) s u) (table_of bs) (counted k) r ws ws' cs cs'
    arm_conjunctive {l} {m} g f =
        record { stays = f.stays; does = λ root st. arm rule1 root (Conjunctive l m) g (λ C i. rw i.2 (f.does (plan (table_of bs) root) u i.0 i.1 i.3 i.4 (add-one u) st)) }

    pub arm_disjunctive : {l m : Ask} → x ≡ Disjunctive l m → TwoParts disjunctive s (u + 1) l m (counted k) r ws ws' cs cs' → Asking (λ φ. by φ (rule1 φ) s u) (table_of bs) (counted k) r ws ws' cs cs'
    arm_disjunctive {l} {m} g f =
        record { stays = f.stays; does = λ root st. arm rule1 root (Disjunctive l m) g (λ C i. rw i.2 (f.does (plan (table_of bs) root) u i.0 i.1 i.3 i.4 (add-one u) st)) }

    pub arm_existential : {st st' : List ℕ} {q : ℕ} {l : Ask} → x ≡ Existential q l → Opens s (u + 1) q l (counted k) r (buffers st ws cs) (buffers st' ws' cs')
        → Making s (λ φ. by φ (rule2 φ) s u) (table_of bs) (counted k) r (buffers st ws cs) (buffers st' ws' cs')
    arm_existential {q = q} {l = l} g f = record { moves = f.moves; does = λ root. arm rule2 root (Existential q l) g (λ C i. rw i.1 (f.does (plan (table_of bs) root) u i.0 i.2 (add-one u))) }

    pub arm_universal : {st : List ℕ} {q : ℕ} {l : Ask} → x ≡ Universal q l → Pushes (λ φ v p. rule3 φ s v (universal q p)) (u + 1) l (counted k) r (buffers st ws cs) (buffers st ws' cs')
        → Pushing (λ φ. by φ (rule3 φ) s u) (table_of bs) (counted k) r (buffers st ws cs) (buffers st ws' cs')
    arm_universal {q = q} {l = l} g f = record { stays = f.stays; does = λ root. arm rule3 root (Universal q l) g (λ C i. rw i.1 (f.does (plan (table_of bs) root) u i.0 i.2 (add-one u))) }

  -- an arm that does nothing
  rests : (rule : Plan → ℕ → ℕ → class.Class → def.Build → def.Build) (root : ℕ) {st : List ℕ} {cs : List ℤ} → ((B : def.Build) (C : class.Class) → x ≡ class_of C → rule (plan (table_of bs) root) s u C B ≡ B)
      → Does (counted k) (buffers st ws cs) (buffers st ws cs) (counted k) (by (plan (table_of bs) root) (rule (plan (table_of bs) root)) s u)
  rests rule root f = seen rule root (λ C e h o B sh. rw (f B C e) sh)

  pub rests1 : {cs : List ℤ} → ((l m : Ask) → x ≡ Conjunctive l m → ⊥) → ((l m : Ask) → x ≡ Disjunctive l m → ⊥) → Asking (λ φ. by φ (rule1 φ) s u) (table_of bs) (counted k) (counted k) ws ws cs cs
  rests1 p q = record { stays = stays-refl (counted k) ws (roomy k); does = λ root st. rests rule1 root (λ B C e. idle1 (plan (table_of bs) root) s u B x C e p q) }

  pub rests2 : {st : List ℕ} {cs : List ℤ} → ((r : ℕ) (l : Ask) → x ≡ Existential r l → ⊥) → Making s (λ φ. by φ (rule2 φ) s u) (table_of bs) (counted k) (counted k) (buffers st ws cs) (buffers st ws cs)
  rests2 {st} p = record { moves = moves-refl s (counted k) st ws (roomy k); does = λ root. rests rule2 root (λ B C e. idle2 (plan (table_of bs) root) s u B x C e p) }

  pub rests3 : {st : List ℕ} {cs : List ℤ} → ((r : ℕ) (l : Ask) → x ≡ Universal r l → ⊥) → Pushing (λ φ. by φ (rule3 φ) s u) (table_of bs) (counted k) (counted k) (buffers st ws cs) (buffers st ws cs)
  rests3 p = record { stays = stays-refl (counted k) ws (roomy k); does = λ root. rests rule3 root (λ B C e. idle3 (plan (table_of bs) root) s u B x C e p) }

-- the parts of what was seen can be asked for
pub tame_of : {ns : List Node} {u : ℕ} {ws : List ℕ} {x y : Class} → Sees ns u ws x → x ≡ y → Tame y
tame_of sees e = subst Tame e sees.tame
