-- The rules, from what asking, writing and making do. A clause that the code makes of a variable and a sign is the one that the definition writes: the
-- variable is the one that was asked for. Assumes nothing.
use Prim.Native.Nat.{ℕ, suc, ◌+◌, ◌*◌, ◌<◌}
use native.Mathlib.Omega.{arith}
use native.Mathlib.Decide.{ℕ_discrete}
use native.Mathlib.Numerals.{add-one}
use mathlib.Core.Path.{◌≡◌, refl, sym, ap, ap₂, ◌∙◌, subst}
use mathlib.Core.Bool.{false, ◌&&◌}
use mathlib.Core.List.{List}
use borrow.Author.Tests.{eq-eqb, ne_eqb}
use lib.Dec.{eqb}
use lib.IntN.{ℤ}
use lib.ListN.{get_or}
use Rattle.ground.proofs.Lists.{length_snoc}
use Rattle.signed.specs.Signed as class
use Rattle.signed.specs.Signed.{number}
use Rattle.signed.specs.declared.Ask.{Ask}
use Rattle.clauses.specs.Clause.{literal, minus, two, three}
use Rattle.encoding.specs.Build as def
use Rattle.encoding.specs.Build.{place, insert, ask, asked, write, make, rule1, rule2, push, norecord, states#}
use Rattle.encoding.specs.Limits.{max_states}
use Rattle.encoding.specs.Shows.{Room, Buffers, buffers, Shows, Asks, Writes, Makes}
use Rattle.encoding.specs.Shows.{Tally}
use Rattle.encoding.specs.Shows.{Reply}
use Rattle.records.specs.declared.State.{State}
use Rattle.records.specs.Table.{row_at}
use Rattle.encoding.proofs.Variables.{place-stays, place_in}
use Rattle.encoding.proofs.Totals.{less_then, ask-less, write-less}
use Rattle.encoding.proofs.Rows.{numbers-at}
use Rattle.encoding.proofs.Steps.{over-stays, next-then, write-next, make-next, made_then, made-counts}
use Rattle.rules.specs.Does.{Part, TwoParts, Opens, Pushes}
use Rattle.rules.proofs.Moving.{stays-refl}

-- a part's number and sign
part-key : (l : Ask) (p : class.Ask) → Part l p → number p.key ≡ l.key
part-key l p h = sym (ap (λ (z : Ask). z.key) h.is)

-- the literal of a part: of the variable that it was asked under
literal-asked : (l : Ask) (p : class.Ask) → Part l p → (s x : ℕ) (A : def.Build) → x ≡ suc (place s p.key A.variables) → literal l.minus x ≡ asked s p A
unfolding asked
literal-asked l p h s x A e = ap₂ literal (ap (λ (z : Ask). z.minus) h.is) e

-- one asking
module _ {c : Tally} {s : ℕ} {l : Ask} {ws ws' : List ℕ} {x : Reply} (a : Asks c s l.key ws ws' x) (p : class.Ask) (P : Part l p) (o : Buffers) (st : List ℕ) (cs : List ℤ) (B : def.Build)
    (sh : Shows o c (buffers st ws cs) B) where
  pub asks_part : Shows o x.counts (buffers st ws' cs) (ask s p B)
  asks_part = a.does o st cs B p P.small (part-key l p P) sh

  place-part : x.counts.over ≡ 0 → x.variable ≡ suc (place s p.key (ask s p B).variables)
  place-part f = a.named o st cs B p P.small (part-key l p P) sh f

  pub literal-part : x.counts.over ≡ 0 → literal l.minus x.variable ≡ asked s p (ask s p B)
  literal-part f = literal-asked l p P s x.variable (ask s p B) (place-part f)

-- two askings at one state: the first variable stays where it is
module _ {c : Tally} {s : ℕ} {l m : Ask} {ws ws₁ ws₂ : List ℕ} {x y : Reply} (ax : Asks c s l.key ws ws₁ x) (ay : Asks x.counts s m.key ws₁ ws₂ y) (p q : class.Ask) (P : Part l p) (Q : Part m q)
    (o : Buffers) (st : List ℕ) (cs : List ℤ) (B : def.Build) (sh : Shows o c (buffers st ws cs) B) where
  asks_both : Shows o y.counts (buffers st ws₂ cs) (ask s q (ask s p B))
  asks_both = asks_part ay q Q o st cs (ask s p B) (asks_part ax p P o st cs B sh)

  literal-first : y.counts.over ≡ 0 → literal l.minus x.variable ≡ asked s p (ask s q (ask s p B))
  unfolding ask
  literal-first f =
      literal-asked l p P s x.variable (ask s q (ask s p B))
      (place-part ax p P o st cs B sh (ay.next.sticky f) ∙ ap suc (sym (place-stays s p.key s q.key (insert s p.key B.variables) (place_in s p.key B.variables))))

  literal-second : y.counts.over ≡ 0 → literal m.minus y.variable ≡ asked s q (ask s q (ask s p B))
  literal-second f = literal-part ay q Q o st cs (ask s p B) (asks_part ax p P o st cs B sh) f

module _ {c : Tally} {s a : ℕ} {l m : Ask} {ws ws₁ ws₂ : List ℕ} {cs : List ℤ} {x y : Reply} (ax : Asks c s l.key ws ws₁ x) (ay : Asks x.counts s m.key ws₁ ws₂ y) where
  pub conjunctive_does : {cs₁ cs₂ k₁ k₂ : List ℤ} {d e : Tally} → Writes y.counts k₁ cs cs₁ d → Writes d k₂ cs₁ cs₂ e
      → k₁ ≡ two (minus a) (literal l.minus x.variable) → k₂ ≡ two (minus a) (literal m.minus y.variable) → TwoParts class.conjunctive s a l m c e ws ws₂ cs cs₂
  unfolding rule1
  conjunctive_does w₁ w₂ i₁ i₂ =
      record {
        stays = record {
          next = next-then ax.next (next-then ay.next (next-then (write-next w₁ ws₂) (write-next w₂ ws₂)));
          same = w₂.states ∙ w₁.states ∙ ay.same ∙ ax.same;
        };
        does = λ φ v p q P Q av st o B sh.
            let A = ask s q (ask s p B) in
            let k = two (minus (suc v)) (asked s p A) in
            w₂.does o st ws₂ (write k A) (two (minus (suc v)) (asked s q A)) refl (λ f. i₂ ∙ rw (av, literal-second ax ay p q P Q o st cs B sh (w₁.sticky f)))
            (w₁.does o st ws₂ A k refl (λ f. i₁ ∙ rw (av, literal-first ax ay p q P Q o st cs B sh f)) (asks_both ax ay p q P Q o st cs B sh));
      }

  pub disjunctive_does : {cs₁ k : List ℤ} {d : Tally} → Writes y.counts k cs cs₁ d → k ≡ three (minus a) (literal l.minus x.variable) (literal m.minus y.variable)
      → TwoParts class.disjunctive s a l m c d ws ws₂ cs cs₁
  unfolding rule1
  disjunctive_does w i =
      record {
        stays = record { next = next-then ax.next (next-then ay.next (write-next w ws₂)); same = w.states ∙ ay.same ∙ ax.same };
        does = λ φ v p q P Q av st o B sh.
            let A = ask s q (ask s p B) in
            w.does o st ws₂ A (three (minus (suc v)) (asked s p A) (asked s q A)) refl
            (λ f. i ∙ rw (av, literal-first ax ay p q P Q o st cs B sh f, literal-second ax ay p q P Q o st cs B sh f)) (asks_both ax ay p q P Q o st cs B sh);
      }

-- an existential variable
module _ {c d : Tally} {s r a : ℕ} {st st' : List ℕ} (mk : Makes c s r a st st' d) (l : Ask) (ws : List ℕ) (cs : List ℤ) where
  makes : (v : ℕ) → a ≡ suc v → (o : Buffers) (B : def.Build) → Shows o c (buffers st ws cs) B → Shows o d (buffers st' ws cs) (make (record { parent = s; relation = r; maker = suc v }) B)
  makes v av o B sh = subst (λ (z : ℕ). Shows o d (buffers st' ws cs) (make (record { parent = s; relation = r; maker = z }) B)) av (mk.does o ws cs B sh)

  pub existential_over : (d.over ≡ 0 → ⊥) → Opens s a r l c d (buffers st ws cs) (buffers st' ws cs)
  unfolding rule2
  existential_over t =
      record {
        moves = record { next = make-next mk ws; made = mk.made };
        does = λ φ v p P av o B sh.
            let M = make (record { parent = s; relation = r; maker = suc v }) B in
            let n = suc (states# B) in
            let A = ask n p M in
            over-stays o d (buffers st' ws cs) M _ t (less_then M A _ (ask-less n p M) (write-less (two (minus (suc v)) (asked n p A)) A)) (makes v av o B sh);
      }

  next-state : d.over ≡ 0 → (v : ℕ) → a ≡ suc v → (o : Buffers) (B : def.Build) → Shows o c (buffers st ws cs) B → d.states ≡ suc (states# B)
  unfolding make
  next-state f v av o B sh = ((makes v av o B sh).exact f).states ∙ length_snoc B.states (record { parent = s; relation = r; maker = suc v })

  pub existential_does : d.over ≡ 0 → {ws' : List ℕ} {cs' k : List ℤ} {x : Reply} {e : Tally} → Asks d d.states l.key ws ws' x → Writes x.counts k cs cs' e
      → k ≡ two (minus a) (literal l.minus x.variable) → Opens s a r l c e (buffers st ws cs) (buffers st' ws' cs')
  unfolding rule2
  existential_does f {ws'} {cs'} {k} {x} {e} ax w i =
      record {
        moves = record {
          next = next-then (make-next mk ws) (next-then ax.next (write-next w ws'));
          made = made_then mk.states mk.made (made-counts s d e st' (w.states ∙ ax.same));
        };
        does = λ φ v p P av o B sh.
            let M = make (record { parent = s; relation = r; maker = suc v }) B in
            let n = suc (states# B) in
            let A = ask n p M in
            let h = makes v av o B sh in
            let ay : Asks d n l.key ws ws' x = subst (λ (z : ℕ). Asks d z l.key ws ws' x) (next-state f v av o B sh) ax in
            w.does o st' ws' A (two (minus (suc v)) (asked n p A)) refl (λ g. i ∙ rw (av, literal-part ay p P o st' cs M h g)) (asks_part ay p P o st' cs M h);
      }

-- a universal variable and a state
not-both : (a b d e : ℕ) → (a ≡ b → d ≡ e → ⊥) → (eqb a b && eqb d e) ≡ false
not-both a b d e h = go (ℕ_discrete a b) (ℕ_discrete d e)
  where
    go : Dec (a ≡ b) → Dec (d ≡ e) → (eqb a b && eqb d e) ≡ false
    go (yes p) (yes q) = absurd (h p q)
    go (no p) q = rw (ne_eqb a b p)
    go (yes p) (no q) = rw (eq-eqb a b p, ne_eqb d e q)

-- the record that the code reads is the build's
record_shown : (o : Buffers) (c : Tally) (st ws : List ℕ) (cs : List ℤ) (B : def.Build) (j : ℕ) (d : State) → d ≡ row_at st j → c.over ≡ 0 → j < max_states → Shows o c (buffers st ws cs) B
    → (d.parent ≡ (get_or B.states j norecord).parent) × (d.relation ≡ (get_or B.states j norecord).relation) × (d.maker ≡ (get_or B.states j norecord).maker)
record_shown o c st ws cs B j d e off low sh =
    let y = (sh.exact off).in_states in
    let h = numbers-at B.states j in (
      ap (λ (z : State). z.parent) e ∙ y (3 * j) (omega arith) ∙ h.0,
      ap (λ (z : State). z.relation) e ∙ y (3 * j + 1) (omega arith) ∙ h.1,
      ap (λ (z : State). z.maker) e ∙ y (3 * j + 2) (omega arith) ∙ h.2,
    )

module _ {c : Tally} {s r a j : ℕ} {l : Ask} {st ws : List ℕ} {cs : List ℤ} {d : State} (is : d ≡ row_at st j) (room : Room c) (off : c.over ≡ 0) (low : j < c.states) where
  pub push_skips : (d.parent ≡ s → d.relation ≡ r → ⊥) → Pushes (λ φ v p. push φ s v r p j) a l c c (buffers st ws cs) (buffers st ws cs)
  unfolding push
  push_skips out =
      record {
        stays = stays-refl c ws room;
        does = λ φ v p P av o B sh.
            let h = record_shown o c st ws cs B j d is off (omega (arith, room.states)) sh in
            rw (not-both (get_or B.states j norecord).parent s (get_or B.states j norecord).relation r (λ x y. out (h.0 ∙ x) (h.1 ∙ y))) sh;
      }

  pub push-does : d.parent ≡ s → d.relation ≡ r → {ws' : List ℕ} {cs' k : List ℤ} {x : Reply} {e : Tally} → Asks c (j + 1) l.key ws ws' x → Writes x.counts k cs cs' e
      → k ≡ three (minus a) (minus d.maker) (literal l.minus x.variable) → Pushes (λ φ v p. push φ s v r p j) a l c e (buffers st ws cs) (buffers st ws' cs')
  unfolding push
  push-does ep er {ws'} {cs'} {k} {x} {e} ax w i =
      record {
        stays = record { next = next-then ax.next (write-next w ws'); same = w.states ∙ ax.same };
        does = λ φ v p P av o B sh.
            let h = record_shown o c st ws cs B j d is off (omega (arith, room.states)) sh in
            let A = ask (suc j) p B in
            let m = (get_or B.states j norecord).maker in
            let ay : Asks c (suc j) l.key ws ws' x = subst (λ (z : ℕ). Asks c z l.key ws ws' x) (add-one j) ax in
            rw (eq-eqb (get_or B.states j norecord).parent s (sym h.0 ∙ ep), eq-eqb (get_or B.states j norecord).relation r (sym h.1 ∙ er))
            (w.does o st ws' A (three (minus (suc v)) (minus m) (asked (suc j) p A)) refl (λ g. i ∙ rw (av, h.2, literal-part ay p P o st cs B sh g)) (asks_part ay p P o st cs B sh));
      }
