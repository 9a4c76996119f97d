-- A walk over the variables of a state, whatever rule is done at each: it stands at one of them or at its end, and what is shown is what the definition's
-- scan gives at that place, for at the places that it passes over the scan does nothing. Assumes nothing.
use Prim.Native.Nat.{ℕ, suc, ◌+◌, ◌-◌, ◌/◌, ◌≤◌, ◌<◌}
use native.Mathlib.Omega.{arith}
use native.Mathlib.Decide.{ℕ_discrete}
use mathlib.Core.Path.{◌≡◌, refl, ap, ◌∙◌, subst}
use mathlib.Core.List.{List}
use lib.ListN.{get_or}
use Rattle.std.specs.Prelude.{Option, None, Some, MatchOption}
use Rattle.signed.specs.Signed as class
use Rattle.signed.specs.Signed.{leaf}
use Rattle.encoding.specs.Build as def
use Rattle.encoding.specs.Build.{Plan, variables#, novariable, scan, by, rule1, rule2, rule3}
use Rattle.encoding.specs.Index.{Others}
use Rattle.encoding.specs.Shows.{Room, Buffers, Tally, Shows, Next}
use Rattle.encoding.proofs.Loops.{scan_add}
use Rattle.encoding.proofs.Totals.{Less, scan-less, by1_less, by2_less, by3_less}
use Rattle.encoding.proofs.Words.{word_at, word-state}
use Rattle.encoding.proofs.Steps.{over-stays}
use Rattle.encoding.proofs.Settling.{Due, due-upto}
use Rattle.encoding.proofs.Skipping as skipping
use Rattle.rules.specs.Does.{Does}
use Rattle.rules.proofs.Moving.{scan-start, scan_step, scan_over}
use Rattle.build.proofs.Looping.{due-more}

-- what a walk needs of its rule: a leaf is passed over, and nothing is taken away
abbrev pub Rule : Type 0
Rule = Plan → ℕ → ℕ → class.Class → def.Build → def.Build

pub record Walkable (rule : Rule) : Type 0 where
  pub idle : (φ : Plan) (s v : ℕ) (B : def.Build) → rule φ s v leaf B ≡ B
  pub less : (φ : Plan) (s v : ℕ) (B : def.Build) → Less B (by φ (rule φ) s v B)

pub walks1 : Walkable rule1
walks1 = record { idle = λ φ. skipping.idle1 φ; less = λ φ. by1_less φ }

pub walks2 : Walkable rule2
walks2 = record { idle = λ φ. skipping.idle2 φ; less = λ φ. by2_less φ }

pub walks3 : Walkable rule3
walks3 = record { idle = λ φ. skipping.idle3 φ; less = λ φ. by3_less φ }

-- the place of a walk of n places: of the variable at which it stands, or the end
abbrev pub upto : ℕ → Option ℕ → ℕ
upto n None = n
upto n (Some v) = v

-- a walk over the first n places of these words stands at r: a variable of state s, or the end
pub record Walk (n s : ℕ) (d : Tally) (ws : List ℕ) (r : Option ℕ) : Type 0 where
  pub low : upto n r ≤ n
  pub there : n ≤ d.variables
  pub stands : (v : ℕ) → r ≡ Some v → (v < n) × (get_or ws v 0 / 2048 ≡ s)

-- it has gone on from place v to r: none between is a variable of the state
pub record Gone (n s v : ℕ) (d : Tally) (ws : List ℕ) (r : Option ℕ) : Type 0 where
  pub on : v < upto n r
  pub others : Others (suc v) (upto n r) s ws
  pub room : Room d
  pub walk : Walk n s d ws r

module _ (n s : ℕ) (d : Tally) (ws : List ℕ) (le : n ≤ d.variables) where
  at_end : Walk n s d ws None
  at_end = record { low = omega arith; there = le; stands = λ v e. let z : ◌≡◌ {A = ℕ} 0 1 = cc in absurd (omega arith) }

  at_one : (v : ℕ) → v < n → get_or ws v 0 / 2048 ≡ s → Walk n s d ws (Some v)
  at_one v h own =
      record {
        low = omega (arith, h);
        there = le;
        stands = λ u e. let z : v ≡ u = cc in subst (λ (w : ℕ). (w < n) × (get_or ws w 0 / 2048 ≡ s)) z (h, own);
      }

  -- at the first variable of the state
  pub walk_begins : (r : Option ℕ) → MatchOption r (Others 0 n s ws) (λ v. (v < n) × Others 0 v s ws × (get_or ws v 0 / 2048 ≡ s)) → Others 0 (upto n r) s ws × Walk n s d ws r
  walk_begins None h = (h, at_end)
  walk_begins (Some v) h = (h.1, at_one v h.0 h.2)

  goes : (v : ℕ) → Room d → v < n → (r : Option ℕ) → MatchOption r (Others (suc v) n s ws) (λ u. (v < u) × (u < n) × Others (suc v) u s ws × (get_or ws u 0 / 2048 ≡ s)) → Gone n s v d ws r
  goes v room h None q = record { on = h; others = q; room = room; walk = at_end }
  goes v room h (Some u) q = record { on = q.0; others = q.2; room = room; walk = at_one u q.1 q.3 }

-- on to the next one, when the rule has been done at v
pub walk_goes : {m s v : ℕ} {c d : Tally} {xs ws : List ℕ} {q : Option ℕ} (n : ℕ) (r : Option ℕ) → Walk m s c xs q → q ≡ Some v → Next c d xs ws → m ≤ n → n ≤ d.variables
    → MatchOption r (Others (suc v) n (get_or ws v 0 / 2048) ws) (λ u. (v < u) × (u < n) × Others (suc v) u (get_or ws v 0 / 2048) ws × (get_or ws u 0 / 2048 ≡ get_or ws v 0 / 2048)) → Gone n s v d ws r
walk_goes {m} {s} {v} {c} {d} {xs} {ws} n r w e next le there f =
    let z = w.stands v e in
    let same : get_or ws v 0 / 2048 ≡ s = ap (λ (x : ℕ). x / 2048) (next.stay v (omega (arith, z.0, w.there))) ∙ z.1 in
    subst (λ (t : ℕ). Gone n t v d ws r) same (goes n (get_or ws v 0 / 2048) d ws there v next.room (omega (arith, z.0, le)) r f)

-- at the end no variable is left
pub walk_end : (n : ℕ) (r : Option ℕ) → ((v : ℕ) → r ≡ Some v → ⊥) → upto n r ≡ n
walk_end n None h = refl
walk_end n (Some v) h = absurd (h v refl)

-- the rule done at every place that stands when the walk begins
abbrev pub whole : Rule → Plan → ℕ → def.Build → def.Build
whole rule φ s B = scan (by φ (rule φ) s) (variables# B) 0 B

-- what is shown on the way
module _ {rule : Rule} (able : Walkable rule) (φ : Plan) {s : ℕ} {o : Buffers} {d : Tally} {b : Buffers} (B : def.Build) where
  -- no place from v on and before r belongs to s, or the build is over: the scan has done nothing there
  passes : (v r : ℕ) → Room d → v ≤ r → r ≤ d.variables → Others v r s b.words → Shows o d b (scan (by φ (rule φ) s) v 0 B) → Shows o d b (scan (by φ (rule φ) s) r 0 B)
  passes v r room le h others sh = go (ℕ_discrete d.over 0)
    where
      further : scan (by φ (rule φ) s) r 0 B ≡ scan (by φ (rule φ) s) (r - v) (0 + v) (scan (by φ (rule φ) s) v 0 B)
      further = let e : r ≡ v + (r - v) = omega arith in ap (λ (n : ℕ). scan (by φ (rule φ) s) n 0 B) e ∙ scan_add (by φ (rule φ) s) v (r - v) 0 B

      other : d.over ≡ 0 → (u : ℕ) → v ≤ u → u < r → (get_or (scan (by φ (rule φ) s) v 0 B).variables u novariable).state ≡ s → ⊥
      other off u p q e =
          let y = sh.exact off in
          let xs = (scan (by φ (rule φ) s) v 0 B).variables in
          let w = word_at xs b.words (omega (arith, room.variables, y.variables)) y.in_words u (omega (arith, y.variables)) in
          others u p q (rw w (word-state (get_or xs u novariable) (y.keys u) ∙ e))

      go : Dec (d.over ≡ 0) → Shows o d b (scan (by φ (rule φ) s) r 0 B)
      go (no e) = rw further (over-stays o d b (scan (by φ (rule φ) s) v 0 B) _ e (scan-less (by φ (rule φ) s) (able.less φ s) (r - v) (0 + v) (scan (by φ (rule φ) s) v 0 B)) sh)
      go (yes e) = rw (skipping.by_skips φ (rule φ) (able.idle φ) s v r B le (other e)) sh

  -- where it begins, and where it stands when it has gone on
  pub shown_first : {n : ℕ} {r : Option ℕ} → Room d → Others 0 (upto n r) s b.words × Walk n s d b.words r → Shows o d b B → Shows o d b (scan (by φ (rule φ) s) (upto n r) 0 B)
  shown_first {n} {r} room w sh = passes 0 (upto n r) room (omega arith) (omega (arith, w.1.low, w.1.there)) w.0 (scan-start (by φ (rule φ) s) o d b B sh)

  pub shown_next : {n v : ℕ} {r : Option ℕ} → Gone n s v d b.words r → Shows o d b (by φ (rule φ) s v (scan (by φ (rule φ) s) v 0 B)) → Shows o d b (scan (by φ (rule φ) s) (upto n r) 0 B)
  shown_next {n} {v} {r} g sh =
      passes (v + 1) (upto n r) g.room (omega (arith, g.on)) (omega (arith, g.walk.low, g.walk.there)) (λ i p q. g.others i (omega arith) q) (scan_step (by φ (rule φ) s) v o d b B sh)

  pub due_first : {n : ℕ} {r : Option ℕ} → Walk n s d b.words r → Shows o d b B → Due (by φ (rule φ) s) variables# (upto n r) B
  due_first w sh u q = omega (arith, w.low, w.there, (scan-less (by φ (rule φ) s) (able.less φ s) u 0 B).variables, sh.low_variables)

-- a turn: the rule is done at v, where the walk stands
module _ {rule : Rule} (able : Walkable rule) (φ : Plan) {m s v : ℕ} {c d e : Tally} {b b₁ b₂ : Buffers} {q : Option ℕ} (w : Walk m s d b₁.words q) (is : q ≡ Some v) (turn : Does d b₁ b₂ e (by φ (rule φ) s v))
    (so_far : Does c b b₁ d (scan (by φ (rule φ) s) (upto m q) 0)) where
  shown_here : Does c b b₁ d (scan (by φ (rule φ) s) v 0)
  shown_here o B sh = subst (λ (u : ℕ). Shows o d b₁ (scan (by φ (rule φ) s) u 0 B)) (ap (upto m) is) (so_far o B sh)

  pub walk_one : Does c b b₂ e (scan (by φ (rule φ) s) (v + 1) 0)
  walk_one o B sh = scan_step (by φ (rule φ) s) v o e b₂ B (turn o (scan (by φ (rule φ) s) v 0 B) (shown_here o B sh))

  pub walk_does : {n : ℕ} {r : Option ℕ} → Gone n s v e b₂.words r → Does c b b₂ e (scan (by φ (rule φ) s) (upto n r) 0)
  walk_does g o B sh = shown_next able φ B g (turn o (scan (by φ (rule φ) s) v 0 B) (shown_here o B sh))

  -- over a limit: what is left to do takes nothing away
  pub walk_over : m ≡ c.variables → c.over ≡ 0 → (e.over ≡ 0 → ⊥) → Does c b b₂ e (whole rule φ s)
  walk_over all off on o B sh =
      scan_over (by φ (rule φ) s) (able.less φ s) (v + 1) (variables# B) (omega (arith, all, (w.stands v is).0, (sh.exact off).variables)) o e b₂ B on (walk_one o B sh)

  -- the turns of a walk that counts as its variables grow were due
  pub due_one : (o : Buffers) (B : def.Build) → Shows o c b B → Due (by φ (rule φ) s) variables# (upto m q) B → Due (by φ (rule φ) s) variables# (v + 1) B
  due_one o B sh due =
      due-more (by φ (rule φ) s) variables# v B (subst (λ (u : ℕ). Due (by φ (rule φ) s) variables# u B) (ap (upto m) is) due) (omega (arith, (w.stands v is).0, w.there, (shown_here o B sh).low_variables))

  pub due_next : {n : ℕ} {r : Option ℕ} → Gone n s v e b₂.words r → (o : Buffers) (B : def.Build) → Shows o c b B → Due (by φ (rule φ) s) variables# (upto m q) B → Due (by φ (rule φ) s) variables# (upto n r) B
  due_next {n} {r} g o B sh due =
      due-upto (by φ (rule φ) s) (able.less φ s) (v + 1) (upto n r) B (due_one o B sh due) (omega (arith, g.walk.low, g.walk.there, (walk_one o B sh).low_variables))

-- at its end it has done the whole
pub walk_whole : (rule : Rule) (φ : Plan) (s : ℕ) {n : ℕ} {c d : Tally} {b b' : Buffers} {r : Option ℕ} → n ≡ c.variables → c.over ≡ 0 → ((v : ℕ) → r ≡ Some v → ⊥) → Does c b b' d (scan (by φ (rule φ) s) (upto n r) 0) → Does c b b' d (whole rule φ s)
walk_whole rule φ s {n} {c} {d} {b} {b'} {r} all off done f o B sh =
    subst (λ (m : ℕ). Shows o d b' (scan (by φ (rule φ) s) m 0 B)) (walk_end n r done ∙ all ∙ (sh.exact off).variables) (f o B sh)
