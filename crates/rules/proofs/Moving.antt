-- The laws that the rules and the loops of a build share: steps in a row, what is over a limit stays over, one place more of a scan; and a universal
-- variable's scan over the states, from its first successor on. Assumes nothing.
use Prim.Native.Nat.{ℕ, ◌+◌, ◌-◌, ◌*◌, ◌≤◌, ◌<◌}
use native.Mathlib.Omega.{arith}
use native.Mathlib.Nat.{zero-add}
use native.Mathlib.Numerals.{add-one}
use mathlib.Core.Path.{◌≡◌, refl, ap, ◌∙◌, subst}
use mathlib.Core.List.{List}
use lib.ListN.{get_or}
use Rattle.logic.specs.Table.{Node}
use Rattle.signed.specs.Signed as class
use Rattle.encoding.specs.Build as def
use Rattle.encoding.specs.Build.{Plan, plan, norecord, scan, rule3, push}
use Rattle.std.specs.Prelude.{Result, Ok, Err, IsErr, IsErrAnd}
use Rattle.encoding.specs.Shows.{Room, Buffers, Tally, Shows, Parents}
use Rattle.encoding.specs.declared.counts.Over.{Over}
use Rattle.encoding.proofs.Loops.{scan-next, scan_add}
use Rattle.encoding.proofs.Totals.{Less, scan-less}
use Rattle.encoding.proofs.Rows.{numbers-at}
use Rattle.encoding.proofs.Steps.{over-stays, next-refl, next-then, made-refl, made_then}
use Rattle.encoding.proofs.Skipping as skipping
use Rattle.rules.specs.Does.{Stays, Moves, Making, Pushing}

-- steps in a row that make no state
pub stays-refl : (c : Tally) (ws : List ℕ) → Room c → Stays c c ws ws
stays-refl c ws room = record { next = next-refl c ws room; same = refl }

pub stays_then : {c d r : Tally} {xs ys zs : List ℕ} → Stays c d xs ys → Stays d r ys zs → Stays c r xs zs
stays_then a b = record { next = next-then a.next b.next; same = b.same ∙ a.same }

-- and that make states of the parent s
pub moves-refl : (s : ℕ) (c : Tally) (st ws : List ℕ) → Room c → Moves s c c st st ws ws
moves-refl s c st ws room = record { next = next-refl c ws room; made = made-refl s c st }

pub moves-then : {s : ℕ} {c d r : Tally} {st st₁ st₂ ws ws₁ ws₂ : List ℕ} → Moves s c d st st₁ ws ws₁ → Moves s d r st₁ st₂ ws₁ ws₂ → Moves s c r st st₂ ws ws₂
moves-then a b = record { next = next-then a.next b.next; made = made_then a.next.states a.made b.made }

-- an error handed on is the one that was met
pub handed : {T : Type 0} (r : Result T Over) (e : Over) → IsErr r → IsErrAnd r (λ v. v ≡ e) → r ≡ Err e
handed (Ok x) e h k = let z : ◌≡◌ {A = ℕ} 0 1 = cc in absurd (omega arith)
handed (Err v) e h k = ap Err k

-- once over a limit, nothing is done
module _ {c : Tally} (room : Room c) (on : c.over ≡ 0 → ⊥) where
  pub over-making : {s : ℕ} {f : Plan → def.Build → def.Build} {ns : List Node} {b : Buffers} → ((φ : Plan) (B : def.Build) → Less B (f φ B)) → Making s f ns c c b b
  over-making {s} {f} {ns} {b} less = record { moves = moves-refl s c b.states b.words room; does = λ root o B sh. over-stays o c b B _ on (less (plan ns root) B) sh }

  pub over_pushing : {f : Plan → def.Build → def.Build} {ns : List Node} {b : Buffers} → ((φ : Plan) (B : def.Build) → Less B (f φ B)) → Pushing f ns c c b b
  over_pushing {f} {ns} {b} less = record { stays = stays-refl c b.words room; does = λ root o B sh. over-stays o c b B _ on (less (plan ns root) B) sh }

-- no place yet, and the next place as the code counts
pub scan-start : (f : ℕ → def.Build → def.Build) (o : Buffers) (c : Tally) (b : Buffers) (B : def.Build) → Shows o c b B → Shows o c b (scan f 0 0 B)
unfolding scan
scan-start f o c b B sh = sh

pub scan_step : (f : ℕ → def.Build → def.Build) (j : ℕ) (o : Buffers) (c : Tally) (b : Buffers) (B : def.Build) → Shows o c b (f j (scan f j 0 B)) → Shows o c b (scan f (j + 1) 0 B)
scan_step f j o c b B sh = rw (add-one j, scan-next f j 0 B, zero-add j) sh

-- a scan broken off over a limit: the rest takes nothing away
pub scan_over : (f : ℕ → def.Build → def.Build) → ((u : ℕ) (B : def.Build) → Less B (f u B)) → (k n : ℕ) → k ≤ n → (o : Buffers) (c : Tally) (b : Buffers) (B : def.Build) → (c.over ≡ 0 → ⊥) → Shows o c b (scan f k 0 B) → Shows o c b (scan f n 0 B)
scan_over f less k n le o c b B on sh =
    let e : k + (n - k) ≡ n = omega arith in
    subst (λ (m : ℕ). Shows o c b (scan f m 0 B)) e
    (rw (scan_add f k (n - k) 0 B) (over-stays o c b (scan f k 0 B) _ on (scan-less f less (n - k) (0 + k) (scan f k 0 B)) sh))

-- the states before place n have other parents
pub strangers : (s n : ℕ) (o : Buffers) (c : Tally) (b : Buffers) (B : def.Build) → Room c → c.over ≡ 0 → n ≤ c.states → Parents n s b.states → Shows o c b B
    → (j : ℕ) → j < n → (get_or B.states j norecord).parent ≡ s → ⊥
strangers s n o c b B room off h parents sh j q e = let z = parents j q in omega (arith, (sh.exact off).in_states (3 * j) (omega (arith, room.states)), (numbers-at B.states j).0)

pub push_begins : (φ : Plan) (s v r : ℕ) (p : class.Ask) (n : ℕ) (o : Buffers) (c : Tally) (b : Buffers) (B : def.Build) → Room c → c.over ≡ 0 → n ≤ c.states → Parents n s b.states → Shows o c b B
    → Shows o c b (scan (push φ s v r p) n 0 B)
push_begins φ s v r p n o c b B room off h parents sh = rw (skipping.push_skips φ s v r p n B (strangers s n o c b B room off h parents sh)) sh

-- the end of a universal variable
module _ (φ : Plan) (s : ℕ) {n : ℕ} {o : Buffers} {c d : Tally} {b b' : Buffers} (B : def.Build) (off : c.over ≡ 0) (sh : Shows o c b B) where
  pub push-ends : (v r : ℕ) (p : class.Ask) → n ≡ c.states → Shows o d b' (scan (push φ s v r p) n 0 B) → Shows o d b' (rule3 φ s v (class.universal r p) B)
  unfolding rule3
  push-ends v r p e h = subst (λ (m : ℕ). Shows o d b' (scan (push φ s v r p) m 0 B)) (e ∙ (sh.exact off).states) h
