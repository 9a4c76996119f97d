-- The literals have slots in the table, and it has their weights there.
use mathlib.Core.Path.{◌≡◌, ap, ◌∙◌}
use mathlib.Core.List.{List}
use Prim.Native.Nat.{ℕ, ◌<◌}
use native.Mathlib.Omega.{arith}
use lib.ListN.{length, get_or}
use lib.IntN.{nat_abs}
use Rattle.clauses.specs.Clause.{Clause}
use Rattle.clauses.proofs.Signs.{read}
use Rattle.search.specs.Search.{value}
use Rattle.propagation.specs.Ready.{Ready}
use Rattle.propagation.specs.Judging.{slot_of, weight, Shown}
use Rattle.propagation.proofs.Table.{slot_small}
use Rattle.propagation.proofs.Triples.{at, read_at}
use Rattle.propagation.proofs.clause.weights.Goals as goal
use Rattle.propagation.proofs.clause.weights.Goals.{Start}

module _ (s : Start) where
  abbrev d : Clause
  d = s.args.c

  abbrev w : List ℕ
  w = s.args.truth.now

  ready : Ready d 1 (length s.requires.0)
  ready = s.requires.1.ready

  plain : (k : ℕ) → read (at d k) ≡ at d k
  plain = read_at d (length s.requires.0) 1 ready

  small : (k : ℕ) → nat_abs (at d k) < 4096
  small k = omega (arith, ready.range k, ready.small)

  has-slot : (k : ℕ) → nat_abs (read (at d k)) < 4096
  has-slot k = rw (plain k) (small k)

  in_table : (k i : ℕ) → i ≡ slot_of (read (at d k)) → i < length w
  in_table k i e = omega (arith, e ∙ ap slot_of (plain k), slot_small (at d k) (small k), s.requires.1.mirrors.size)

  seen : (a : List ℕ) → Shown d 1 a w → (k i : ℕ) → i ≡ slot_of (read (at d k)) → get_or w i 0 ≡ weight (value a (at d k))
  seen a S k i e = ap (λ (j : ℕ). get_or w j 0) (e ∙ ap slot_of (plain k)) ∙ S.mirrors.is (at d k) (S.ready.range k)

pub bounds-truth-i : goal.bounds-truth-i
bounds-truth-i c = in_table (goal.at.bounds-truth-i c).Start 0 _ c.slot-i.ensures

pub bounds-truth-j : goal.bounds-truth-j
bounds-truth-j c = in_table (goal.at.bounds-truth-j c).Start 1 _ c.slot-j.ensures

pub bounds-truth-k : goal.bounds-truth-k
bounds-truth-k c = in_table (goal.at.bounds-truth-k c).Start 2 _ c.slot-k.ensures
