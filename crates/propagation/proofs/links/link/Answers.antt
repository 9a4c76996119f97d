use mathlib.Core.Path.{◌≡◌, refl, sym, ap, subst, ◌∙◌}
use mathlib.Core.List.{List, []}
use Prim.Native.Nat.{ℕ, suc, ◌+◌, ◌*◌, ◌≤◌, ◌<◌}
use native.Mathlib.Numerals.{add-one}
use native.Mathlib.Omega.{arith}
use lib.ListN.{length, get_or, set, length-set}
use lib.IntN.{ℤ}
use Rattle.ground.proofs.Buffers.{filled-laid}
use Rattle.propagation.specs.Ready.{space_for}
use Rattle.propagation.specs.Links.{head_of, joined, Linked}
use Rattle.propagation.proofs.Triples.{at, read_at}
use Rattle.propagation.proofs.Latest.{head-low, linked_none, linked_next}
use Rattle.propagation.proofs.links.link.Goals as goal
use Rattle.propagation.proofs.links.link.Invariants.{Way}
use Rattle.propagation.proofs.links.link.Goals.{After-clear, After-head_of-x, After-joined, In-loop-i}

-- after the places of the literals were cleared
module _ (C : After-clear) where
  abbrev v : ℕ
  v = C.args.variables

  zero-at : (x : ℕ) → x ≤ 2 * v → get_or C.clear.new.s x 0 ≡ 0
  zero-at x h = ap (λ (l : List ℕ). get_or l x 0) C.clear.ensures ∙ filled-laid 0 (2 * v + 1) [] C.args.links.now x (omega (arith, h))

  long : space_for v C.requires.0 ≤ length C.clear.new.s
  long = omega (arith, C.requires.2)

-- in a turn
module _ (c : In-loop-i) where
  abbrev cl : List ℤ
  cl = c.args.clauses.now

  abbrev i : ℕ
  i = c.loop-i.i

  abbrev L : List ℕ
  L = c.loop-i.links

  in_clauses : i < length cl
  in_clauses = c.loop-i-test.true

  -- in the list as it is, and in that of the start, whose length is one of memory

  in-links : suc (2 * v (goal.at.In-loop-i c).After-clear + i) < length L
  in-links = omega (arith, in_clauses, c.requires.1.long, long (goal.at.In-loop-i c).After-clear, c.loop-i.invariant.long)

  in_memory : suc (2 * v (goal.at.In-loop-i c).After-clear + i) < length c.args.links.now
  in_memory = omega (arith, in-links, c.loop-i.invariant.long)

-- where the literal stands
module _ (N : After-head_of-x) where
  abbrev x : ℕ
  x = N.head_of-x.result

  head-is : head_of (at (cl (goal.at.After-head_of-x N).In-loop-i) (i (goal.at.After-head_of-x N).In-loop-i)) ≡ x
  head-is = sym (N.head_of-x.ensures ∙ ap head_of (read_at (cl (goal.at.After-head_of-x N).In-loop-i) N.args.variables N.requires.0 N.requires.1 (i (goal.at.After-head_of-x N).In-loop-i)))

  within : x ≤ 2 * v (goal.at.After-head_of-x N).After-clear
  within = omega (arith, head-is, head-low (v (goal.at.After-head_of-x N).After-clear) (at (cl (goal.at.After-head_of-x N).In-loop-i) (i (goal.at.After-head_of-x N).In-loop-i)) (N.requires.1.range (i (goal.at.After-head_of-x N).In-loop-i)))

  memory : length N.args.links.now * 2 < 18446744073709551616
  memory = omega (arith)

-- of the latest place and this one, the one that counts
module _ (J : After-joined) where
  abbrev last : ℕ
  last = get_or (L (goal.at.After-joined J).In-loop-i) (x (goal.at.After-joined J).After-head_of-x) 0

  goes_on : (L' : List ℕ) → L' ≡ set (set (L (goal.at.After-joined J).In-loop-i) (2 * v (goal.at.After-joined J).After-clear + 1 + i (goal.at.After-joined J).In-loop-i) last) (x (goal.at.After-joined J).After-head_of-x) J.joined.result
      → Way (cl (goal.at.After-joined J).In-loop-i) (v (goal.at.After-joined J).After-clear) J.clear.new.s L' (i (goal.at.After-joined J).In-loop-i + 1)
  goes_on L' e =
      let f = e ∙ ap (set (set (L (goal.at.After-joined J).In-loop-i) (2 * v (goal.at.After-joined J).After-clear + 1 + i (goal.at.After-joined J).In-loop-i) last) (x (goal.at.After-joined J).After-head_of-x)) (J.joined.ensures ∙ ap (joined last) J.link_to.ensures) in
      record {
        low = omega (arith, in_clauses (goal.at.After-joined J).In-loop-i);
        long = ap length e ∙ simp length-set J.loop-i.invariant.long;
        linked =
            rw f
            (subst (λ (k : ℕ). Linked (cl (goal.at.After-joined J).In-loop-i) (v (goal.at.After-joined J).After-clear) k (set (set (L (goal.at.After-joined J).In-loop-i) (2 * v (goal.at.After-joined J).After-clear + 1 + i (goal.at.After-joined J).In-loop-i) last) (x (goal.at.After-joined J).After-head_of-x) (joined last k))) (sym (add-one (i (goal.at.After-joined J).In-loop-i)))
            (linked_next (cl (goal.at.After-joined J).In-loop-i) (v (goal.at.After-joined J).After-clear) (i (goal.at.After-joined J).In-loop-i) (L (goal.at.After-joined J).In-loop-i) J.loop-i.invariant.linked (in-links (goal.at.After-joined J).In-loop-i) (x (goal.at.After-joined J).After-head_of-x) (head-is (goal.at.After-joined J).After-head_of-x) (within (goal.at.After-joined J).After-head_of-x)));
      }

pub overflow_mul-variables : goal.overflow_mul-variables
overflow_mul-variables c = omega (arith, c.requires.1.small)

pub overflow_add-variables : goal.overflow_add-variables
overflow_add-variables c = omega (arith, c.requires.1.small)

pub clear-requires : goal.clear-requires
clear-requires c = omega (arith, c.requires.2)

pub loop-i-init : goal.loop-i-init
loop-i-init c = record { low = omega arith; long = refl; linked = linked_none c.args.clauses.now (v (goal.at.loop-i-init c).After-clear) c.clear.new.s (omega (arith, long (goal.at.loop-i-init c).After-clear)) (zero-at (goal.at.loop-i-init c).After-clear) }

pub offset_bounds-clauses-i : goal.offset_bounds-clauses-i
offset_bounds-clauses-i c = omega (arith, in_clauses c)

pub bounds-clauses-i : goal.bounds-clauses-i
bounds-clauses-i c = in_clauses c

pub offset_bounds-links-x : goal.offset_bounds-links-x
offset_bounds-links-x c = omega (arith, within c, in_memory (goal.at.offset_bounds-links-x c).In-loop-i, memory c)

pub bounds-links-x : goal.bounds-links-x
bounds-links-x c = omega (arith, within (goal.at.bounds-links-x c).After-head_of-x, in-links (goal.at.bounds-links-x c).In-loop-i)

pub overflow_mul-links : goal.overflow_mul-links
overflow_mul-links c = omega (arith, in_memory (goal.at.overflow_mul-links c).In-loop-i, memory (goal.at.overflow_mul-links c).After-head_of-x)

pub overflow_add-links : goal.overflow_add-links
overflow_add-links c = omega (arith, in_memory (goal.at.overflow_add-links c).In-loop-i, memory (goal.at.overflow_add-links c).After-head_of-x)

pub overflow_add-links-in-loop-i : goal.overflow_add-links-in-loop-i
overflow_add-links-in-loop-i c = omega (arith, in_memory (goal.at.overflow_add-links-in-loop-i c).In-loop-i, memory (goal.at.overflow_add-links-in-loop-i c).After-head_of-x)

pub offset_bounds-links-variables : goal.offset_bounds-links-variables
offset_bounds-links-variables c = omega (arith, in_memory (goal.at.offset_bounds-links-variables c).In-loop-i, memory (goal.at.offset_bounds-links-variables c).After-head_of-x)

pub bounds-links-variables : goal.bounds-links-variables
bounds-links-variables c = omega (arith, in-links (goal.at.bounds-links-variables c).In-loop-i)

pub link_to-requires : goal.link_to-requires
link_to-requires c = omega (arith, in_clauses (goal.at.link_to-requires c).In-loop-i, c.requires.1.long, c.requires.1.few)

pub offset_bounds-links-x-in-loop-i : goal.offset_bounds-links-x-in-loop-i
offset_bounds-links-x-in-loop-i c = omega (arith, within (goal.at.offset_bounds-links-x-in-loop-i c).After-head_of-x, in_memory (goal.at.offset_bounds-links-x-in-loop-i c).In-loop-i, memory (goal.at.offset_bounds-links-x-in-loop-i c).After-head_of-x)

pub bounds-links-x-in-loop-i : goal.bounds-links-x-in-loop-i
bounds-links-x-in-loop-i c = simp length-set (omega (arith, within (goal.at.bounds-links-x-in-loop-i c).After-head_of-x, in-links (goal.at.bounds-links-x-in-loop-i c).In-loop-i))

pub loop-i-smaller : goal.loop-i-smaller
loop-i-smaller c = omega (arith, in_clauses (goal.at.loop-i-smaller c).In-loop-i)

pub loop-i-preserved : goal.loop-i-preserved
loop-i-preserved c = goes_on c _ refl

pub returns : goal.returns
returns c =
    let end : c.loop-i.i ≡ length c.args.clauses.now = omega (arith, c.loop-i.invariant.low, c.loop-i-test.false) in
    subst (λ (k : ℕ). Linked c.args.clauses.now (v (goal.at.returns c).After-clear) k c.loop-i.links) end c.loop-i.invariant.linked
