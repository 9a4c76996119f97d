use mathlib.Core.Path.{◌≡◌, refl, sym, ap, subst, ◌∙◌}
use mathlib.Core.List.{List}
use Prim.Native.Nat.{ℕ, ◌+◌, ◌-◌}
use native.Mathlib.Omega.{arith}
use lib.ListN.{length, set, length-set}
use Rattle.search.specs.Search.{zeros}
use Rattle.search.proofs.Marks.{zeros-unset}
use Rattle.propagation.specs.Trail.{noted, pending, Undone}
use Rattle.propagation.proofs.Pending.{pending-plain}
use Rattle.propagation.proofs.marks.undo.Goals as goal

pub loop-k-init : goal.loop-k-init
loop-k-init c = (c.requires.1, record { long = refl; left = refl; used = omega arith }, c.requires.0)

pub loop-k-preserved : goal.loop-k-preserved
loop-k-preserved c =
    let k = c.loop-k.k - 1 in
    let again : k + 1 ≡ c.loop-k.k = omega (arith, c.loop-k-test.true) in
    let a = c.loop-k.values in
    let t = c.args.trail.now in
    let undone : c.put.new.values ≡ set a (noted t k) 0 = c.put.ensures.0 ∙ ap (λ (j : ℕ). set a j 0) c.noted.ensures in
    let U = c.loop-k.invariant.1 in (
      omega (arith, c.loop-k-test.true),
      record {
        long = ap length undone ∙ length-set a (noted t k) 0 ∙ U.long;
        left =
            ap (λ (y : List ℕ). pending y t k) undone
            ∙ sym (pending-plain a t k (c.requires.3 k (omega (arith, c.loop-k-test.true)) (omega (arith, c.loop-k.auto.k, c.loop-k-test.true))))
            ∙ ap (pending a t) again
            ∙ U.left;
        used = omega (arith, ap zeros undone, zeros-unset a (noted t k), U.used, c.loop-k-test.true);
      },
      c.put.ensures.1,
    )

pub returns : goal.returns
returns c =
    let e : c.loop-k.k ≡ c.args.from = omega (arith, c.loop-k.invariant.0, c.loop-k-test.false) in
    (subst (λ (k : ℕ). Undone c.args.trail.now k c.args.to c.args.values.now c.loop-k.values) e c.loop-k.invariant.1, c.loop-k.invariant.2)
