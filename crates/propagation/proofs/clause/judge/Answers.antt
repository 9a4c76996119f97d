-- Each return by the tests that led there.
use mathlib.Core.Path.{◌≡◌, sym, ap, ◌∙◌}
use Prim.Native.Nat.{ℕ, ◌+◌}
use mathlib.Core.Bool.{cond}
use native.Mathlib.Omega.{arith}
use borrow.Author.Tests.{eq-eqb, ne_eqb, lt-ltb, le-ltb}
use lib.Dec.{eqb, ltb}
use Rattle.propagation.specs.Judging.{counted, judged}
use Rattle.propagation.specs.declared.clause.Told.{Told}
use Rattle.propagation.specs.declared.clause.Told.TheVariants.{Quiet, Fails, Forces}
use Rattle.propagation.proofs.clause.judge.Goals as goal
use Rattle.propagation.proofs.clause.judge.Goals.{After-counted-3}

-- no more is counted than is there

-- what is said, by a sum
by : ℕ → ℕ → ℕ → Told
by n u v = cond (ltb 1 n) Quiet (cond (eqb n 0) Fails (cond (eqb u 1) (Forces 0) (cond (eqb v 1) (Forces 1) (Forces 2))))

-- the sum over the different literals
module _ (c : After-counted-3) where
  abbrev n : ℕ
  n = c.args.u + c.counted.result + c.counted-3.result

  third : c.counted-3.result ≡ counted (counted c.args.w c.args.xz) c.args.yz
  third = c.counted-3.ensures ∙ ap (λ (x : ℕ). counted x c.args.yz) c.counted-2.ensures

  sum_is : n ≡ c.args.u + counted c.args.v c.args.xy + counted (counted c.args.w c.args.xz) c.args.yz
  sum_is = omega (arith, c.counted.ensures, third)

  judges : (r : Told) → by n c.args.u c.args.v ≡ r → r ≡ judged c.args.u c.args.v c.args.w c.args.xy c.args.xz c.args.yz
  unfolding judged by
  judges r e = sym e ∙ ap (λ (k : ℕ). by k c.args.u c.args.v) sum_is

pub returns-then-sum-gt1 : goal.returns-then-sum-gt1
unfolding by
returns-then-sum-gt1 c = judges (goal.at.returns-then-sum-gt1 c).After-counted-3 Quiet (simp (lt-ltb _ _ c.if-sum-gt1.true))

pub returns-then-sum-eq0 : goal.returns-then-sum-eq0
unfolding by
returns-then-sum-eq0 c = judges (goal.at.returns-then-sum-eq0 c).After-counted-3 Fails (simp (le-ltb _ _ c.if-sum-gt1.false, eq-eqb _ _ c.if-sum-eq0.true))

pub returns-then-u-eq1 : goal.returns-then-u-eq1
unfolding by
returns-then-u-eq1 c = judges (goal.at.returns-then-u-eq1 c).After-counted-3 (Forces 0) (simp (le-ltb _ _ c.if-sum-gt1.false, ne_eqb _ _ c.if-sum-eq0.false, eq-eqb _ _ c.if-u-eq1.true))

pub returns-then-v-eq1 : goal.returns-then-v-eq1
unfolding by
returns-then-v-eq1 c = judges (goal.at.returns-then-v-eq1 c).After-counted-3 (Forces 1) (simp (le-ltb _ _ c.if-sum-gt1.false, ne_eqb _ _ c.if-sum-eq0.false, ne_eqb _ _ c.if-u-eq1.false, eq-eqb _ _ c.if-v-eq1.true))

pub returns : goal.returns
unfolding by
returns c = judges (goal.at.returns c).After-counted-3 (Forces 2) (simp (le-ltb _ _ c.if-sum-gt1.false, ne_eqb _ _ c.if-sum-eq0.false, ne_eqb _ _ c.if-u-eq1.false, ne_eqb _ _ c.if-v-eq1.false))
