-- The number falls by the unmet clauses that hold the literal.
use mathlib.Core.Path.{◌≡◌, ap}
use mathlib.Core.List.{List}
use Prim.Native.Nat.{ℕ, ◌+◌}
use native.Mathlib.Omega.{arith}
use lib.ListN.{set}
use Rattle.clauses.specs.Clause.{triples}
use Rattle.propagation.specs.Unmet.{unmet_among}
use Rattle.propagation.proofs.Unmet.{unmet_falls}
use Rattle.propagation.proofs.marks.assign.Goals as goal
use Rattle.propagation.proofs.marks.assign.Goals.{After-unmet_with-met}

-- before the mark is given
module _ (c : After-unmet_with-met) where
  abbrev a : List ℕ
  a = c.args.values.now

  falls : c.unmet_with-met.result + unmet_among (set a c.args.i c.args.m) (triples c.args.formula.clauses.now) ≡ c.args.unmet
  falls =
      let p = c.requires in
      omega (arith, c.unmet_with-met.ensures a (p.0, p.1), unmet_falls a c.args.i c.args.m p.2 p.3 p.4 p.5 (triples c.args.formula.clauses.now), p.6)

pub overflow_sub-result : goal.overflow_sub-result
overflow_sub-result c = omega (arith, falls (goal.at.overflow_sub-result c).After-unmet_with-met)

pub returns : goal.returns
returns c =
    let cs = triples c.args.formula.clauses.now in
    (c.put.ensures.0, c.put.ensures.1, omega (arith, falls (goal.at.returns c).After-unmet_with-met, ap (λ (b : List ℕ). unmet_among b cs) c.put.ensures.0))

pub unmet_with-met-requires : goal.unmet_with-met-requires
unmet_with-met-requires c = (omega (arith, c.requires.0, c.requires.2), c.args.values.now, (c.requires.0, c.requires.1))
