use mathlib.Core.Path.{sym, ap, subst, ◌∙◌}
use mathlib.Core.List.{List}
use Prim.Native.Nat.{ℕ}
use native.Mathlib.Omega.{arith}
use lib.ListN.{length, length-replicate}
use Rattle.clauses.specs.Clause.{triples}
use Rattle.search.proofs.Marks.{zeros_le}
use Rattle.propagation.specs.Judging.{Mirrors}
use Rattle.propagation.specs.Unmet.{unmet_among}
use Rattle.propagation.proofs.Table.{unset, mirrors-none}
use Rattle.propagation.proofs.Unmet.{unmet-root}
use Rattle.branching.proofs.run.Goals as goal

pub invariant_of-node-clause-over : goal.invariant_of-node-clause-over
invariant_of-node-clause-over c = ap length c.requires ∙ length-replicate {A = ℕ} c.args.formula.variables 0

pub invariant_of-node-clause-mirrors : goal.invariant_of-node-clause-mirrors
invariant_of-node-clause-mirrors c = subst (λ (x : List ℕ). Mirrors x unset) (sym c.requires) (mirrors-none c.args.formula.variables c.args.formula.ready.small)

pub invariant_of-node-clause-room : goal.invariant_of-node-clause-room
invariant_of-node-clause-room c =
    omega (arith, zeros_le c.args.values.now, ap length c.requires, length-replicate {A = ℕ} c.args.formula.variables 0, c.args.formula.ready.small, length-replicate {A = ℕ} 4095 0)

pub invariant_of-node-clause-counts : goal.invariant_of-node-clause-counts
invariant_of-node-clause-counts c =
    let f = c.args.formula in
    sym (unmet-root f.clauses.now f.many f.variables f.ready.long) ∙ ap (λ (x : List ℕ). unmet_among x (triples f.clauses.now)) (sym c.requires)
