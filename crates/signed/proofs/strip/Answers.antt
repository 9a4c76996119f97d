use native.Mathlib.Omega.{arith}
use mathlib.Core.Path.{◌∙◌}
use Rattle.signed.proofs.Stripping.{table-low, strip_not, strip_atom, strip_solid}
use Rattle.signed.proofs.strip.Goals as goal

pub nots-preserved : goal.nots-preserved
nots-preserved c =
    (omega (arith, c.in-Not.ensures.bounds, c.nots.invariant.0), strip_not c.args.table.now c.nots.i c.nots.sign _ c.in-Not.ensures.is ∙ c.nots.invariant.1)

pub returns-in-Atom : goal.returns-in-Atom
returns-in-Atom c =
    let e = strip_atom c.args.table.now c.nots.i c.nots.sign _ c.in-Atom.ensures.is ∙ c.nots.invariant.1 in
    (e, table-low c.args.table.now c.args.node c.args.minus c.requires _ e)

pub returns-in_default : goal.returns-in_default
returns-in_default c =
    let e = strip_solid c.args.table.now c.nots.i c.nots.sign _ c.in_default.not-Atom c.in_default.not-Not c.node.ensures.is ∙ c.nots.invariant.1 in
    rw c.from.ensures (e, table-low c.args.table.now c.args.node c.args.minus c.requires _ e)
