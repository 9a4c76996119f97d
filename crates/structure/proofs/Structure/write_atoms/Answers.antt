use Prim.Native.Nat.{◌/◌}
use mathlib.Core.Path.{◌≡◌, refl}
use mathlib.Core.Bool.{◌&&◌}
use lib.Dec.{eqb}
use lib.ListN.{get_or}
use borrow.Author.Rules.{rules}
use Rattle.structure.specs.Evaluation.{max_atoms}
use Rattle.structure.specs.Rows.{atom_reaches}
use Rattle.structure.proofs.Atoms.{atom-turn}
use Rattle.structure.proofs.Scatter.{scatter_none, scatter_more}
use Rattle.structure.proofs.Structure.write_atoms.Goals as goal
use Rattle.structure.proofs.Structure.write_atoms.Goals.{then-value, else-value}

pub loop-j-init : goal.loop-j-init
loop-j-init c = (search rules, scatter_none 1 _ c.args.marks.now)

pub loop-j-preserved : goal.loop-j-preserved
loop-j-preserved c =
    let l = c.loop-j in
    let s = c.args.self.now in
    let both : c.if-value.here ≡ (c.value.result && eqb (get_or s.words.now l.j 0 / 2048) c.args.s) = elim c.if-value.branch [ then-value w ↦ rw (w.here-is, w.if-value.true) refl | else-value w ↦ rw (w.here-is, w.if-value.false) refl ] in (
      search rules,
      rw c.put.ensures
          (scatter_more 1 (atom_reaches s.words.now s.variables_count s.values.now c.args.s) c.args.marks.now l.j l.marks 0 max_atoms _ c.atom_in.result c.requires.1
          (atom-turn s.words.now s.variables_count s.values.now c.args.s l.j _ c.value.result _ c.atom_in.result
          refl c.value.ensures both c.atom_in.ensures.0)
          l.invariant.1),
    )
