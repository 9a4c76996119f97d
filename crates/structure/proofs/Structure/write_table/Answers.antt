use Prim.Native.Nat.{◌*◌, ◌/◌}
use native.Mathlib.Omega.{arith}
use mathlib.Core.Path.{◌≡◌, refl}
use mathlib.Core.Bool.{◌&&◌}
use lib.Dec.{leb}
use borrow.Author.Rules.{rules}
use Rattle.encoding.specs.Limits.{max_states}
use Rattle.structure.specs.Rows.{table_reaches}
use Rattle.structure.proofs.Atoms.{table-turn}
use Rattle.structure.proofs.Scatter.{scatter_none, scatter_more}
use Rattle.structure.proofs.Structure.write_table.Goals as goal
use Rattle.structure.proofs.Structure.write_table.Goals.{then-value, else-value}

pub loop-j-init : goal.loop-j-init
loop-j-init c = (search rules, scatter_none 1 _ c.args.work.now)

pub loop-j-preserved : goal.loop-j-preserved
loop-j-preserved c =
    let l = c.loop-j in
    let s = c.args.self.now in
    let p = c.requires in
    let few = c.atom_in-atom.ensures.1 in
    let both : c.if-value.known ≡ (c.value.result && leb 1 c.atom_in-atom.result) = elim c.if-value.branch [ then-value w ↦ rw (w.known-is, w.if-value.true) refl | else-value w ↦ rw (w.known-is, w.if-value.false) refl ] in (
      search rules,
      rw c.put.ensures
          (scatter_more 1 (table_reaches s.words.now s.variables_count s.values.now s.states_count) c.args.work.now l.j l.work (c.atom_in-atom.result * max_states) s.states_count _ (_ / 2048) (omega arith)
          (table-turn s.words.now s.variables_count s.values.now s.states_count l.j _ c.value.result _ c.atom_in-atom.result
          refl c.value.ensures both c.atom_in-atom.ensures.0)
          l.invariant.1),
    )
