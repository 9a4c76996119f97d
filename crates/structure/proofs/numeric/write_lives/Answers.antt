use native.Mathlib.Omega.{arith}
use mathlib.Core.Path.{ap, ◌∙◌}
use borrow.Author.Rules.{rules}
use Rattle.signed.specs.Signed.{bit}
use Rattle.structure.proofs.Written.{written-more, written-front}
use Rattle.structure.proofs.Living.{next-life}
use Rattle.structure.proofs.numeric.write_lives.Goals as goal

pub loop-j-preserved : goal.loop-j-preserved
loop-j-preserved c =
    let l = c.loop-j in
    let a = c.args in
    let marks = a.marks.now in (
      search rules,
      written-more 0 _ marks l.j l.marks l.j c.bit.result (omega arith)
          (c.bit.ensures
          ∙ ap bit (c.lives_next.ensures
          ∙ next-life a.n a.v a.states.now a.values.now l.marks c.requires.0 l.j c.loop-j-test.true (written-front l.j _ marks l.marks l.invariant.1)))
          (omega arith) l.invariant.1,
    )
