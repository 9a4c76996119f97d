use mathlib.Core.Path.{ap, ◌∙◌, subst}
use Prim.Native.Nat.{ℕ}
use Rattle.std.specs.Prelude.{take}
use Rattle.records.specs.Table.{numbers_of}
use Rattle.structure.specs.Evaluation.{Judgement}
use Rattle.host.specs.Called.{Judged}
use Rattle.host.proofs.Taken.{judges}
use Rattle.host.proofs.rulebook_evaluate.Goals as goal

pub returns : goal.returns
returns c =
    let a = c.args in
    let e = c.evaluate.ensures in
    judges a.states.now a.book.now a.states_count a.words.now a.variables_count a.values.now a.work.now c.evaluate.new.work c.number.result
    (subst (λ (m : ℕ). Judged a.book.now (numbers_of (take m a.states.now)) a.states_count a.words.now a.variables_count a.values.now a.work.now c.evaluate.new.work c.number.result) c.readable-m.ensures
    (record { number = c.number.ensures ∙ ap (λ (j : Judgement). j.number) e.tells; leaves = e.leaves }))
