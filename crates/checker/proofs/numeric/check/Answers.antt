use native.Mathlib.Omega.{arith}
use borrow.Author.Rules.{rules}
use Rattle.checker.specs.Checked.{told}
use Rattle.checker.proofs.Tabled.{shown_most, promised_few, promised_over}
use Rattle.checker.proofs.numeric.check.Goals as goal

pub returns-then-states : goal.returns-then-states
returns-then-states c = let a = c.args in promised_few a.bytes.now a.budget a.states.now a.words.now a.clauses.now a.values.now a.work.now (omega (arith, c.if-states.true))

pub gather-requires : goal.gather-requires
gather-requires c = let most = shown_most (told c.check-answer.result).number in (omega (arith, most, c.shown.ensures), omega (arith, most, c.shown.ensures, c.if-states.false))

pub returns : goal.returns
returns c =
    let a = c.args in
    promised_over a.bytes.now a.budget a.states.now a.words.now a.clauses.now a.values.now a.work.now _ (omega (arith, c.if-states.false)) (search rules) c.check-answer.new.buffers c.shown.result c.check-answer.result _ c.gather.new.numbers _ _ _ _
    c.check-answer.ensures.promised c.shown.ensures c.gather.ensures (search rules) (search rules) (search rules) (search rules) (search rules)
