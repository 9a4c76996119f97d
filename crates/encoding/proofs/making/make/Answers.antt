use native.Mathlib.Omega.{arith}
use mathlib.Core.Path.{refl}
use Rattle.records.specs.declared.State.{State}
use Rattle.records.specs.Table.{numbers_of}
use Rattle.records.proofs.Tables.{length-numbers_of}
use Rattle.encoding.specs.Shows.{counted}
use Rattle.encoding.proofs.Rows.{numbers_of_set}
use Rattle.encoding.proofs.Steps.{roomy, make_spilt, make-new}
use Rattle.encoding.proofs.making.make.Goals as goal

pub returns-then-n-eq-STATES : goal.returns-then-n-eq-STATES
returns-then-n-eq-STATES c =
    let a = c.args in
    make_spilt (counted a.c) a.parent a.relation a.maker (numbers_of a.states.now) (roomy a.c) _ refl c.spilt.ensures c.if-n-eq-STATES.true

pub returns : goal.returns
returns c =
    let a = c.args in
    let ss = a.states.now in
    let n = a.c.states in
    let row : State = record { parent = a.parent; relation = a.relation; maker = a.maker } in
    make-new (counted a.c) a.parent a.relation a.maker (numbers_of ss) (roomy a.c) _ refl c.with_state.ensures c.if-n-eq-STATES.false (omega (arith, length-numbers_of ss, c.requires.3)) (c.requires.0, c.requires.1, c.requires.2)
    _ (numbers_of_set ss n row (omega (arith, a.c.few_states, c.if-n-eq-STATES.false, c.requires.3)))
