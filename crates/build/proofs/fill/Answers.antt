use native.Mathlib.Omega.{arith}
use mathlib.Core.Path.{◌≡◌, refl}
use mathlib.Core.List.{List}
use lib.ListN.{length}
use Rattle.records.specs.declared.State.{State}
use Rattle.records.proofs.Tables.{length-numbers_of}
use Rattle.book.proofs.Accepted.{sound-below}
use Rattle.book.specs.Held.{nodes_in}
use Rattle.encoding.proofs.Settling.{Settled, settled}
use Rattle.encoding.proofs.Formulas.{grammar}
use Rattle.encoding.specs.Shows.{buffers}
use Rattle.encoding.specs.Build.{plan}
use Rattle.records.specs.Table.{numbers_of}
use Rattle.build.proofs.Filling.{cleared-shows, cleared-low, cleared-parents, filled-whole, filled-over}
use Rattle.build.proofs.fill.Goals as goal
use Rattle.build.proofs.fill.Goals.{After-clear_all}

planned : (c : After-clear_all) → Settled (plan (nodes_in c.args.book.now) c.args.root)
planned c =
    let k = c.args.book.now in
    settled (plan (nodes_in k) c.args.root) (grammar (nodes_in k) (sound-below k.table.bytes.now k.table.offset k.table.sound) c.args.root (omega (arith, k.whole, c.requires.root)))

-- as many records, as many numbers
lengths : (ss ts : List State) → length ss ≡ length ts → length (numbers_of ss) ≡ length (numbers_of ts)
lengths ss ts e = omega (arith, e, length-numbers_of ss, length-numbers_of ts)

pub run-requires-clause-long : goal.run-requires-clause-long
run-requires-clause-long c = (omega (arith, c.requires.long.0, lengths c.clear_all.new.states c.args.states.now (omega arith)), omega (arith, c.requires.long.1), omega (arith, c.requires.long.2))

pub clear_all-requires-in-Err : goal.clear_all-requires-in-Err
clear_all-requires-in-Err c = (omega (arith, c.requires.long.0, lengths c.run.new.states c.args.states.now (omega arith)), omega (arith, c.requires.long.1), omega (arith, c.requires.long.2))

pub run-requires-clause-low : goal.run-requires-clause-low
run-requires-clause-low c = (cleared-low c.clear_all.ensures, cleared-parents c.clear_all.ensures)

pub returns-in-Ok : goal.returns-in-Ok
returns-in-Ok c =
    let a = c.args in
    let sh = c.in-Ok.ensures.does (buffers (numbers_of a.states.now) a.words.now a.clauses.now) (planned (goal.at.returns-in-Ok c).After-clear_all) (cleared-shows c.clear_all.ensures) in
    filled-whole c.requires.long (lengths c.run.new.states a.states.now (omega arith)) (omega arith) (omega arith) sh c.in-Ok.ensures.room refl c.from.ensures

pub returns-in-Err : goal.returns-in-Err
returns-in-Err c =
    let a = c.args in
    let sh = c.in-Err.ensures.does (buffers (numbers_of a.states.now) a.words.now a.clauses.now) (planned (goal.at.returns-in-Err c).After-clear_all) (cleared-shows c.clear_all.ensures) in
    filled-over c.requires.long (lengths c.run.new.states a.states.now (omega arith)) (omega arith) (omega arith) sh (λ q. omega arith) c.clear_all-in-Err.ensures (record {})
