use Rattle.streams.specs.Writing.{Begins}
use Rattle.std.specs.Io.KnownBytes.{Appends}
use Rattle.std.proofs.Common.{List, ℕ, take, length-take, arith}
use Rattle.std.proofs.lemmas.Result.{on_ok_weaker, on_err_weaker}
use Rattle.rulecheck.specs.Printed.{printed_of}
use Rattle.rulecheck.proofs.Reading.{whole_read, none_printed}
use Rattle.rulecheck.proofs.Written.{on_err}
use Rattle.rulecheck.proofs.run.Goals as goal

pub returns-clause-written : goal.returns-clause-written
returns-clause-written g c =
    let P : List ℕ → Type 0 = λ bs. Appends (g.W.Write.contents c.args.out.now) (g.W.Write.contents c.answer.new.out) (printed_of bs) in
    on_ok_weaker c.answer.result
    (λ p. whole_read _ _ c.in_ok-n.n c.read_full.new.buf P c.read_full.auto.buf c.in_ok-n.ensures.in_bounds c.in_ok-n.ensures.bytes c.in_ok-n.ensures.end p)
    c.answer.ensures.written

pub returns-clause-error : goal.returns-clause-error
returns-clause-error g c =
    let P : List ℕ → Type 0 = λ bs. Begins (g.W.Write.contents c.args.out.now) (g.W.Write.contents c.answer.new.out) (printed_of bs) in
    on_err_weaker c.answer.result
    (λ p. whole_read _ _ c.in_ok-n.n c.read_full.new.buf P c.read_full.auto.buf c.in_ok-n.ensures.in_bounds c.in_ok-n.ensures.bytes c.in_ok-n.ensures.end p)
    c.answer.ensures.error

pub returns-in_err-n-clause-error : goal.returns-in_err-n-clause-error
returns-in_err-n-clause-error g c = on_err c.from_residual.result (none_printed _ (g.R.Read.remaining c.args.input.now))

pub returns-clause-taken : goal.returns-clause-taken
returns-clause-taken g c =
    let n = c.in_ok-n.n in
    (take n c.read_full.new.buf, omega (arith, length-take n c.read_full.new.buf, c.read_full.auto.buf), c.in_ok-n.ensures.bytes)

pub returns-in_err-n-clause-taken : goal.returns-in_err-n-clause-taken
returns-in_err-n-clause-taken g c =
    let e = c.in_err-n.ensures.error in
    (take e.0 c.read_full.new.buf, omega (arith, length-take e.0 c.read_full.new.buf, c.read_full.auto.buf), e.2)
