use native.Mathlib.Omega.{arith}
use mathlib.Core.Path.{◌≡◌, refl}
use borrow.Author.Rules.{rules}
use Rattle.std.specs.Prelude.{Err}
use Rattle.book.specs.declared.refusal.NoAnswer.TheVariants.{Oversized}
use Rattle.checker.specs.Lending.{held}
use Rattle.checker.proofs.Promising.{enough-is}
use Rattle.checker.proofs.Filling.{searchable, judged-over, judged-whole}
use Rattle.checker.proofs.judge.Goals as goal

pub clear-requires : goal.clear-requires
clear-requires c = omega (arith, (enough-is _ c.requires.enough).values)

pub clear-requires-2 : goal.clear-requires-2
clear-requires-2 c = omega (arith, (enough-is _ c.requires.enough).work)

pub fill-requires-clause-long : goal.fill-requires-clause-long
fill-requires-clause-long c = let e = enough-is _ c.requires.enough in (e.states, e.words, e.clauses)

pub search-requires : goal.search-requires
search-requires c =
    rw (c.clear.ensures, c.clear-2.ensures)
    (searchable c.args.book.now.table.sound c.args.root (omega (arith, c.args.book.now.whole, c.requires.root)) (held c.args.buffers.now) c.requires.enough c.args.budget c.in_ok-totals.ensures refl)

pub returns-in_err-totals-clause-judged : goal.returns-in_err-totals-clause-judged
returns-in_err-totals-clause-judged c =
    let is : c.from_residual.result ≡ Err Oversized = search rules in
    rw (is, c.clear.ensures, c.clear-2.ensures)
    (judged-over c.args.book.now.table.sound c.args.root (omega (arith, c.args.book.now.whole, c.requires.root)) (held c.args.buffers.now) c.requires.enough c.args.budget c.in_err-totals.ensures _ refl)

pub returns-clause-judged : goal.returns-clause-judged
returns-clause-judged c =
    judged-whole c.args.book.now.table.sound c.args.root (omega (arith, c.args.book.now.whole, c.requires.root)) (held c.args.buffers.now) c.requires.enough c.args.budget c.in_ok-totals.ensures refl c.search.result
    (rw (← c.clear.ensures, ← c.clear-2.ensures) c.search.ensures)
