-- The tests in 01's order; each way out is the verdict that they make. What `lowest_bad` requires holds because the book is past the first three.
use mathlib.Core.Path.{◌≡◌, sym, ◌∙◌}
use mathlib.Core.Bool.{true}
use native.Mathlib.Omega.{arith}
use borrow.Author.Tests.{not-true, not-false}
use Rattle.book.specs.Rulebook.{ranges}
use Rattle.book.specs.Told.{told}
use Rattle.book.proofs.Headers.{Tested, ranges_in, extent_in}
use Rattle.book.proofs.Verdicts.{refused_short, refused-ranges, refused-extent, refused-node, accepted-whole}
use Rattle.book.proofs.Nodes.{none_bad, first_bad}
use Rattle.book.proofs.read.Goals as goal
use Rattle.book.proofs.read.Goals.{Else-not-extent_ok, Else-not-ranges_ok}

in_ranges : (c : Else-not-ranges_ok) → ranges c.read_header-h.result ≡ true
in_ranges c = sym c.ranges_ok.ensures ∙ not-false c.ranges_ok.result c.if-not-ranges_ok.false-raw

tested : (c : Else-not-extent_ok) → Tested c.args.book.now c.read_header-h.result
tested c =
    record {
      long = c.if-book-lt16.false;
      read = c.read_header-h.ensures.0;
      in_ranges = sym c.ranges_ok.ensures ∙ not-false c.ranges_ok.result c.if-not-ranges_ok.false-raw;
      in_extent = sym c.extent_ok.ensures ∙ not-false c.extent_ok.result c.if-not-extent_ok.false-raw;
    }

pub returns-then-book-lt16 : goal.returns-then-book-lt16
unfolding told
returns-then-book-lt16 c = refused_short c.args.book.now (omega arith)

pub returns-then-not-ranges_ok : goal.returns-then-not-ranges_ok
unfolding told
returns-then-not-ranges_ok c =
    let h = c.read_header-h in
    refused-ranges c.args.book.now h.result c.if-book-lt16.false h.ensures.0
    (sym c.ranges_ok.ensures ∙ not-true c.ranges_ok.result c.if-not-ranges_ok.true-raw)

pub returns-then-not-extent_ok : goal.returns-then-not-extent_ok
unfolding told
returns-then-not-extent_ok c =
    refused-extent c.args.book.now c.read_header-h.result c.if-book-lt16.false c.read_header-h.ensures.0 (in_ranges (goal.at.returns-then-not-extent_ok c).Else-not-ranges_ok)
    (sym c.extent_ok.ensures ∙ not-true c.extent_ok.result c.if-not-extent_ok.true-raw)

pub lowest_bad-requires : goal.lowest_bad-requires
lowest_bad-requires c =
    let h = c.read_header-h.result in
    let r = ranges_in h (tested (goal.at.lowest_bad-requires c).Else-not-extent_ok).in_ranges in
    let x = extent_in c.args.book.now h (tested (goal.at.lowest_bad-requires c).Else-not-extent_ok).in_extent in
    (r.2.1, x.0.1, omega (arith, x.1, x.2))

pub returns-in-Some : goal.returns-in-Some
unfolding told
returns-in-Some c =
    let f = c.in-Some.ensures in
    let h = c.read_header-h.result in
    refused-node c.args.book.now h (tested (goal.at.returns-in-Some c).Else-not-extent_ok) _ (first_bad c.args.book.now h h.nodes _ f.0 f.1 f.2) f.0

pub returns-in-None : goal.returns-in-None
unfolding told
returns-in-None c =
    let h = c.read_header-h.result in
    accepted-whole c.args.book.now h (tested (goal.at.returns-in-None c).Else-not-extent_ok) h.nodes (none_bad c.args.book.now h h.nodes c.in-None.ensures) (omega arith)
