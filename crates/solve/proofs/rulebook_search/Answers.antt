-- What fits is ready for the search, whose promise it hands on.
use mathlib.Core.Path.{sym, ◌∙◌}
use borrow.Author.Tests.{not-false}
use lib.ListN.{length}
use Rattle.ground.proofs.Tests.{true-T}
use Rattle.solve.proofs.Fitting.{fits-ready}
use Rattle.solve.proofs.rulebook_search.Goals as goal

pub search-requires : goal.search-requires
search-requires c =
    let e = sym c.fits.ensures ∙ not-false c.fits.result c.if-not-fits.false-raw in
    fits-ready c.args.clauses.now (length c.args.values.now) (length c.args.work.now) (true-T _ e)
