use Rattle.checker.proofs.Deciding.{search_decided}
use Rattle.checker.proofs.search.Goals as goal

pub returns : goal.returns
returns c = search_decided c.requires c.search-outcome.ensures c.answered.ensures
