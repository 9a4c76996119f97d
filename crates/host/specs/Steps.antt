-- What the functions of this crate promise one another. Assumes nothing.
use Rattle.std.specs.Prelude.{◌<◌}
use Rattle.meaning.specs.Answers.{Answer}

-- the numbers of an answer fit 32 bits
pub record Small (a : Answer) : Type 0 where
  pub place : a.place < 65536
  pub states : a.states < 65536
  pub variables : a.variables < 65536
  pub clauses : a.clauses < 65536
