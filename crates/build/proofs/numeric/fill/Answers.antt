use Rattle.build.proofs.Gathering.{long_unused, filled_gathered}
use Rattle.build.proofs.numeric.fill.Goals as goal

pub fill-answer-requires-clause-long : goal.fill-answer-requires-clause-long
fill-answer-requires-clause-long c = (long_unused, c.requires.long.1, c.requires.long.2)

pub returns : goal.returns
returns c = filled_gathered c.fill-answer.ensures c.gather.ensures
