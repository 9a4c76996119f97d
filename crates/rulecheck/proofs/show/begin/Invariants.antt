use Rattle.std.proofs.Common.{take}
use Rattle.std.specs.Io.KnownBytes.{Appends}
use Rattle.rulecheck.specs.Lines.{begun}
use Rattle.rulecheck.proofs.show.begin.Given as goal

-- the word and the numbers so far are written
abbrev pub invariant-loop-n : goal.invariant-loop-n
invariant-loop-n g l = Appends (g.W.Write.contents l.fn.out) (g.W.Write.contents l.out) (begun l.word (take l.n-index l.numbers))
