use Rattle.std.specs.Io.KnownBytes.{Appends}
use Rattle.rulecheck.specs.Lines.{marked}
use Rattle.rulecheck.proofs.show.show_marked.Given as goal

abbrev pub invariant-loop-i : goal.invariant-loop-i
invariant-loop-i g l = Appends (g.W.Write.contents l.fn.out) (g.W.Write.contents l.out) (marked l.marks (g.S.Shown.text l.of) l.i)
