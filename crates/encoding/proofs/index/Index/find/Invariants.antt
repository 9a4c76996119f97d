-- The invariant: the word stands at none of the places from p on. The measure is p.
use Rattle.encoding.proofs.Chains.{Sought}
use Rattle.encoding.proofs.index.Index.find.Given as goal

abbrev pub invariant-loop-p : goal.invariant-loop-p
invariant-loop-p l = Sought l.self.words.now l.n l.word l.p

abbrev pub decreases-loop-p : goal.decreases-loop-p
decreases-loop-p l = l.p
