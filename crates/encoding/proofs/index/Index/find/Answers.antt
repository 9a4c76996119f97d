use native.Mathlib.Omega.{arith}
use Rattle.encoding.proofs.Chains.{chain_low, sought_start, sought_on, sought_less, sought_here, sought_end}
use Rattle.encoding.proofs.index.Index.find.Goals as goal

pub offset_bounds-self-h : goal.offset_bounds-self-h
offset_bounds-self-h c = omega (arith, c.requires.1, chain_low c.args.word)

pub bounds-self-h : goal.bounds-self-h
bounds-self-h c = omega (arith, c.requires.1, c.args.self.now.finder_long, chain_low c.args.word)

pub loop-p-init : goal.loop-p-init
loop-p-init c = rw (c.from-p.ensures, c.requires.1) (sought_start c.args.n c.args.self.now.words.now c.args.self.now.finder.now c.args.word c.requires.2)

pub returns-then-self-at : goal.returns-then-self-at
returns-then-self-at c =
    (omega (arith, c.loop-p-test.true, c.loop-p.invariant.low), sought_here c.args.n c.args.self.now.words.now c.args.self.now.finder.now c.args.word c.requires.2 c.loop-p.p c.loop-p-test.true c.if-self-at.true c.loop-p.invariant)

pub loop-p-smaller : goal.loop-p-smaller
loop-p-smaller c = rw c.from-p-in-loop-p.ensures (sought_less c.args.n c.args.self.now.words.now c.args.self.now.finder.now c.args.word c.requires.2 c.loop-p.p c.loop-p-test.true c.loop-p.invariant)

pub loop-p-preserved : goal.loop-p-preserved
loop-p-preserved c = rw c.from-p-in-loop-p.ensures (sought_on c.args.n c.args.self.now.words.now c.args.self.now.finder.now c.args.word c.requires.2 c.loop-p.p c.loop-p-test.true c.if-self-at.false c.loop-p.invariant)

pub returns : goal.returns
returns c = (sought_end c.args.n c.args.self.now.words.now c.args.self.now.finder.now c.args.word c.requires.2 c.loop-p.p c.loop-p-test.false c.loop-p.invariant).before
