use native.Mathlib.Omega.{arith}
use Rattle.signed.specs.Asking.{Tame}
use Rattle.signed.proofs.Classes.{tells-atom, tells_out, tells_two, tells_one, tells_leaf}
use Rattle.signed.proofs.classify.Goals as goal

pub returns-then-key-ge-FIRST_ATOM : goal.returns-then-key-ge-FIRST_ATOM
unfolding Tame
returns-then-key-ge-FIRST_ATOM c = (tt, tells-atom _ _ c.if-key-ge-FIRST_ATOM.true)

pub returns-then-i-book : goal.returns-then-i-book
unfolding Tame
returns-then-i-book c = (tt, tells_out _ _ c.if-key-ge-FIRST_ATOM.false (omega (arith, c.args.book.now.whole, c.if-i-book.true)))

pub returns-in-And : goal.returns-in-And
returns-in-And c =
    (c.binary.ensures.0, tells_two _ _ c.if-key-ge-FIRST_ATOM.false _ c.in-And.is c.node-node.ensures.is (rw (c.is_conjunctive.ensures, c.strip-in-And.ensures.0, c.strip-in-And-2.ensures.0, c.first_sign.ensures, c.in-And.node-is) at c.binary.ensures.1))

pub returns-in-Box : goal.returns-in-Box
returns-in-Box c =
    (c.modal.ensures.0, tells_one _ _ c.if-key-ge-FIRST_ATOM.false _ c.in-Box.is c.node-node.ensures.is (rw (c.is_existential.ensures, c.strip.ensures.0, c.in-Box.node-is) at c.modal.ensures.1))

pub returns-in-Atom : goal.returns-in-Atom
unfolding Tame
returns-in-Atom c = (tt, tells_leaf _ _ c.if-key-ge-FIRST_ATOM.false _ c.in-Atom.is c.node-node.ensures.is)
