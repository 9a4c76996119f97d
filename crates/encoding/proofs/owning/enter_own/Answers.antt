use native.Mathlib.Omega.{arith}
use Rattle.encoding.proofs.Listing.{listed-set}
use Rattle.encoding.proofs.owning.enter_own.Goals as goal
use Rattle.encoding.proofs.owning.enter_own.Goals.{then-last-eq0, else-last-eq0}

pub returns : goal.returns
returns c =
    let a = c.args in
    let j = c.if-last-eq0 in
    λ ws w e long x.
    listed-set a.n ws a.own.now w a.s j.at c.requires.0 c.requires.1 long e
    (λ q. elim j.branch [ then-last-eq0 u ↦ omega arith | else-last-eq0 u ↦ omega arith ])
    (λ q. elim j.branch [ then-last-eq0 u ↦ absurd (omega arith) | else-last-eq0 u ↦ omega arith ])
    x
