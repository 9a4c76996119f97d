use Prim.Native.Nat.{suc, ◌/◌, ◌-◌}
use native.Mathlib.Omega.{arith}
use lib.ListN.{get_or}
use Rattle.encoding.proofs.Listing.{none_until}
use Rattle.encoding.proofs.owning.next_of.Goals as goal

pub returns-then-k-n : goal.returns-then-k-n
returns-then-k-n c =
    let a = c.args in
    rw c.from-k.ensures (
    λ ws m le x.
    let z = (x.nexts a.v (omega (arith, c.requires.0))).here (get_or a.own.now a.v 0 - 1) (omega arith) in
    (omega (arith, z.0), omega arith, z.3, λ h. z.2))

pub returns-else-k-n : goal.returns-else-k-n
returns-else-k-n c =
    let a = c.args in
    λ ws m le x.
    let y = x.nexts a.v (omega (arith, c.requires.0)) in
    (omega (arith, c.requires.0), omega arith, none_until ws (get_or ws a.v 0 / 2048) (suc a.v) a.n m (get_or a.own.now a.v 0) le y (omega arith), λ h. absurd (omega arith))
