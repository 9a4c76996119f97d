use Prim.Native.Nat.{◌+◌, ◌-◌}
use native.Mathlib.Omega.{arith}
use lib.ListN.{get_or}
use Rattle.encoding.specs.Limits.{max_variables}
use Rattle.encoding.proofs.owning.first_of.Goals as goal

pub returns-else-k-eq0 : goal.returns-else-k-eq0
returns-else-k-eq0 c =
    let a = c.args in
    rw c.from-k.ensures (λ ws x. let z = (x.firsts a.s c.requires.0).here (get_or a.own.now (max_variables + a.s) 0 - 1) (omega arith) in (omega (arith, z.1), z.3, λ h. z.2))
