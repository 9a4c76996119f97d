-- The equation to read `signed` by. Assumes nothing.
use Prim.Native.Nat.{ℕ}
use mathlib.Core.Path.{◌≡◌, ap}
use mathlib.Core.Bool.{Bool}
use mathlib.Core.List.{List}
use Rattle.logic.specs.Table.{Node, children, node, Below, at-step}
use Rattle.signed.specs.Signed.{Ask, stripped, signed}

pub signed-step : (ns : List Node) → Below ns → (i : ℕ) (s : Bool) → signed ns i s ≡ stripped i (children (signed ns) (node ns i)) s
unfolding signed
signed-step ns below i s = ap (λ (f : Bool → Ask). f s) (at-step stripped ns below i)
