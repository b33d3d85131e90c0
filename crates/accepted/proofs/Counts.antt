-- A line that stands there or not, as the number of a flag. Assumes nothing.
use Prim.Native.Nat.{◌≤◌}
use mathlib.Core.Path.{◌≡◌, refl}
use mathlib.Core.Bool.{Bool, true, false}
use native.Mathlib.Omega.{arith}
use mir.Val.{bool_byte}
use Rattle.accepted.specs.Inside.Heads.{count_if}

pub counted : (t : Bool) → bool_byte t ≡ count_if t
counted true = refl
counted false = refl

pub one_line : (t : Bool) → count_if t ≤ 1
one_line true = omega arith
one_line false = omega arith
