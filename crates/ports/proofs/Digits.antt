-- A Bool as a number: the code's is that of the definitions.
use Prim.Native.Nat.{◌<◌}
use mathlib.Core.Path.{◌≡◌, refl}
use mathlib.Core.Bool.{Bool, true, false}
use mir.Val.{bool_byte}
use native.Mathlib.Omega.{arith}
use Rattle.ports.specs.Mask.{digit}

pub byte_digit : (b : Bool) → bool_byte b ≡ digit b
byte_digit true = refl
byte_digit false = refl

pub byte_below_2 : (b : Bool) → bool_byte b < 2
byte_below_2 true = omega arith
byte_below_2 false = omega arith
