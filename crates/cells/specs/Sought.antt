-- The class that a grant goes to, or that no request counts.
use Rattle.std.specs.Prelude.{Bool, true, false, Option, Some, None}
use Rattle.cells.specs.declared.Class as code
use Rattle.cells.specs.declared.Class.TheVariants as class

-- whether a class is the high one
abbrev pub is_high : code.Class → Bool
is_high class.Normal = false
is_high class.High = true

pub data Sought : Type 0 where
  Class : Bool → Sought
  Nothing : Sought

abbrev pub told_sought : Option code.Class → Sought
told_sought (Some c) = Class (is_high c)
told_sought None = Nothing
