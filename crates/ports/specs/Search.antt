-- The lowest-numbered port of a set at or after a pointer, by counting up the ports.
use Rattle.std.specs.Prelude.{Bool, true, false, ℕ, zero, suc, Option, Some, None}
use Rattle.ports.specs.Ports.{ports, at_or_after}

abbrev pub or_else : Bool → Option ℕ → Option ℕ → Option ℕ
or_else true a b = a
or_else false a b = b

-- the first of the n ports from q on that is in f; the `let` waits, so the count stops where it finds one
unfoldable pub first_of : ℕ → (ℕ → Bool) → ℕ → Option ℕ
first_of zero f q = None
first_of (suc n) f q = let rest = first_of n f (suc q) in or_else (f q) (Some q) rest

-- `None` where the set has no port there, so also where the pointer is past the last port
unfoldable pub lowest_from : (ℕ → Bool) → ℕ → Option ℕ
lowest_from f pointer = first_of ports (at_or_after pointer f) 1
