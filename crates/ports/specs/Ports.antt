-- Sets of a hub's ports. A set is a test f, true of the ports in it.
use Rattle.std.specs.Prelude.{Bool, false, not, ◌&&◌, ◌||◌, ℕ, zero, suc, eqb, leb}

-- a hub has at most 32 ports, numbered from 1
abbrev pub ports : ℕ
ports = 32

-- f, and port p as well where b holds
unfoldable pub with_port : (ℕ → Bool) → ℕ → Bool → ℕ → Bool
with_port f p b q = f q || (eqb q p && b)

-- f, with port p in it just where b holds
unfoldable pub put_port : (ℕ → Bool) → ℕ → Bool → ℕ → Bool
put_port f p b q = (eqb q p && b) || (not (eqb q p) && f q)

-- those of f at or after a pointer
unfoldable pub at_or_after : ℕ → (ℕ → Bool) → ℕ → Bool
at_or_after pointer f q = leb pointer q && f q

-- whether some of ports 1 to k is in f
unfoldable pub any_up_to : ℕ → (ℕ → Bool) → Bool
any_up_to zero f = false
any_up_to (suc k) f = f (suc k) || any_up_to k f

abbrev pub any_port : (ℕ → Bool) → Bool
any_port f = any_up_to ports f
