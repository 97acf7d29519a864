-- How a mask codes a set of ports: bit p - 1 is port p. No other definition speaks of bits.
use Rattle.std.specs.Prelude.{Bool, true, false, ℕ, zero, suc, ◌+◌, ◌*◌, ◌/◌, ◌%◌, ◌^◌, eqb}
use Rattle.ports.specs.Ports.{ports}

-- whether a mask shows port p; a mask of 32 bits shows none above 32
unfoldable pub shows : ℕ → ℕ → Bool
shows mask zero = false
shows mask (suc i) = eqb (mask / 2 ^ i % 2) 1

abbrev pub digit : Bool → ℕ
digit true = 1
digit false = 0

-- the mask that shows those of ports 1 to k that are in f
unfoldable pub mask_up_to : ℕ → (ℕ → Bool) → ℕ
mask_up_to zero f = 0
mask_up_to (suc k) f = digit (f (suc k)) * 2 ^ k + mask_up_to k f

abbrev pub mask_of : (ℕ → Bool) → ℕ
mask_of f = mask_up_to ports f
