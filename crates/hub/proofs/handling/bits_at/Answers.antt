-- `bits_at` meets its contract: each return by the tests that led there.
use native.Mathlib.Omega.{arith}
use Rattle.hub.proofs.RequestBits.{standing_bits}
use Rattle.hub.proofs.handling.bits_at.Goals as goal

pub returns-then-x-lt-NORMAL : goal.returns-then-x-lt-NORMAL
returns-then-x-lt-NORMAL c = grind arith

pub returns : goal.returns
returns c = grind (arith, standing_bits)
