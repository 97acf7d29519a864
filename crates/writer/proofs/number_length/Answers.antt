-- `writer::number_length` meets its contract: a number from 10 ^ k on and below 10 ^ (k + 1) has k + 1 digits, and 0 has one.
-- Assumes nothing.
use mathlib.Core.Path.{◌≡◌}
use Prim.Native.Nat.{ℕ, suc, ◌+◌, ◌*◌, ◌^◌, ◌≤◌, ◌<◌}
use native.Mathlib.Nat.{pow-succ'}
use native.Mathlib.Omega.{arith}
use lib.ListN.{length}
use Rattle.text.specs.Number.{digits}
use Rattle.text.proofs.Digits.{digits_some, digits-length, digits_reach}
use Rattle.writer.proofs.number_length.Goals as goal

counted : (v k : ℕ) → 10 ^ k ≤ v → v < 10 * 10 ^ k → k + 1 ≡ length (digits v)
counted v k low high =
    let p : 10 ^ suc k ≡ 10 * 10 ^ k = pow-succ' 10 k in
    omega (arith, digits_reach k v low, digits-length k v (omega arith))

pub returns-in-0-to-9 : goal.returns-in-0-to-9
returns-in-0-to-9 c = omega (arith, digits-length 0 c.args.value (omega arith), digits_some c.args.value)

pub returns-in-10-to-99 : goal.returns-in-10-to-99
returns-in-10-to-99 c = omega (arith, counted c.args.value 1 (omega arith) (omega arith))

pub returns-in-100-to-999 : goal.returns-in-100-to-999
returns-in-100-to-999 c = omega (arith, counted c.args.value 2 (omega arith) (omega arith))

pub returns-in-1000-to-9999 : goal.returns-in-1000-to-9999
returns-in-1000-to-9999 c = omega (arith, counted c.args.value 3 (omega arith) (omega arith))

pub returns-in-10000-to-99999 : goal.returns-in-10000-to-99999
returns-in-10000-to-99999 c = omega (arith, counted c.args.value 4 (omega arith) (omega arith))

pub returns-in_default : goal.returns-in_default
returns-in_default c = omega (arith, counted c.args.value c.ilog10.result c.ilog10.ensures.power_le c.ilog10.ensures.next_power_gt)
