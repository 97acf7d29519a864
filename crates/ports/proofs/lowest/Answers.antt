-- `ports::lowest` meets its contract.
use Rattle.std.specs.Prelude.{Some}
use mathlib.Core.Path.{sym, ap, ◌∙◌}
use Prim.Native.Nat.{ℕ, ◌-◌, ◌*◌, ◌/◌, ◌%◌, ◌^◌, ◌≤◌, ◌<◌}
use native.Mathlib.Omega.{arith}
use lib.Bits.{bit_or}
use Rattle.ports.specs.Mask.{shows}
use Rattle.ports.proofs.Searching.{Rotated, rotated, unrotated, rotated_back, gone_round, past_the_last}
use Rattle.ports.proofs.lowest.Goals as goal

-- ---- past the last port

pub returns-then-pointer-ge33 : goal.returns-then-pointer-ge33
returns-then-pointer-ge33 c = sym (past_the_last (shows c.args.mask) c.args.pointer (omega arith))

-- ---- at a port: the mask is rotated

-- where the pointer is a port
abbrev rotated-mask : ℕ → ℕ → ℕ
rotated-mask m pointer = let b = pointer - 1 in bit_or (m / 2 ^ b) (m * 2 ^ ((32 - b) % 32) % 2 ^ 32)

is_rotated : (m pointer : ℕ) → 1 ≤ pointer → pointer < 33 → Rotated 32 (pointer - 1) m (rotated-mask m pointer)
is_rotated m pointer l h = rotated 32 (pointer - 1) m (omega arith)

pub returns-then-zeros-pointer : goal.returns-then-zeros-pointer
returns-then-zeros-pointer c =
    let a = c.args in
    ap Some (omega arith) ∙ sym (rotated_back a.mask (rotated-mask a.mask a.pointer) a.pointer a.pointer (omega arith) (is_rotated a.mask a.pointer (omega arith) (omega arith)) (omega arith))

pub returns-then-pointer-ge1 : goal.returns-then-pointer-ge1
returns-then-pointer-ge1 c =
    let a = c.args in
    sym (gone_round a.mask (rotated-mask a.mask a.pointer) a.pointer a.pointer (omega arith) (is_rotated a.mask a.pointer (omega arith) (omega arith)) (omega arith))

-- ---- before the first port: it is not

pub returns-then-zeros-lt32 : goal.returns-then-zeros-lt32
returns-then-zeros-lt32 c =
    let a = c.args in
    ap Some (omega arith) ∙ sym (rotated_back a.mask a.mask a.pointer 1 (omega arith) (unrotated 32 a.mask) (omega arith))

pub returns-else-zeros-lt32 : goal.returns-else-zeros-lt32
returns-else-zeros-lt32 c =
    let a = c.args in
    sym (gone_round a.mask a.mask a.pointer 1 (omega arith) (unrotated 32 a.mask) (omega arith))
