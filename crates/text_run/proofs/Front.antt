-- For the programs: what `whole_log` wrote stands at the front of the buffer, so that part can be lent on. Assumes nothing.
use Prim.Native.Nat.{ℕ}
use mathlib.Core.Path.{◌≡◌, sym, ap, ◌∙◌}
use mathlib.Core.List.{List}
use native.Mathlib.Nat.{zero-add}
use native.Mathlib.Omega.{arith}
use lib.ListN.{length, take}
use Rattle.writer.specs.Write.{overwrite}
use Rattle.writer.proofs.Writes.{take-overwrite}

module _ (d bytes : List ℕ) {n : ℕ} {e : List ℕ} (count : n ≡ length bytes) (after : e ≡ overwrite d 0 bytes) where
  pub front : take n e ≡ bytes
  front = (λ i. take ((count ∙ sym (zero-add (length bytes))) i) (after i)) ∙ take-overwrite d 0 bytes (omega arith)

  pub front_counts : n ≡ length (take n e)
  front_counts = count ∙ sym (ap length front)
