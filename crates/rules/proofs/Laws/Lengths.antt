-- The longest packet, whatever the framing: no shorter than framing 3's, and no longer than framing 5's.
use Prim.Native.Nat.{ℕ, ◌≤◌}
use mathlib.Core.Bool.{Bool, true, false}
use native.Mathlib.Omega.{arith}
use lib.Dec.{eqb}
use Rattle.std.specs.Prelude.{if◌then◌else◌}
use Rattle.rules.specs.Plan.{longest_in}

bounds : (b : Bool) → (longest_in 3 ≤ (if b then longest_in 5 else longest_in 3)) × ((if b then longest_in 5 else longest_in 3) ≤ longest_in 5)
bounds true = (omega arith, omega arith)
bounds false = (omega arith, omega arith)

pub longest_low : (framing : ℕ) → longest_in 3 ≤ longest_in framing
longest_low framing = (bounds (eqb framing 5)).0

pub longest-up : (framing : ℕ) → longest_in framing ≤ longest_in 5
longest-up framing = (bounds (eqb framing 5)).1
