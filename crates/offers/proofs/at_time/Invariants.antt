use Prim.Native.Nat.{◌/◌, ◌≤◌}
use mathlib.Core.Path.{◌≡◌}
use lib.ListN.{length}
use Rattle.offers.proofs.Laws.{so_far}
use Rattle.offers.proofs.at_time.Given as goal

abbrev pub invariant-loop-i : goal.invariant-loop-i
invariant-loop-i l = (length l.answers ≡ length l.initial.answers) × (l.answers ≡ so_far l.p l.t l.s l.offers l.initial.answers l.i)
