use Rattle.std.proofs.Common.{◌≡◌}
use lib.Seq.{paste}
use Rattle.writer.proofs.copy_to.Given as goal

abbrev pub invariant-loop-i : goal.invariant-loop-i
invariant-loop-i l = l.buffer ≡ paste l.initial.buffer l.at l.bytes l.i
