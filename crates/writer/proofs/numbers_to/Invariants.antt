use Rattle.std.proofs.Common.{◌≡◌, ◌+◌, take, length}
use Rattle.writer.specs.Write.{overwrite}
use Rattle.writer.proofs.Spaced.{spaced}
use Rattle.writer.proofs.numbers_to.Given as goal

abbrev pub invariant-loop-number : goal.invariant-loop-number
invariant-loop-number l =
    (l.place ≡ l.at + length (spaced (take l.number-index l.numbers)))
    × (l.buffer ≡ overwrite l.initial.buffer l.at (spaced (take l.number-index l.numbers)))
