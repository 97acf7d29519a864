use Rattle.std.proofs.Common.{◌≡◌, ◌+◌, ◌-◌, ◌≤◌, take, drop}
use Rattle.text.specs.Number.{digits, value_from}
use Rattle.writer.specs.Write.{overwrite}
use Rattle.writer.proofs.digits_to.Given as goal

abbrev pub invariant-loop-place : goal.invariant-loop-place
invariant-loop-place l =
    (l.at + 1 ≤ l.place) × (l.rest ≡ value_from 0 (take (l.place - l.at) (digits l.value)))
    × (l.buffer ≡ overwrite l.initial.buffer l.place (drop (l.place - l.at) (digits l.value)))
