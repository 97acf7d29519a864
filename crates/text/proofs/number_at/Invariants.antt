use Rattle.std.proofs.Common.{◌≡◌, take}
use Rattle.text.specs.Number.{value_from}
use Rattle.text.proofs.number_at.Given as goal

abbrev pub invariant-loop-digit : goal.invariant-loop-digit
invariant-loop-digit l = l.value ≡ value_from 0 (take l.digit-index l.digits)
