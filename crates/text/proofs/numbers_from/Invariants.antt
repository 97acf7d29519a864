use Rattle.std.proofs.Common.{◌≡◌, ℕ, ◌-◌, List, length}
use Rattle.text.specs.Form.{read_numbers}
use Rattle.text.proofs.Reading.{first_four, in_front}
use Rattle.text.proofs.numbers_from.Given as goal

abbrev pub invariant-loop-i : goal.invariant-loop-i
invariant-loop-i l =
    (vs : List ℕ)
    × (length vs ≡ l.i)
    × (read_numbers l.count l.fn.s ≡ in_front vs (read_numbers (l.count - l.i) l.rest))
    × (l.numbers ≡ first_four vs)
