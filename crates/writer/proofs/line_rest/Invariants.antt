use Rattle.std.proofs.Common.{◌≡◌, ◌+◌, drop, length}
use Rattle.text.specs.Form.{draw_numbers}
use Rattle.writer.specs.Write.{draw_line}
use Rattle.writer.proofs.line_rest.Given as goal

abbrev pub invariant-loop-number : goal.invariant-loop-number
invariant-loop-number l = length (draw_line l.word l.numbers) + l.left ≡ l.room + (length (draw_numbers (drop l.number-index l.numbers)) + 1)
