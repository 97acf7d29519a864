-- What a figure's line answers, in the words of document 01: a line is refused with the number of a row.
use Rattle.std.specs.Prelude.{ℕ, Result, Ok, Err}
use Rattle.text.specs.declared.Cursor.{Cursor}
use Rattle.plan_tree.specs.declared.Refused.{Refused}
use Rattle.plan_tree.specs.Part.{row_number}

-- a figure was read, with the cursor behind its line, or a line is refused with a number
pub data Figure : Type 0 where
  Got : ℕ → Cursor → Figure
  Not : ℕ → ℕ → Figure

abbrev pub told_figure : Result (ℕ × Cursor) Refused → Figure
told_figure (Ok x) = Got x.0 x.1
told_figure (Err e) = Not e.line (row_number e.row)
