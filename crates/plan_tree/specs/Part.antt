-- What a part of the plan's reader answers, in the words of document 01: a line is refused with the number of a row.
use Rattle.std.specs.Prelude.{ℕ, List, Result, Ok, Err}
use Rattle.text.specs.Part.{part}
use Rattle.text.specs.declared.Cursor.{Cursor}
use Rattle.text.specs.declared.Next.{Next}
use Rattle.text.specs.declared.Next.TheVariants.{Line, Unended, Done}
use Rattle.plan_tree.specs.declared.Place.{Place}
use Rattle.plan_tree.specs.declared.Line as code
use Rattle.plan_tree.specs.declared.Row.{Row}
use Rattle.plan_tree.specs.declared.Row.TheVariants.{Form, Range, Tree, Framing}
use Rattle.plan_tree.specs.declared.Refused.{Refused}

-- the number of a row in the table
abbrev pub row_number : Row → ℕ
row_number Form = 1
row_number Range = 2
row_number Tree = 3
row_number Framing = 4

-- a part of the plan was read up to a place, or a line is refused with a number
pub data Part : Type 0 where
  Read : Place → Part
  Stopped : ℕ → ℕ → Part

abbrev pub told_part : Result Place Refused → Part
told_part (Ok x) = Read x
told_part (Err e) = Stopped e.line (row_number e.row)

-- a whole line: its bytes, its number and the cursor behind it; or a line is refused with a number
pub data Found : Type 0 where
  Whole : List ℕ → ℕ → Cursor → Found
  Missing : ℕ → ℕ → Found

-- by what the scanner answers: one whose LF is missing, and a text that ends early, are row 1
abbrev pub found : List ℕ → Next → Found
found text (Line start end number next) = Whole (part text start end) number next
found text (Unended start end number) = Missing number 1
found text (Done number) = Missing number 1

abbrev pub told_line : Result code.Line Refused → Found
told_line (Ok x) = Whole x.bytes.now x.number x.next
told_line (Err e) = Missing e.line (row_number e.row)
