-- What the functions that read the header answer, in the words of PlanReader.
use Rattle.std.specs.Prelude.{ℕ, List, eqb, if◌then◌else◌, Result, Ok, Err, Option, Some, None}
use Rattle.text.specs.declared.Cursor.{Cursor}
use Rattle.header.specs.Figure.{Figure, Got, Not}
use Rattle.plan_tree.specs.declared.Row.{Row}
use Rattle.plan_tree.specs.declared.Refused.{Refused}
use Rattle.plan_tree.specs.Part.{row_number}
use Rattle.plan.specs.declared.figures.Figures as code
use Rattle.plan.specs.Tables.{Figures}
use Rattle.plan.specs.Reading.{Read, framing_row}
use Rattle.plan.specs.PlanReader.{refused, hub_at}

abbrev pub figures_of : code.Figures → Figures
figures_of f = record { frame = f.frame; overhead = f.overhead; interrupt = f.interrupt; framing = f.framing; strict = f.strict }

-- 0, or the number of the row that refuses
abbrev pub row_or_0 : Result (Unit {0}) Row → ℕ
row_or_0 (Ok _) = 0
row_or_0 (Err row) = row_number row

-- by the framing's line at c, which may be missing: the framing with where the next line starts, or this line is refused
abbrev pub framing_of : Option (ℕ × Cursor) → Cursor → ℕ → ℕ → Figure
framing_of (Some x) c O D = if eqb (framing_row O D x.0) 0 then Got x.0 x.1 else Not c.number (framing_row O D x.0)
framing_of None c O D = Got 3 c

-- the root behind the header's figures, or a line of the header is refused
abbrev pub behind_figures : List ℕ → ℕ → Result (code.Figures × Cursor) Refused → Read
behind_figures text left (Ok x) = hub_at text left (figures_of x.0) x.1
behind_figures text left (Err e) = refused e.line (row_number e.row)
