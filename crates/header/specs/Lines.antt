-- A line of a plan's header at a cursor, by the scanner: a figure that must stand there, a line that may, and the root's `(hub`.
use Rattle.std.specs.Prelude.{ℕ, ◌&&◌, List, leb, get_or, if◌then◌else◌, Option, Some, None}
use Rattle.std.proofs.Math.Option as math
use Rattle.text.specs.Line.{next_line}
use Rattle.text.specs.Form.{read_form}
use Rattle.text.specs.declared.Cursor.{Cursor}
use Rattle.text.specs.declared.Next.{Next}
use Rattle.plan_tree.specs.Part.{Part, Read, Stopped, Found, Whole, Missing, found}
use Rattle.plan_tree.specs.Kind.{kind_of, is_hub}
use Rattle.header.specs.Figure.{Figure, Got, Not}

-- a figure's range, 2
abbrev pub in_range : ℕ → ℕ → ℕ → ℕ → Cursor → Figure
in_range x low high line next = if leb low x && leb x high then Got x next else Not line 2

-- a figure's form, then its range
abbrev pub figure_of : math.Option (List ℕ) → ℕ → Cursor → ℕ → ℕ → Figure
figure_of (math.some ns) line next low high = in_range (get_or ns 0 0) low high line next
figure_of math.none line next low high = Not line 1

abbrev pub figure_on : Found → List ℕ → ℕ → ℕ → Figure
figure_on (Whole bytes number next) word low high = figure_of (read_form word 1 bytes) number next low high
figure_on (Missing line number) word low high = Not line number

abbrev pub figure_in : List ℕ → Next → List ℕ → ℕ → ℕ → Figure
figure_in text line word low high = figure_on (found text line) word low high

-- the figure of this word, from low to high, at a cursor
unfoldable pub figure_at : List ℕ → Cursor → List ℕ → ℕ → ℕ → Figure
figure_at text c word low high = figure_in text (next_line text c) word low high

-- a line that may be missing says its number, 0 where it has none
abbrev pub optional_of : math.Option (List ℕ) → Cursor → Option (ℕ × Cursor)
optional_of (math.some ns) next = Some (get_or ns 0 0, next)
optional_of math.none next = None

abbrev pub optional_on : Found → List ℕ → ℕ → Option (ℕ × Cursor)
optional_on (Whole bytes number next) word count = optional_of (read_form word count bytes) next
optional_on (Missing line number) word count = None

abbrev pub optional_in : List ℕ → Next → List ℕ → ℕ → Option (ℕ × Cursor)
optional_in text line word count = optional_on (found text line) word count

-- the line of this word and so many numbers, where it stands at a cursor
unfoldable pub optional_at : List ℕ → Cursor → List ℕ → ℕ → Option (ℕ × Cursor)
optional_at text c word count = optional_in text (next_line text c) word count

-- behind the root's `(hub` there is no node yet, and one hub
abbrev pub root_on : Found → Part
root_on (Whole bytes number next) =
    if is_hub (kind_of bytes) then Read (record { at = next.at; number = next.number; nodes = 0; hubs = 1 })
    else Stopped number 1
root_on (Missing line number) = Stopped line number

abbrev pub root_in : List ℕ → Next → Part
root_in text line = root_on (found text line)

-- the root's `(hub` at a cursor
unfoldable pub root_at : List ℕ → Cursor → Part
root_at text c = root_in text (next_line text c)
