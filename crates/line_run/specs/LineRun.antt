-- One line that the reader handed out.
use Rattle.std.specs.Prelude.{ℕ, ◌≡◌, Bool, true, false, List, [], ◌∷◌, Option, Some, None, Result, Ok}
use Rattle.log_lines.specs.FirstLine.{refused_line}
use Rattle.event_lines.specs.Event.{event_of, call_on}
use Rattle.cells.specs.declared.Step.{Step}
use Rattle.cells.specs.declared.Refusal.{Refusal}
use Rattle.cells.specs.Step.{told_step}
use Rattle.log_spec.specs.Cells.{Run, more, line, event_line_by}

-- a step's answer is handed on just where more steps may follow it
abbrev pub Moving : Result Step Refusal → Option Step → Type 0
Moving answer (Some step) = (answer ≡ Ok step) × (more (told_step answer) ≡ true)
Moving answer None = more (told_step answer) ≡ false

-- a run that has left this answer, these cells and this buffer
abbrev pub Ran : Run → Option ℕ → List ℕ → List ℕ → Type 0
Ran x r s b = (r ≡ x.put) × ((s ≡ x.cells) × (b ≡ x.buffer))

-- a line with its LF is an event's; bytes without one are refused by row 1; where there is neither, nothing is left
unfoldable pub line_by : Bool → List ℕ → List ℕ → ℕ → Bool → List ℕ → List ℕ → ℕ → Run
line_by write P bytes number true s buffer at = event_line_by write P number (call_on (event_of bytes)) s buffer at
line_by write P [] number false s buffer at = record { put = Some at; cells = s; buffer = buffer }
line_by write P (b ∷ bytes) number false s buffer at = line write (refused_line number 1) s buffer at
