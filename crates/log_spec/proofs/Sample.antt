-- Document 01's example under "The log", by computing: with the line `(strict)` its text has the nine lines that stand there, but that
-- the refused line is one further down and each grant names its wait (request 1 of document 02). And its text without the line.
use Prim.Native.String.{String}
use mathlib.Core.Path.{◌≡◌, refl}
use mathlib.Core.List.{List, [], ◌∷◌, ◌++◌, flatten}
use Rattle.text.specs.Number.{digits_by, digits, digit_run, keep_digit, well_formed, value_from, read_run, read_number}
use Rattle.text.specs.Line.{before, lines}
use Rattle.text.specs.Word.{starts_with, is_word}
use Rattle.text.specs.Form.{draw_numbers, draw_form, and_then, read_spaced, read_close, read_numbers, read_behind, read_form}
use Rattle.writer.specs.Write.{draw_line}
use Rattle.plan_tree.specs.Kind.{kind_of}
use Rattle.plan_tree.specs.Tables.{put_empty, put_node, put_hub, put_ports, put_root}
use Rattle.plan.specs.Tables.{put_figures, plan_of}
use Rattle.plan.specs.Reading.{hub_lines, root_line, strict_line, framing_line, interrupt_line, overhead_line, frame_line, reading}
use Rattle.rules.specs.Choice.{any, sum, first}
use Rattle.rules.specs.Core.{advance, counts_in, counts, held, due, sought}
use Rattle.rules.specs.Control.{below, lowest, walk, led, nearest, choose_by}
use Rattle.rules.specs.Machine.{perform}
use Rattle.rules.specs.Waits.{come_to}
use Rattle.log_lines.specs.Handed.{handed}
use Rattle.log_lines.specs.FirstLine.{nodes_head, nodes_line, refused_line}
use Rattle.event_lines.specs.Event.{event_of}
use Rattle.log_lines.specs.Lines.{grant_line, rest_line, answer_line}
use Rattle.trials.specs.Text.{bytes, text_of}
use Rattle.trials.specs.Plans.{figures01, tree01}
use Rattle.log_spec.specs.Log.{steps, steps_before, event_log, events_log, plan_log, log_of}

abbrev events01 : List String
events01 =
    "(reserve 0 3 2 4000)" ∷ "(normal 0 1 12000)" ∷ "(normal 0 4 6000)" ∷ "(high 0 3 4000)"
    ∷ "(normal 99000 2 12000)" ∷ "(high 100000 3 4000)" ∷ "(normal 100000 1 1000)" ∷ "(until 200000)" ∷ []

abbrev log01 : List String
log01 =
    "(nodes 4 hubs 2)" ∷ "(refused 16 16)" ∷ "(grant 0 1 1 13000 0 0)" ∷ "(grant 13000 4 1 20000 0 13000)" ∷ "(rest 20000 0)"
    ∷ "(grant 99000 2 1 112000 1 0)" ∷ "(grant 112000 3 2 117000 2 12000)" ∷ "(grant 117000 1 1 119000 1 17000)" ∷ "(rest 119000 0)" ∷ []

-- without `(strict)` nothing is refused, and node 3's first packet is sent as a normal one
abbrev log01_default : List String
log01_default =
    "(nodes 4 hubs 2)" ∷ "(grant 0 1 1 13000 0 0)" ∷ "(grant 13000 3 1 18000 1 13000)" ∷ "(grant 18000 4 1 25000 1 18000)" ∷ "(rest 25000 0)"
    ∷ "(grant 99000 2 1 112000 1 0)" ∷ "(grant 112000 3 2 117000 2 12000)" ∷ "(grant 117000 1 1 119000 1 17000)" ∷ "(rest 119000 0)" ∷ []

-- both texts' logs
pub record Examples : Type 0 where
  pub strict : flatten (log_of (text_of (figures01 ++ "(strict)" ∷ tree01 ++ events01))) ≡ text_of log01
  pub default : flatten (log_of (text_of (figures01 ++ tree01 ++ events01))) ≡ text_of log01_default

pub examples : Examples
unfolding
    flatten bytes text_of handed
    before lines digit_run keep_digit well_formed value_from read_run read_number starts_with is_word and_then read_spaced read_close read_numbers read_behind read_form
    kind_of reading frame_line overhead_line interrupt_line framing_line strict_line root_line hub_lines put_root put_node put_empty put_hub put_ports put_figures plan_of
    any sum first advance counts_in counts held due sought below lowest walk led nearest choose_by perform come_to
    event_of steps steps_before event_log events_log plan_log log_of
    digits_by digits draw_numbers draw_form draw_line nodes_head nodes_line refused_line grant_line rest_line answer_line
examples = record { strict = refl; default = refl }
