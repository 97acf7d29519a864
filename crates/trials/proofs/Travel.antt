-- The worked runs of request 13 on plans that are taken, by computing.
use mathlib.Core.Path.{refl}
use Rattle.text.specs.Number.{digit_run, keep_digit, well_formed, value_from, read_run, read_number}
use Rattle.text.specs.Line.{before, lines}
use Rattle.text.specs.Word.{starts_with, is_word}
use Rattle.text.specs.Form.{and_then, read_spaced, read_close, read_numbers, read_behind, read_form}
use Rattle.plan_tree.specs.Kind.{kind_of}
use Rattle.plan_tree.specs.Tables.{put_empty, put_node, put_hub, put_ports, put_root}
use Rattle.plan.specs.Tables.{put_figures, plan_of}
use Rattle.plan.specs.Reading.{hub_lines, root_line, strict_line, framing_line, interrupt_line, overhead_line, frame_line, reading}
use Rattle.rules.specs.Choice.{any, sum, first}
use Rattle.rules.specs.Core.{advance, counts_in, counts, held, due, sought}
use Rattle.rules.specs.Control.{below, lowest, walk, led, nearest, choose_by}
use Rattle.rules.specs.Machine.{perform}
use Rattle.rules.specs.Run.{made}
use Rattle.rules.specs.Travel.{walk_returns, choose_returns, returns, latest_node, rounds, travel, unbroken}
use Rattle.rules.specs.TravelRuns.{figures}
use Rattle.trials.specs.Text.{bytes, text_of}
use Rattle.trials.specs.Row.{outcome}
use Rattle.trials.specs.Travel.{AllTaken, AllAsWorked}

pub all_taken : AllTaken
unfolding
    bytes text_of outcome
    before lines digit_run keep_digit well_formed value_from read_run read_number starts_with is_word and_then read_spaced read_close read_numbers read_behind read_form
    kind_of reading frame_line overhead_line interrupt_line framing_line strict_line root_line hub_lines put_root put_node put_empty put_hub put_ports put_figures plan_of
    any sum first advance counts_in counts held due sought below lowest walk led nearest choose_by perform made
all_taken = refl

pub all_as_worked : AllAsWorked
unfolding
    bytes text_of figures
    before lines digit_run keep_digit well_formed value_from read_run read_number starts_with is_word and_then read_spaced read_close read_numbers read_behind read_form
    kind_of reading frame_line overhead_line interrupt_line framing_line strict_line root_line hub_lines put_root put_node put_empty put_hub put_ports put_figures plan_of
    any sum first advance counts_in counts held due sought below lowest walk led nearest choose_by perform made
    walk_returns choose_returns returns latest_node rounds travel unbroken
all_as_worked = refl
