-- The whole table by computing: each text is read, and each call made, by the definitions that `unfolding` names.
use mathlib.Core.Path.{refl}
use mathlib.Core.List.{flatten}
use Rattle.text.specs.Number.{digit_run, keep_digit, well_formed, value_from, read_run, read_number}
use Rattle.text.specs.Line.{before, lines}
use Rattle.text.specs.Word.{starts_with, is_word}
use Rattle.text.specs.Form.{and_then, read_spaced, read_close, read_numbers, read_behind, read_form}
use Rattle.plan_tree.specs.Kind.{kind_of}
use Rattle.plan_tree.specs.Tables.{put_empty, put_node, put_hub, put_ports, put_root}
use Rattle.plan.specs.Tables.{put_figures, plan_of}
use Rattle.plan.specs.Reading.{hub_lines, root_line, strict_line, framing_line, interrupt_line, overhead_line, frame_line, reading}
use Rattle.rules.specs.Choice.{any, sum, first}
use Rattle.rules.specs.Core.{advance, counts_in, counts, held, due, sought}
use Rattle.rules.specs.Control.{below, lowest, walk, led, nearest, choose_by, choose_from_root, control, from_root}
use Rattle.rules.specs.Machine.{perform}
use Rattle.rules.specs.Run.{made}
use Rattle.trials.specs.Text.{bytes, text_of}
use Rattle.trials.specs.Row.{outcome, AllRight}
use Rattle.trials.specs.Cases.{cases_from_root}
use Rattle.trials.specs.Table.{table}

pub all_right : AllRight control table
unfolding
    flatten bytes text_of table outcome
    before lines digit_run keep_digit well_formed value_from read_run read_number starts_with is_word and_then read_spaced read_close read_numbers read_behind read_form
    kind_of reading frame_line overhead_line interrupt_line framing_line strict_line root_line hub_lines put_root put_node put_empty put_hub put_ports put_figures plan_of
    any sum first advance counts_in counts held due sought below lowest walk led nearest choose_by perform made
all_right = refl

-- and by the old rule 2, where cases say what it took
pub from_root_right : AllRight from_root cases_from_root
unfolding
    flatten bytes text_of outcome
    before lines digit_run keep_digit well_formed value_from read_run read_number starts_with is_word and_then read_spaced read_close read_numbers read_behind read_form
    kind_of reading frame_line overhead_line interrupt_line framing_line strict_line root_line hub_lines put_root put_node put_empty put_hub put_ports put_figures plan_of
    any sum first advance counts_in counts held due sought below lowest walk choose_from_root perform made
from_root_right = refl
