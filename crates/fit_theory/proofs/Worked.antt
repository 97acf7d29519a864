-- The worked list is an extended list, by computing.
use mathlib.Core.Path.{◌≡◌, refl}
use Rattle.text.specs.Number.{digit_run, keep_digit, well_formed, value_from, read_run, read_number}
use Rattle.text.specs.Line.{before, lines}
use Rattle.text.specs.Word.{starts_with, is_word}
use Rattle.text.specs.Form.{and_then, read_spaced, read_close, read_numbers, read_behind, read_form}
use Rattle.plan_tree.specs.Kind.{kind_of}
use Rattle.plan_tree.specs.Tables.{put_empty, put_node, put_hub, put_ports, put_root}
use Rattle.plan.specs.Tables.{put_figures, plan_of}
use Rattle.plan.specs.Reading.{hub_lines, root_line, strict_line, framing_line, interrupt_line, overhead_line, frame_line, reading}
use Rattle.plan_theory.specs.Taken.{TakenAs}
use Rattle.trials.specs.Text.{bytes, text_of}
use Rattle.trials.specs.Plans.{plan01}
use Rattle.rules.specs.Choice.{any, sum, first}
use Rattle.rules.specs.Core.{advance}
use Rattle.ports.specs.Mask.{shows, mask_up_to}
use Rattle.ports.specs.Ports.{with_port, put_port, at_or_after, any_up_to}
use Rattle.ports.specs.Search.{first_of, lowest_from}
use Rattle.cells.specs.Layout.{put_time}
use Rattle.cells.specs.Decode.{core_of, control_of}
use Rattle.cells.specs.Fresh.{pointed, fresh_cells}
use Rattle.cells.specs.Masks.{mend, mend_bit, mend_class, put_request, grant_node}
use Rattle.cells.specs.Waits.{put_since, turn_cells, turn_nodes, turn_all, record_since}
use Rattle.cells.specs.Build.{clear_masks, show_port, show_request, show_nodes, show_hub, show_hubs, build_masks}
use Rattle.cells.specs.Frames.{start_cells, start_nodes, start_frame, advance_by}
use Rattle.cells.specs.Instants.{sought_by, resting_due, due_by}
use Rattle.cells.specs.Turns.{down_by, take_by, up_by, hand_up_by, found_by, look_by, after_look, walk_by, nearer_by, nearest_by, walked, settled, choose_by}
use Rattle.cells.specs.Calls.{rows_by, row_by, change_by, event_by, busy_until, resting, grant_by, rest_by, handled_by, step_due, step_by, step_answer, event_left, perform_by}
use Rattle.beside.specs.Extended.{Extended}
use Rattle.beside.specs.Run.{ran}
use Rattle.beside.proofs.Run.{extended_by}
use Rattle.fit.specs.Fit.{largest_below, cheapest, fit_within, fit_for}
use Rattle.fit_theory.specs.Fitting.{fitting}
use Rattle.fit_theory.specs.Worked.{P01, worked, plan5, long, Worked}
use Rattle.fit_theory.proofs.Fitting.{in_lists}

-- by computing: the text is read, and each call made, by the definitions that `unfolding` names
pub record Computed : Type 0 where
  pub taken : TakenAs plan01 4 2 100 13
  pub answered : (ran fitting P01 worked).items ≡ worked
  pub long_answered : (ran fitting (reading plan5).tables long).items ≡ long

computed : Computed
unfolding
    bytes text_of
    before lines digit_run keep_digit well_formed value_from read_run read_number starts_with is_word and_then read_spaced read_close read_numbers read_behind read_form
    kind_of reading frame_line overhead_line interrupt_line framing_line strict_line root_line hub_lines put_root put_node put_empty put_hub put_ports put_figures plan_of
    any sum first advance shows mask_up_to with_port put_port at_or_after any_up_to first_of lowest_from
    put_time core_of control_of pointed fresh_cells put_since turn_cells turn_nodes turn_all record_since mend mend_bit mend_class put_request grant_node clear_masks show_port show_request show_nodes show_hub show_hubs build_masks start_cells start_nodes start_frame advance_by sought_by resting_due due_by
    down_by take_by up_by hand_up_by found_by look_by after_look walk_by nearer_by nearest_by walked settled choose_by
    rows_by row_by change_by event_by busy_until resting grant_by rest_by handled_by step_due step_by step_answer event_left perform_by
    ran largest_below cheapest fit_within fit_for
computed = record { taken = refl; answered = refl; long_answered = refl }

worked_list : Extended fitting P01 worked tt (ran fitting P01 worked).cells
worked_list = extended_by fitting P01 worked computed.answered

pub as_worked : Worked
as_worked =
    record {
      taken = computed.taken;
      answered = computed.answered;
      long_answered = computed.long_answered;
      list = worked_list;
      in_lists = in_lists plan01 4 2 100 13 computed.taken worked_list;
    }
