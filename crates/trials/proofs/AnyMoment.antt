-- The worked waits of request 5 on a plan that is taken, by computing; and the theorem, of the one over a frame's start.
use mathlib.Core.Path.{refl}
use Rattle.text.specs.Number.{digit_run, keep_digit, well_formed, value_from, read_run, read_number}
use Rattle.text.specs.Line.{before, lines}
use Rattle.text.specs.Word.{starts_with, is_word}
use Rattle.text.specs.Form.{and_then, read_spaced, read_close, read_numbers, read_behind, read_form}
use Rattle.plan_tree.specs.Kind.{kind_of}
use Rattle.plan_tree.specs.Tables.{put_empty, put_node, put_hub, put_ports, put_root}
use Rattle.plan.specs.Tables.{put_figures, plan_of}
use Rattle.plan.specs.Reading.{hub_lines, root_line, strict_line, framing_line, interrupt_line, overhead_line, frame_line, reading}
use Rattle.plan_theory.proofs.TakenPlan.{taken_plan}
use Rattle.rules.specs.Choice.{any, sum, first}
use Rattle.rules.specs.Core.{advance, counts_in, counts, held, due, sought}
use Rattle.rules.specs.Control.{below, lowest, walk, led, nearest, choose_by}
use Rattle.rules.specs.Machine.{perform}
use Rattle.rules.specs.Run.{made}
use Rattle.rules.specs.Words.{clock_at, reserved, high_grants}
use Rattle.rules.specs.AnyMoment.{first_grant, kept_standing, wait_limit}
use Rattle.rules.specs.AnyMomentRuns.{figures}
use Rattle.rules.proofs.AnyMoment.WorkedWaits.{ItsRequest, its_request, its_grant}
use Rattle.trials.specs.Text.{bytes, text_of}
use Rattle.trials.specs.Plans.{plan01}
use Rattle.trials.specs.AnyMoment.{PlanTaken, AllAsWorked, across, AcrossServed}

-- the text is taken, the rows are as worked, and all premises hold of the one over a frame's start
pub record Computed : Type 0 where
  pub taken : PlanTaken
  pub as_worked : AllAsWorked
  pub premises : ItsRequest across

pub computed : Computed
unfolding
    bytes text_of figures
    before lines digit_run keep_digit well_formed value_from read_run read_number starts_with is_word and_then read_spaced read_close read_numbers read_behind read_form
    kind_of reading frame_line overhead_line interrupt_line framing_line strict_line root_line hub_lines put_root put_node put_empty put_hub put_ports put_figures plan_of
    any sum first advance counts_in counts held due sought below lowest walk led nearest choose_by perform made
    clock_at reserved high_grants first_grant kept_standing wait_limit
computed = record { taken = refl; as_worked = (refl, refl); premises = its_request across refl refl refl refl refl }

pub across_served : AcrossServed
across_served = its_grant across (taken_plan plan01 4 2 100 13 computed.taken).plan computed.premises
