-- A step's answer told as seven numbers meets its contract, in each case.
use Prim.Native.Nat.{ℕ}
use mathlib.Core.Path.{ap, ◌∙◌}
use Rattle.cells.specs.Sought.{is_high}
use Rattle.cells.specs.Calls.{step_answer, step_wait}
use Rattle.call_list.specs.Table.{Seven, seven_of}
use Rattle.call_list.proofs.Numbers.{class_told}
use Rattle.call_list.proofs.SevenFromStep.from.Goals as goal

pub returns-in-Grant : goal.returns-in-Grant
unfolding seven_of step_answer step_wait
returns-in-Grant c =
    let x = c.in-Grant in
    rw x.is
    (ap (λ (n : ℕ). record { number = 1; time = x.time; node = x.node; class = n; end = x.end; moves = x.moves; wait = x.wait })
    (c.from.ensures ∙ class_told (is_high x.class)))

pub returns-in-Rest : goal.returns-in-Rest
unfolding seven_of step_answer step_wait
returns-in-Rest c =
    let x = c.in-Rest in
    rw x.is
    (ap (λ (y : Seven). record { number = y.number; time = x.time; node = y.node; class = y.class; end = y.end; moves = x.moves; wait = y.wait })
    c.of_number.ensures)

pub returns-in-Quiet : goal.returns-in-Quiet
unfolding seven_of step_answer step_wait
returns-in-Quiet c = rw c.in-Quiet.is c.of_number-in-Quiet.ensures
