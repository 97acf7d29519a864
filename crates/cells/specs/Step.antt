-- The numbers of refusals, and what a step answers, in the words of document 01.
use Rattle.std.specs.Prelude.{ℕ, Bool, ◌+◌, Result, Ok, Err}
use Rattle.ports.specs.Mask.{digit}
use Rattle.cells.specs.declared.Step as code
use Rattle.cells.specs.declared.Step.TheVariants as done
use Rattle.cells.specs.declared.Refusal.{Refusal}
use Rattle.cells.specs.declared.Refusal.TheVariants.{OutOfTime, StillDue, NoNode, TooMany, Outside, Unreserved, Overfull}
use Rattle.cells.specs.declared.Misfit.{Misfit}
use Rattle.cells.specs.declared.Misfit.TheVariants.{Malformed, TooLong}
use Rattle.cells.specs.Sought.{is_high}

-- class 1 is normal, 2 high
abbrev pub class_number : Bool → ℕ
class_number is_high = 1 + digit is_high

-- the number of a row in the table
abbrev pub refusal_number : Refusal → ℕ
refusal_number OutOfTime = 11
refusal_number StillDue = 12
refusal_number NoNode = 13
refusal_number TooMany = 14
refusal_number Outside = 15
refusal_number Unreserved = 16
refusal_number Overfull = 17

-- 0, or the number of the row that refuses
abbrev pub number : Result (Unit {0}) Refusal → ℕ
number (Ok _) = 0
number (Err r) = refusal_number r

-- 0, or why nothing is done with a caller's lists: 1 and 18
abbrev pub misfit_number : Misfit → ℕ
misfit_number Malformed = 1
misfit_number TooLong = 18

abbrev pub list_answer : Result (Unit {0}) Misfit → ℕ
list_answer (Ok _) = 0
list_answer (Err m) = misfit_number m

-- A step's answer. The class is 1 for normal and 2 for high; the wait is the time less that at which the request was first put up.
pub data Step : Type 0 where
  -- time, node, class, end, moves, wait
  Grant : ℕ → ℕ → ℕ → ℕ → ℕ → ℕ → Step
  -- time, moves
  Rest : ℕ → ℕ → Step
  Quiet : Step
  Refused : ℕ → Step

abbrev pub told_step : Result code.Step Refusal → Step
told_step (Ok (done.Grant time node class end moves wait)) = Grant time node (class_number (is_high class)) end moves wait
told_step (Ok (done.Rest time moves)) = Rest time moves
told_step (Ok done.Quiet) = Quiet
told_step (Err r) = Refused (refusal_number r)
