-- Answers as the numbers that a caller in C or Rust gets.
use Rattle.std.specs.Prelude.{ℕ, List, set, Option, Some, None}
use Rattle.plan.specs.Answer.{Answer, Taken, Refused}
use Rattle.cells.specs.Step.{Step}
use Rattle.cells.specs.Step as step
use Rattle.cells.specs.Calls.{step_answer, step_wait}
use Rattle.call_list.specs.Table.{seven_of, put_seven}
use Rattle.fit.specs.Change.{Fit}
use Rattle.fit.specs.Change as fit

-- a plan's number: 0 where it is taken
unfoldable pub read_number : Answer → ℕ
read_number (Taken nodes hubs at line) = 0
read_number (Refused line number) = number

-- nodes, hubs, where the events start and on which line; a refused plan's line alone, and the rest stays
unfoldable pub put_told : Answer → List ℕ → List ℕ
put_told (Taken nodes hubs at line) s = set (set (set (set s 0 nodes) 1 hubs) 2 at) 3 line
put_told (Refused line number) s = set s 3 line

-- a step's first number
unfoldable pub step_number : Step → ℕ
step_number x = (seven_of (step_answer x) (step_wait x)).number

-- a step's seven numbers; a refused step writes none of them
unfoldable pub put_step : Step → List ℕ → List ℕ
put_step x s =
    let seven = put_seven 0 (seven_of (step_answer x) (step_wait x)) s in
    elim x [ step.Grant time node class end moves wait ↦ seven | step.Rest time moves ↦ seven | step.Quiet ↦ seven | step.Refused n ↦ s ]

-- the case of a change and its number, behind a 17; any other answer writes neither
unfoldable pub put_fit : Fit → List ℕ → List ℕ
put_fit (fit.Answer r) s = s
put_fit (fit.Packets n) s = set (set s 0 1) 1 n
put_fit (fit.Bits b) s = set (set s 0 2) 1 b
put_fit (fit.Release j) s = set (set s 0 3) 1 j
put_fit fit.Nothing s = set (set s 0 4) 1 0

-- where a log ends; what was there where it didn't fit
unfoldable pub put_end : Option ℕ → List ℕ → List ℕ
put_end (Some z) s = set s 0 z
put_end None s = s
