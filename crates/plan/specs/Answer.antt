-- What the plan's reader answers, in the words of document 01: a plan is taken, or a line is refused with the number of a row.
use Rattle.std.specs.Prelude.{ℕ, Result, Ok, Err}
use Rattle.plan_tree.specs.declared.Refused as tree
use Rattle.plan_tree.specs.Part.{row_number}
use Rattle.plan.specs.declared.Taken as code

-- taken with its nodes and hubs, and the byte and line at which its events start; or a line is refused with a number
pub data Answer : Type 0 where
  Taken : ℕ → ℕ → ℕ → ℕ → Answer
  Refused : ℕ → ℕ → Answer

abbrev pub told_answer : Result code.Taken tree.Refused → Answer
told_answer (Ok x) = Taken x.nodes x.hubs x.at x.line
told_answer (Err e) = Refused e.line (row_number e.row)
