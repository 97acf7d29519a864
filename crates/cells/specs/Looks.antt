-- Looks at a hub over the cells: the counts of rules/specs/Looks.antt, beside the definitions of Turns and Calls, case by case.
use Rattle.std.specs.Prelude.{ℕ, zero, suc, ◌+◌, Bool, List, ltb, eqb, get_or, if◌then◌else◌, Option, Some, None}
use Rattle.rules.specs.Plan.{most_levels}
use Rattle.rules.specs.Call.{Call, ask, off, reserve, until, step}
use Rattle.rules.specs.Control.{most_looks}
use Rattle.ports.specs.Mask.{digit}
use Rattle.plan_tree.specs.Tables as plan
use Rattle.cells.specs.declared.Look.{Look}
use Rattle.cells.specs.declared.Look.TheVariants.{Node, Pass, Round, Stop}
use Rattle.cells.specs.Sought.{Sought}
use Rattle.cells.specs.Sought as seek
use Rattle.cells.specs.Layout.{holder_cell, class_cell, if_hub}
use Rattle.cells.specs.Decode.{plan_in}
use Rattle.cells.specs.Frames.{advance_by}
use Rattle.cells.specs.Instants.{due_by, sought_by}
use Rattle.cells.specs.Turns.{look_by, turning_by}
use Rattle.cells.specs.Calls.{row_by}

-- beside `after_look`: the look counts 1, and then those that follow it
abbrev pub after_look_looks : (ℕ → List ℕ → ℕ) → Look → List ℕ → ℕ
after_look_looks again (Node k) s = 1
after_look_looks again (Pass h) s = again h s + 1
after_look_looks again Round s = again 1 s + 1
after_look_looks again Stop s = 1

-- beside `walk_by`
unfoldable pub walk_by_looks : List ℕ → Bool → ℕ → ℕ → List ℕ → ℕ
walk_by_looks P is_high zero g s = 0
walk_by_looks P is_high (suc looks) g s =
    if_hub g (after_look_looks (walk_by_looks P is_high looks) (look_by P is_high g s).look (look_by P is_high g s).cells) 0

-- beside `nearest_by`: a test of the pointer of each hub from g up to the root, in one pass
unfoldable pub nearest_by_looks : List ℕ → ℕ → ℕ → ℕ
nearest_by_looks P zero g = 0
nearest_by_looks P (suc levels) g = if_hub g (if eqb g 1 then 1 else nearest_by_looks P levels (get_or P (plan.parent_cell g) 0) + 1) 0

-- beside `walked`, which names `turning_by` twice: it is found once
unfoldable pub walked_looks : List ℕ → Bool → List ℕ → ℕ
walked_looks P is_high s =
    if eqb (get_or s class_cell 0) (digit is_high) then walk_by_looks P is_high most_looks (get_or s holder_cell 0) s
    else nearest_by_looks P most_levels (get_or s holder_cell 0) + walk_by_looks P is_high most_looks (turning_by P is_high s) s

-- beside `handled_by`, `step_due` and `step_by`: a rest looks at no hub
unfoldable pub handled_looks : List ℕ → Sought → List ℕ → ℕ
handled_looks P (seek.Class is_high) s = walked_looks P is_high s
handled_looks P seek.Nothing s = 0

unfoldable pub step_due_looks : List ℕ → Option ℕ → ℕ → List ℕ → ℕ
step_due_looks P None t s = 0
step_due_looks P (Some d) t s = if ltb d t then handled_looks P (sought_by (advance_by P d s)) (advance_by P d s) else 0

unfoldable pub step_looks : List ℕ → ℕ → List ℕ → ℕ
step_looks P t s = if eqb (row_by P (step t) s) 0 then step_due_looks P (due_by (plan_in P) s) t s else 0

-- beside `perform_by`: the looks of one call
unfoldable pub looks_by : List ℕ → Call → List ℕ → ℕ
looks_by P (step t) s = step_looks P t s
looks_by P (ask c t k b) s = 0
looks_by P (off t k) s = 0
looks_by P (reserve t k n b) s = 0
looks_by P (until t) s = 0
