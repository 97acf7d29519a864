-- Lines of the log, byte by byte, by computing: two first ones, those of steps, and those of answers in the words of `rules`.
use mathlib.Core.Path.{◌≡◌, refl}
use mathlib.Core.List.{[], ◌∷◌}
use Rattle.text.specs.Number.{digits, digits_by}
use Rattle.text.specs.Form.{draw_form, draw_numbers}
use Rattle.writer.specs.Write.{draw_line}
use Rattle.plan.specs.Answer.{Taken, Refused}
use Rattle.rules.specs.Call.{high, refused, grant}
use Rattle.cells.specs.Step.{Grant, Rest}
use Rattle.log_lines.specs.FirstLine.{nodes_head, nodes_line, refused_line, first_line}
use Rattle.log_lines.specs.Lines.{grant_line, rest_line, step_line, answer_line}

-- `(nodes 4 hubs 2)`
taken_plan : first_line (Taken 4 2 91 12) ≡ 40 ∷ 110 ∷ 111 ∷ 100 ∷ 101 ∷ 115 ∷ 32 ∷ 52 ∷ 32 ∷ 104 ∷ 117 ∷ 98 ∷ 115 ∷ 32 ∷ 50 ∷ 41 ∷ 10 ∷ []
unfolding first_line nodes_line nodes_head draw_line draw_form draw_numbers digits digits_by
taken_plan = refl

-- `(refused 15 16)`
refused_plan : first_line (Refused 15 16) ≡ 40 ∷ 114 ∷ 101 ∷ 102 ∷ 117 ∷ 115 ∷ 101 ∷ 100 ∷ 32 ∷ 49 ∷ 53 ∷ 32 ∷ 49 ∷ 54 ∷ 41 ∷ 10 ∷ []
unfolding first_line refused_line draw_line draw_form draw_numbers digits digits_by
refused_plan = refl

-- `(grant 7 3 2 40 1 5)`
granted : step_line (Grant 7 3 2 40 1 5) ≡ 40 ∷ 103 ∷ 114 ∷ 97 ∷ 110 ∷ 116 ∷ 32 ∷ 55 ∷ 32 ∷ 51 ∷ 32 ∷ 50 ∷ 32 ∷ 52 ∷ 48 ∷ 32 ∷ 49 ∷ 32 ∷ 53 ∷ 41 ∷ 10 ∷ []
unfolding step_line grant_line draw_line draw_form draw_numbers digits digits_by
granted = refl

-- `(grant 7 3 2 40 1 5)`
granted_answer : answer_line 15 (grant 7 3 high 40 1) 5 ≡ 40 ∷ 103 ∷ 114 ∷ 97 ∷ 110 ∷ 116 ∷ 32 ∷ 55 ∷ 32 ∷ 51 ∷ 32 ∷ 50 ∷ 32 ∷ 52 ∷ 48 ∷ 32 ∷ 49 ∷ 32 ∷ 53 ∷ 41 ∷ 10 ∷ []
unfolding answer_line grant_line draw_line draw_form draw_numbers digits digits_by
granted_answer = refl

-- `(grant 13000 4 1 20000 0 13000)`, the second grant of document 01's log, with its wait
waited : step_line (Grant 13000 4 1 20000 0 13000) ≡
    40 ∷ 103 ∷ 114 ∷ 97 ∷ 110 ∷ 116 ∷ 32 ∷ 49 ∷ 51 ∷ 48 ∷ 48 ∷ 48 ∷ 32 ∷ 52 ∷ 32 ∷ 49 ∷ 32 ∷ 50 ∷ 48 ∷ 48 ∷ 48 ∷ 48 ∷ 32 ∷ 48 ∷ 32 ∷ 49 ∷ 51 ∷ 48 ∷ 48 ∷ 48 ∷ 41 ∷ 10 ∷ []
unfolding step_line grant_line draw_line draw_form draw_numbers digits digits_by
waited = refl

-- `(rest 40 2)`
rested : step_line (Rest 40 2) ≡ 40 ∷ 114 ∷ 101 ∷ 115 ∷ 116 ∷ 32 ∷ 52 ∷ 48 ∷ 32 ∷ 50 ∷ 41 ∷ 10 ∷ []
unfolding step_line rest_line draw_line draw_form draw_numbers digits digits_by
rested = refl

-- `(refused 15 16)`
refused_event : answer_line 15 (refused 16) 0 ≡ 40 ∷ 114 ∷ 101 ∷ 102 ∷ 117 ∷ 115 ∷ 101 ∷ 100 ∷ 32 ∷ 49 ∷ 53 ∷ 32 ∷ 49 ∷ 54 ∷ 41 ∷ 10 ∷ []
unfolding answer_line refused_line draw_line draw_form draw_numbers digits digits_by
refused_event = refl
