-- `log_lines::made_line` meets its contract: each step's form is its line, and a quiet one's nothing. Assumes nothing.
use Rattle.std.specs.Prelude.{Ok}
use mathlib.Core.Path.{◌≡◌}
use mathlib.Core.List.{[], ◌∷◌}
use Prim.Native.Nat.{ℕ}
use Rattle.cells.specs.Step.{class_number, told_step}
use Rattle.cells.specs.Sought.{is_high}
use Rattle.cells.specs.declared.Class.{Class}
use Rattle.cells.specs.declared.Step.{Step}
use Rattle.cells.specs.declared.Step.TheVariants.{Grant, Rest, Quiet}
use Rattle.writer.specs.Write.{draw_line}
use Rattle.log_lines.specs.Lines.{grant_word, rest_word, grant_line, rest_line, step_line}
use Rattle.log_lines.proofs.PutSame.{put_same_3, none-same}
use Rattle.log_lines.proofs.made_line.Goals as goal

-- the line by what the step is
granted : (x : Step) (s k n end moves wait : ℕ) (class : Class) → x ≡ Grant s k class end moves wait → n ≡ class_number (is_high class)
    → draw_line grant_word (s ∷ k ∷ n ∷ end ∷ moves ∷ wait ∷ []) ≡ step_line (told_step (Ok x))
unfolding step_line grant_line
granted x s k n end moves wait class e c = rw (e, c)

rested : (x : Step) (s moves : ℕ) → x ≡ Rest s moves → draw_line rest_word (s ∷ moves ∷ []) ≡ step_line (told_step (Ok x))
unfolding step_line rest_line
rested x s moves e = rw e

quiet : (x : Step) → x ≡ Quiet → [] ≡ step_line (told_step (Ok x))
unfolding step_line
quiet x e = rw e

pub returns-in-Grant : goal.returns-in-Grant
returns-in-Grant c =
    let a = c.args in
    let p = c.put_form in
    let line =
    granted a.step c.in-Grant.time c.in-Grant.node c.from.result c.in-Grant.end c.in-Grant.moves c.in-Grant.wait c.in-Grant.class c.in-Grant.is c.from.ensures in
    let same = put_same_3 a.write a.buffer.now a.at p.result p.new.buffer p.ensures line in
    record { value = same.0; buffer_after = same.1.0; result_value = same.1.1 }

pub returns-in-Rest : goal.returns-in-Rest
returns-in-Rest c =
    let a = c.args in
    let p = c.put_form-in-Rest in
    let same = put_same_3 a.write a.buffer.now a.at p.result p.new.buffer p.ensures (rested a.step c.in-Rest.time c.in-Rest.moves c.in-Rest.is) in
    record { value = same.0; buffer_after = same.1.0; result_value = same.1.1 }

pub returns-in-Quiet : goal.returns-in-Quiet
returns-in-Quiet c =
    let a = c.args in
    let p = c.put_word in
    let same = none-same a.write a.buffer.now a.at p.result p.new.buffer p.ensures (quiet a.step c.in-Quiet.is) in
    record { value = same.0; buffer_after = same.1.0; result_value = same.1.1 }
