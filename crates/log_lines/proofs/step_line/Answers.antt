-- `log_lines::step_line` meets its contract: a refused step writes nothing. Assumes nothing.
use Rattle.std.specs.Prelude.{Result, Ok, Err}
use mathlib.Core.Path.{◌≡◌}
use mathlib.Core.List.{[]}
use Rattle.cells.specs.Step.{told_step}
use Rattle.cells.specs.declared.Refusal.{Refusal}
use Rattle.cells.specs.declared.Step.{Step}
use Rattle.log_lines.specs.Lines.{step_line}
use Rattle.log_lines.proofs.PutSame.{none-same}
use Rattle.log_lines.proofs.step_line.Goals as goal

refused : (x : Result Step Refusal) (r : Refusal) → x ≡ Err r → [] ≡ step_line (told_step x)
unfolding step_line
refused x r e = rw e

pub returns-in-Err : goal.returns-in-Err
returns-in-Err c =
    let a = c.args in
    let p = c.put_word in
    let same = none-same a.write a.buffer.now a.at p.result p.new.buffer p.ensures (refused a.answer c.in-Err.field-0 c.in-Err.is) in
    record { value = same.0; buffer_after = same.1.0; result_value = same.1.1 }
