-- `log_lines::refused_line` meets its contract: the form that is written is the line. Assumes nothing.
use mathlib.Core.Path.{refl}
use Rattle.log_lines.specs.FirstLine.{refused_line}
use Rattle.log_lines.proofs.PutSame.{put_same_3}
use Rattle.log_lines.proofs.refused_line.Goals as goal

pub returns : goal.returns
unfolding refused_line
returns c =
    let a = c.args in
    let p = c.put_form in
    let same = put_same_3 a.write a.buffer.now a.at p.result p.new.buffer p.ensures refl in
    record { value = same.0; buffer_after = same.1.0; result_value = same.1.1 }
