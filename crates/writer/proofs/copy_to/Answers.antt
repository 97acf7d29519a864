-- `writer::copy_to` meets its contract. The loop's invariant: the first i bytes are copied. Assumes nothing.
use Rattle.std.proofs.Common.{◌≡◌, refl, ◌∙◌, length, add-one, arith}
use lib.Seq.{paste-zero, paste-suc}
use Rattle.writer.proofs.Writes.{paste_all}
use Rattle.writer.proofs.copy_to.Goals as goal

pub loop-i-init : goal.loop-i-init
loop-i-init c =
    let a = c.args in
    paste-zero a.buffer.now a.at a.bytes.now

pub loop-i-preserved : goal.loop-i-preserved
loop-i-preserved c =
    let a = c.args in
    rw (add-one c.loop-i.i, c.loop-i.invariant) (paste-suc a.buffer.now a.at a.bytes.now c.loop-i.i 0 (omega arith) (omega arith))

pub returns : goal.returns
returns c =
    let a = c.args in
    let e : c.loop-i.i ≡ length a.bytes.now = omega arith in
    (refl, c.loop-i.invariant ∙ rw e (paste_all a.buffer.now a.at a.bytes.now))
