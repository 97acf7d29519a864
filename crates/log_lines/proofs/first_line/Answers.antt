-- `log_lines::first_line` meets its contract: a taken plan's line, and a refused one's. Assumes nothing.
use Rattle.std.specs.Prelude.{Result, Ok, Err}
use mathlib.Core.Path.{◌≡◌}
use Prim.Native.Nat.{ℕ}
use native.Mathlib.Omega.{arith}
use Rattle.plan.specs.declared.Taken.{Taken}
use Rattle.log_lines.specs.FirstLine.{nodes_line, refused_line, told_numbers, first_line}
use Rattle.log_lines.proofs.PutSame.{put_same_3}
use Rattle.log_lines.proofs.first_line.Goals as goal

-- the line by what the answer is
taken : (x : Result Taken (ℕ × ℕ)) (t : Taken) → x ≡ Ok t → nodes_line t.nodes t.hubs ≡ first_line (told_numbers x)
unfolding first_line
taken x t e = rw e

refused : (x : Result Taken (ℕ × ℕ)) (l n : ℕ) → x ≡ Err (l, n) → {k m : ℕ} → k ≡ l → m ≡ n → refused_line k m ≡ first_line (told_numbers x)
unfolding first_line
refused x l n e p q = rw (e, p, q)

pub returns-in-Ok : goal.returns-in-Ok
returns-in-Ok c =
    let a = c.args in
    let p = c.nodes_line in
    let same = put_same_3 a.write a.buffer.now a.at p.result p.new.buffer p.ensures (taken a.answer c.in-Ok.taken c.in-Ok.is) in
    record { value = same.0; buffer_after = same.1.0; result_value = same.1.1 }

pub returns-in-Err : goal.returns-in-Err
returns-in-Err c =
    let a = c.args in
    let p = c.refused_line in
    let x = c.in-Err in
    let same = put_same_3 a.write a.buffer.now a.at p.result p.new.buffer (p.ensures.value, p.ensures.buffer_after, p.ensures.result_value)
    (refused a.answer x.line x.number x.is (omega arith) (omega arith)) in
    record { value = same.0; buffer_after = same.1.0; result_value = same.1.1 }
