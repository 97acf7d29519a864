-- `text_run::holds_any` meets its contract: no log is longer than 18 bytes for each byte that is read, or a
-- refused plan's line. Assumes nothing.
use mathlib.Core.Path.{◌≡◌, ap, ◌∙◌}
use mathlib.Core.Bool.{false≢true}
use mathlib.Core.List.{List}
use Prim.Native.Nat.{ℕ, ◌≤◌}
use borrow.Author.Tests.{leb-true}
use native.Mathlib.Omega.{arith}
use lib.ListN.{length, length-take}
use Rattle.log_lines.specs.Handed.{limit, handed}
use Rattle.text_run.proofs.TwoPasses.{log_room}
use Rattle.text_run.proofs.holds_any.Goals as goal

-- how many bytes are read
few : (text read : List ℕ) → read ≡ handed text → length read ≤ 65536
unfolding handed
few text read e = omega (arith, ap length e ∙ length-take limit text)

pub returns-then-room-lt33 : goal.returns-then-room-lt33
returns-then-room-lt33 c = λ e. absurd (false≢true e)

pub overflow_mul-result : goal.overflow_mul-result
overflow_mul-result c = omega (arith, few c.args.text.now c.handed-read.result.now c.handed-read.ensures)

pub returns : goal.returns
returns c =
    λ e.
    let r = c.handed-read in
    let a = c.args in
    log_room a.text.now a.room (omega arith) (omega (arith, leb-true, ap length r.ensures))
