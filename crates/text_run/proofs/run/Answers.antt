-- `text_run::run` meets its contract: nothing is touched where the log doesn't
-- fit, and the second pass writes it whole where it does. Assumes nothing.
use mathlib.Core.Path.{sym, ◌∙◌}
use Rattle.text_run.proofs.TwoPasses.{not_written, written_whole}
use Rattle.text_run.proofs.run.Goals as goal

pub returns-then-not-log_fits : goal.returns-then-not-log_fits
returns-then-not-log_fits c =
    let a = c.args in
    let f = c.log_fits.ensures in
    let left = not_written a.text.now a.plan.now a.s.now a.buffer.now f.buffer_unchanged (sym f.value ∙ c.if-not-log_fits.true) in
    record { value = left.0; buffer_after = left.1.0; result_value = left.1.1.0; plan_after = left.1.1.1.0; s_after = left.1.1.1.1 }

pub returns : goal.returns
returns c =
    let a = c.args in
    let f = c.log_fits.ensures in
    let p = c.pass.ensures in
    let left = written_whole a.text.now a.plan.now a.s.now a.buffer.now f.buffer_unchanged (sym f.value ∙ c.if-not-log_fits.false) (p.value, (p.s_after, (p.buffer_after, p.plan_after))) in
    record { value = left.0; buffer_after = left.1.0; result_value = left.1.1.0; plan_after = left.1.1.1.0; s_after = left.1.1.1.1 }
