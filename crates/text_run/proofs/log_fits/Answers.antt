-- `text_run::log_fits` meets its contract: the buffer holds any log of a text as long as this one, or the pass
-- that measures answers as writing the log would, and changes no byte. Assumes nothing.
use mathlib.Core.Path.{◌∙◌}
use Rattle.text_run.proofs.TwoPasses.{large_room, found}
use Rattle.text_run.proofs.log_fits.Goals as goal

pub returns-then-holds_any : goal.returns-then-holds_any
returns-then-holds_any c =
    let a = c.args in
    let all = large_room a.text.now a.buffer.now (c.holds_any.ensures c.if-holds_any.true) in
    record { value = all.0; buffer_unchanged = all.1 }

pub returns : goal.returns
returns c =
    let a = c.args in
    let p = c.pass.ensures in
    let known = found a.text.now _ a.buffer.now p.value p.buffer_after in
    record { value = c.is_some.ensures ∙ known.0; buffer_unchanged = known.1 }
