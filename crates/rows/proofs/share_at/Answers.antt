-- `share_at` meets its contract: by whether the clock's frame ends.
use mathlib.Core.Path.{sym, ◌∙◌}
use Rattle.rows.proofs.share_at.Goals as goal

pub returns-then-new_frame : goal.returns-then-new_frame
returns-then-new_frame c = rw (sym c.new_frame.ensures ∙ c.if-new_frame.true)

pub returns : goal.returns
returns c = rw (sym c.new_frame.ensures ∙ c.if-new_frame.false)
