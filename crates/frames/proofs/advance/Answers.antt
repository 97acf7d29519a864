-- `frames::advance` meets its contract: by whether a frame starts on the way, a law of Starting.
use mathlib.Core.Path.{sym, ◌∙◌}
use Rattle.frames.proofs.Starting.{comes_with_start, comes_alone}
use Rattle.frames.proofs.advance.Goals as goal
use Rattle.frames.proofs.advance.Goals.{then-new_frame, else-new_frame}

pub start_at-requires : goal.start_at-requires
start_at-requires c = sym c.new_frame.ensures ∙ c.if-new_frame.true

pub returns : goal.returns
returns c =
    let a = c.args in
    c.put_clock.ensures
    ∙ (elim c.if-new_frame.branch [
      | then-new_frame w ↦ comes_with_start a.p.now a.s.now a.t _ (sym c.new_frame.ensures ∙ w.if-new_frame.true) (w.s-is ∙ w.start_at.ensures)
      | else-new_frame w ↦ comes_alone a.p.now a.s.now a.t _ (sym c.new_frame.ensures ∙ w.if-new_frame.false) w.s-is
    ])
