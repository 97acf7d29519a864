-- `frames::start_at` meets its contract: the next start, the requests that it makes normal, and the frame's own work.
use Rattle.plan.specs.Tables.{plan_of}
use Rattle.frames.proofs.Starting.{starts_turned}
use Rattle.frames.proofs.start_at.Goals as goal

pub next_start-start-requires : goal.next_start-start-requires
unfolding plan_of
next_start-start-requires c = rw c.clock.ensures c.requires

pub returns : goal.returns
unfolding plan_of
returns c =
    let a = c.args in
    starts_turned a.p.now a.s.now c.next_start-start.result c.turn.new.s _
    (rw c.clock.ensures at c.next_start-start.ensures) c.turn.ensures c.start_frame.ensures
