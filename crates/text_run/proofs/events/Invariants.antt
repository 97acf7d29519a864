-- The loop's invariant: the run from the start is the run from the reader's place on, with fuel for every line that can be left.
-- The measure is how much of the text is left to the reader.
use mathlib.Core.Path.{◌≡◌}
use Prim.Native.Nat.{◌-◌}
use lib.ListN.{length}
use Rattle.text_run.proofs.RunState.{whole_run, State}
use Rattle.text_run.proofs.events.Given as goal

abbrev pub invariant-loop-z : goal.invariant-loop-z
invariant-loop-z l =
    State l.write l.p l.text (whole_run l.write l.p l.text l.place l.line l.initial.s l.initial.buffer l.at) l.lines.at l.lines.number l.s l.buffer l.z
    × (l.lines.text.now ≡ l.text)

abbrev pub decreases-loop-z : goal.decreases-loop-z
decreases-loop-z l = length l.text - l.lines.at
