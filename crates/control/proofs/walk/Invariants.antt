use mathlib.Core.Path.{◌≡◌}
use Prim.Native.Nat.{◌+◌, ◌-◌, ◌≤◌}
use Rattle.rules.specs.Control.{most_looks}
use Rattle.cells.specs.Turns.{walk_by}
use Rattle.control.proofs.walk.Given as goal

-- the walk from the start is the walk from here, with the looks that are left
abbrev pub invariant-loop : goal.invariant-loop
invariant-loop l = record {
  same : walk_by l.p l.high most_looks l.from l.before l.initial.s ≡ walk_by l.p l.high (most_looks - l.counter) l.g l.moves l.s;
  few : l.moves ≤ l.before + l.counter;
}
