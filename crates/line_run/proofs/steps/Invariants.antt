use mathlib.Core.Path.{◌≡◌}
use Prim.Native.Nat.{◌-◌}
use Rattle.log_spec.specs.Cells.{steps_by}
use Rattle.line_run.proofs.steps.Given as goal

abbrev pub invariant-loop : goal.invariant-loop
invariant-loop v = steps_by v.write v.p v.left v.t v.initial.s v.initial.buffer v.at ≡ steps_by v.write v.p (v.left - v.counter) v.t v.s v.buffer v.z
