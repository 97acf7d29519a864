-- `line_run::steps` meets its contract. The loop's invariant: the run of all steps is the run of those that are left, from what
-- the tables and the buffer are by now. Assumes nothing.
use Prim.Native.Nat.{ℕ, ◌-◌, ◌+◌}
use mathlib.Core.Path.{◌≡◌, ap, ◌∙◌}
use native.Mathlib.Omega.{arith}
use Rattle.log_spec.specs.Cells.{steps_by}
use Rattle.line_run.proofs.Ran.{ran_same}
use Rattle.line_run.proofs.StepLaws.{was_made, goes_on, no_steps, last_step, more_steps, no_room}
use Rattle.line_run.proofs.steps.Goals as goal

pub loop-init : goal.loop-init
loop-init c =
    let a = c.args in
    let all : a.left ≡ a.left - 0 = omega arith in
    ap (λ (n : ℕ). steps_by a.write a.p.now n a.t a.s.now a.buffer.now a.at) all

pub returns-in_default : goal.returns-in_default
returns-in_default c =
    let a = c.args in
    let l = c.loop in
    let ran = ran_same l.invariant (last_step a.write a.p.now (a.left - l.counter) a.t l.s l.buffer l.z (omega (arith, c.loop-test.true)) c.step.ensures c.in_default.ensures) in
    record { value = ran.0; s_after = ran.1.0; buffer_after = ran.1.1 }

pub returns-in_err-z : goal.returns-in_err-z
returns-in_err-z c =
    let a = c.args in
    let l = c.loop in
    let e = c.in_err-z.ensures in
    let made = was_made a.p.now a.t l.s c.step.new.s c.step.result c.in-Some.ensures c.step.ensures in
    let ran =
    ran_same l.invariant
    (no_room a.write a.p.now (a.left - l.counter) a.t l.s l.buffer l.z (omega (arith, c.loop-test.true)) made (goes_on c.step.result c.in-Some.ensures) e.buffer_after e.value) in
    record { value = c.from_residual.ensures ∙ ran.0; s_after = ran.1.0; buffer_after = ran.1.1 }

pub loop-preserved : goal.loop-preserved
loop-preserved c =
    let a = c.args in
    let l = c.loop in
    let e = c.in_ok-z.ensures in
    let made = was_made a.p.now a.t l.s c.step.new.s c.step.result c.in-Some.ensures c.step.ensures in
    let fewer : a.left - l.counter - 1 ≡ a.left - (l.counter + 1) = omega arith in
    l.invariant
    ∙ more_steps a.write a.p.now (a.left - l.counter) a.t l.s l.buffer l.z (omega (arith, c.loop-test.true)) made (goes_on c.step.result c.in-Some.ensures) e.buffer_after c.in_ok-z.z e.value
    ∙ ap (λ (n : ℕ). steps_by a.write a.p.now n a.t c.step.new.s c.step_line.new.buffer c.in_ok-z.z) fewer

pub returns : goal.returns
returns c =
    let a = c.args in
    let l = c.loop in
    let ran = ran_same l.invariant (no_steps a.write a.p.now (a.left - l.counter) a.t l.s l.buffer l.z (omega (arith, c.loop-test.false))) in
    record { value = ran.0; s_after = ran.1.0; buffer_after = ran.1.1 }
