-- `step_due` meets its contract: an instant before t is handled, the clock having come to it.
use mathlib.Core.Path.{sym, ap}
use native.Mathlib.Omega.{arith}
use borrow.Author.Tests.{ltb-true}
use Rattle.cells.specs.Decode.{plan_in}
use Rattle.cells.specs.Instants.{due_by}
use Rattle.cells.specs.Calls.{Stepped, step_due}
use Rattle.instants.proofs.Bounded.{due_at, none-due}
use Rattle.hub.proofs.CallLaws.{step_quiet}
use Rattle.hub.proofs.handling.step_due.Goals as goal

pub handle-requires : goal.handle-requires
handle-requires c =
    let a = c.args in
    -- what is due, and that it is before t
    let w = due_at (plan_in a.p.now) a.t a.s.now (sym c.in-Some.ensures) in
    omega (arith, ltb-true c.in-Some.d a.t w.1)

pub returns-in-Some : goal.returns-in-Some
unfolding step_due
returns-in-Some c =
    let a = c.args in
    let w = due_at (plan_in a.p.now) a.t a.s.now (sym c.in-Some.ensures) in
    simp (w.0, w.1, ← c.advance.ensures) c.handle.ensures

pub returns-in-None : goal.returns-in-None
returns-in-None c =
    let a = c.args in
    let w = none-due (plan_in a.p.now) a.t a.s.now (sym c.in-None.ensures) in
    let e = step_quiet a.p.now a.s.now a.t (due_by (plan_in a.p.now) a.s.now) w in
    record { value = sym (ap (λ (x : Stepped). x.answer) e); s_after = sym (ap (λ (x : Stepped). x.cells) e) }
