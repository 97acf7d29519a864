-- `time_row` meets its contract: row 11 by `out_of_time`, row 12 by the due instant.
use mathlib.Core.Path.{sym, ◌∙◌}
use native.Mathlib.Omega.{arith}
use Rattle.cells.specs.Decode.{plan_in, core_of}
use Rattle.cells.specs.Calls.{row_by, rows_by}
use Rattle.instants.proofs.Bounded.{due_at, none-due}
use Rattle.rows.proofs.time_row.Goals as goal

pub returns-then-out_of_time : goal.returns-then-out_of_time
unfolding row_by rows_by core_of
returns-then-out_of_time c = rw (sym c.out_of_time.ensures ∙ c.if-out_of_time.true)

pub returns-in-Some : goal.returns-in-Some
unfolding row_by rows_by core_of
returns-in-Some c =
    let a = c.args in
    let w = due_at (plan_in a.p.now) a.t a.s.now (sym c.in-Some.ensures) in
    rw (sym c.out_of_time.ensures ∙ c.if-out_of_time.false, w.0, w.1) (omega arith)

pub returns-in-None : goal.returns-in-None
unfolding row_by rows_by core_of
returns-in-None c =
    let a = c.args in
    let w = none-due (plan_in a.p.now) a.t a.s.now (sym c.in-None.ensures) in
    rw (sym c.out_of_time.ensures ∙ c.if-out_of_time.false, w) (omega arith)
