-- `due_before` meets its contract: each return by the tests that led there.
use mathlib.Core.Path.{sym, ◌∙◌}
use native.Mathlib.Omega.{arith}
use lib.ListN.{get_or}
use borrow.Author.Tests.{eq-eqb, ne_eqb}
use Rattle.plan.specs.Tables.{plan_of}
use Rattle.cells.specs.Layout.{standing_cell}
use Rattle.cells.specs.Decode.{plan_in}
use Rattle.cells.specs.Instants.{resting_due, due_by}
use Rattle.instants.proofs.Bounded.{at_before, never_before}
use Rattle.instants.proofs.due_before.Goals as goal

pub returns-then-s-ne0 : goal.returns-then-s-ne0
unfolding due_by
returns-then-s-ne0 c =
    let a = c.args in
    at_before (plan_in a.p.now) a.t a.s.now c.if_before.ensures (rw (ne_eqb _ _ c.if-s-ne0.true, c.line_end.ensures))

pub returns-then-some_counts : goal.returns-then-some_counts
unfolding due_by resting_due
returns-then-some_counts c =
    let a = c.args in
    at_before (plan_in a.p.now) a.t a.s.now c.if_before-then-some_counts.ensures
    (rw (eq-eqb _ _ c.if-s-ne0.false, sym c.some_counts.ensures ∙ c.if-some_counts.true, c.clock-clock.ensures))

pub returns-then-s-eq0 : goal.returns-then-s-eq0
unfolding due_by resting_due
returns-then-s-eq0 c =
    let a = c.args in
    never_before (plan_in a.p.now) a.t a.s.now
    (rw (eq-eqb _ _ c.if-s-ne0.false, sym c.some_counts.ensures ∙ c.if-some_counts.false, eq-eqb (get_or a.s.now standing_cell 0) 0 (omega arith)))

pub returns : goal.returns
unfolding due_by resting_due plan_of
returns c =
    let a = c.args in
    at_before (plan_in a.p.now) a.t a.s.now c.start_before.ensures
    (rw (eq-eqb _ _ c.if-s-ne0.false, sym c.some_counts.ensures ∙ c.if-some_counts.false, ne_eqb _ _ c.if-s-eq0.false, c.clock-clock.ensures))
