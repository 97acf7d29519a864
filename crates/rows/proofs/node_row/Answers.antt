-- `node_row` meets its contract: the rows of `until`, then row 13.
use Rattle.std.proofs.Common.{rules}
use mathlib.Core.Path.{◌≡◌, refl, sym, ◌∙◌}
use Rattle.cells.specs.Step.{number, refusal_number}
use Rattle.rows.proofs.FirstRow.{is_refused}
use Rattle.rows.proofs.CallRows.{off_stops, off_goes_on}
use Rattle.rows.proofs.node_row.Goals as goal

pub returns-in_err-time_row : goal.returns-in_err-time_row
returns-in_err-time_row c =
    let a = c.args in
    let r = c.in_err-time_row.field-0.0 in
    let same : number c.from_residual.result ≡ refusal_number r = search rules in
    same ∙ off_stops a.p.now a.s.now a.t a.k c.in_err-time_row.ensures (is_refused r)

pub returns-then-no_node : goal.returns-then-no_node
returns-then-no_node c =
    let a = c.args in
    off_goes_on a.p.now a.s.now a.t a.k c.in_ok-time_row.ensures refl
    (rw (sym c.no_node.ensures ∙ c.if-no_node.true))

pub returns : goal.returns
returns c =
    let a = c.args in
    off_goes_on a.p.now a.s.now a.t a.k c.in_ok-time_row.ensures refl
    (rw (sym c.no_node.ensures ∙ c.if-no_node.false))
