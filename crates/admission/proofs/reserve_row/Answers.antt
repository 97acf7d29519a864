-- `reserve_row` meets its contract: the rows of `until`, then those of the reservation.
use Rattle.std.proofs.Common.{rules}
use mathlib.Core.Path.{◌≡◌, refl, ◌∙◌}
use Rattle.cells.specs.Step.{number, refusal_number}
use Rattle.rows.proofs.FirstRow.{is_refused}
use Rattle.admission.proofs.ReserveRows.{reserve_stops, reserve_goes_on}
use Rattle.admission.proofs.reserve_row.Goals as goal

pub returns-in_err-time_row : goal.returns-in_err-time_row
returns-in_err-time_row c =
    let a = c.args in
    let r = c.in_err-time_row.field-0.0 in
    let same : number c.from_residual.result ≡ refusal_number r = search rules in
    same ∙ reserve_stops a.p.now a.s.now a.t a.k a.n a.b c.in_err-time_row.ensures (is_refused r)

pub returns : goal.returns
returns c =
    let a = c.args in
    reserve_goes_on a.p.now a.s.now a.t a.k a.n a.b c.in_ok-time_row.ensures refl c.share_row.ensures
