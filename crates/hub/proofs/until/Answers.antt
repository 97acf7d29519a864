-- `until` meets its contract: the clock comes to t.
use Rattle.std.proofs.Common.{rules}
use mathlib.Core.Path.{◌≡◌, refl}
use Rattle.rules.specs.Call.{until}
use Rattle.cells.specs.Step.{number, refusal_number}
use Rattle.cells.specs.Calls.{change_by}
use Rattle.rows.proofs.FirstRow.{is_refused}
use Rattle.hub.proofs.CallLaws.{event_refused, event_taken}
use Rattle.hub.proofs.until.Goals as goal

pub returns-in_err-time_row : goal.returns-in_err-time_row
returns-in_err-time_row c =
    let a = c.args in
    let r = c.in_err-time_row.field-0.0 in
    let same : number c.from_residual.result ≡ refusal_number r = search rules in
    rw same (event_refused a.p.now a.s.now (until a.t) c.in_err-time_row.ensures (is_refused r))

pub returns : goal.returns
unfolding change_by
returns c =
    let a = c.args in
    event_taken a.p.now a.s.now (until a.t) c.in_ok-time_row.ensures refl c.advance.ensures
