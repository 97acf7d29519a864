-- `off` meets its contract: the clock comes to t, and the request is withdrawn.
use Rattle.std.proofs.Common.{rules}
use mathlib.Core.Path.{◌≡◌, refl}
use Rattle.rules.specs.Call.{off}
use Rattle.cells.specs.Step.{number, refusal_number}
use Rattle.cells.specs.Calls.{change_by}
use Rattle.rows.proofs.FirstRow.{is_refused}
use Rattle.hub.proofs.CallLaws.{event_refused, event_taken}
use Rattle.hub.proofs.off.Goals as goal

pub returns-in_err-node_row : goal.returns-in_err-node_row
returns-in_err-node_row c =
    let a = c.args in
    let r = c.in_err-node_row.field-0.0 in
    let same : number c.from_residual.result ≡ refusal_number r = search rules in
    rw same (event_refused a.p.now a.s.now (off a.t a.k) c.in_err-node_row.ensures (is_refused r))

pub returns : goal.returns
unfolding change_by
returns c =
    let a = c.args in
    event_taken a.p.now a.s.now (off a.t a.k) c.in_ok-node_row.ensures
    refl
    (rw c.advance.ensures at c.put_request.ensures)
