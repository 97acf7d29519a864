-- `ask` meets its contract: the clock comes to t, and the request stands.
use Rattle.std.proofs.Common.{rules}
use mathlib.Core.Path.{◌≡◌, refl, ap, ◌∙◌}
use Rattle.rules.specs.Call.{ask}
use Rattle.cells.specs.Layout.{class_of}
use Rattle.cells.specs.Step.{number, refusal_number}
use Rattle.cells.specs.Calls.{change_by, put_up_code}
use Rattle.rows.proofs.FirstRow.{is_refused}
use Rattle.hub.proofs.CallLaws.{event_refused, event_taken}
use Rattle.hub.proofs.ask.Goals as goal

pub returns-in_err-ask_row : goal.returns-in_err-ask_row
returns-in_err-ask_row c =
    let a = c.args in
    let r = c.in_err-ask_row.field-0.0 in
    let same : number c.from_residual.result ≡ refusal_number r = search rules in
    rw same (event_refused a.p.now a.s.now (ask (class_of a.high) a.t a.k a.b) c.in_err-ask_row.ensures (is_refused r))

pub returns : goal.returns
unfolding change_by
returns c =
    let a = c.args in
    let code = c.request_code-code.ensures ∙ ap (put_up_code (class_of a.high) a.k a.b) c.advance.ensures in
    event_taken a.p.now a.s.now (ask (class_of a.high) a.t a.k a.b) c.in_ok-ask_row.ensures refl
    (rw (c.record.ensures, code, c.advance.ensures) at c.put_request.ensures)
