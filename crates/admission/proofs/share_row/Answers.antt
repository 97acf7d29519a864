-- `share_row` meets its contract: one of the first three rows, or the row by the sum, which is that of the table.
use Rattle.std.proofs.Common.{rules}
use mathlib.Core.Path.{◌≡◌, ◌∙◌}
use Rattle.rules.specs.Rows.{row17}
use Rattle.cells.specs.Decode.{plan_in, core_of}
use Rattle.cells.specs.Step.{number, refusal_number}
use Rattle.rows.proofs.FirstRow.{is_refused}
use Rattle.admission.specs.Share.{share_row_by}
use Rattle.admission.proofs.ReserveRows.{limits-stop}
use Rattle.admission.proofs.BySum.{with_sum}
use Rattle.admission.proofs.share_row.Goals as goal

pub returns-in_err-limit_row : goal.returns-in_err-limit_row
unfolding share_row_by
returns-in_err-limit_row c =
    let a = c.args in
    let p = plan_in a.p.now in
    let r = c.in_err-limit_row.field-0.0 in
    let same : number c.from_residual.result ≡ refusal_number r = search rules in
    same ∙ limits-stop a.p.now a.k a.n a.b c.in_err-limit_row.ensures (row17 p (core_of p a.s.now) a.k (record { packets = a.n; bits = a.b })) (is_refused r)

pub returns : goal.returns
returns c =
    let a = c.args in
    c.share_row_with.ensures ∙ with_sum a.p.now c.loads.result a.k a.n a.b a.s.now c.loads.ensures.value
