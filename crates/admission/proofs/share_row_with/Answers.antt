-- `share_row_with` meets its contract: one of the first three rows, or 17 by the sum.
use Rattle.std.proofs.Common.{rules}
use mathlib.Core.Path.{◌≡◌, refl, sym, ◌∙◌}
use mathlib.Core.Bool.{true, false}
use mathlib.Core.List.{List}
use Prim.Native.Nat.{ℕ}
use Rattle.rules.specs.Rows.{Row}
use Rattle.cells.specs.Decode.{plan_in, core_of}
use Rattle.cells.specs.Step.{number, refusal_number}
use Rattle.rows.proofs.FirstRow.{is_refused}
use Rattle.admission.specs.Share.{row17_with, share_row_with}
use Rattle.admission.proofs.ReserveRows.{limits-stop, limits_pass}
use Rattle.admission.proofs.share_row_with.Goals as goal

-- the row behind the first three
abbrev last : List ℕ → List ℕ → ℕ → ℕ → ℕ → ℕ → Row
last P s all k n b =
    let p = plan_in P in
    row17_with p (core_of p s) all k (record { packets = n; bits = b })

pub returns-in_err-limit_row : goal.returns-in_err-limit_row
unfolding share_row_with
returns-in_err-limit_row c =
    let a = c.args in
    let r = c.in_err-limit_row.field-0.0 in
    let same : number c.from_residual.result ≡ refusal_number r = search rules in
    same ∙ limits-stop a.p.now a.k a.n a.b c.in_err-limit_row.ensures (last a.p.now a.s.now a.all a.k a.n a.b) (is_refused r)

pub overfull-requires : goal.overfull-requires
overfull-requires c = sym c.in_ok-limit_row.ensures

pub returns-then-overfull : goal.returns-then-overfull
unfolding share_row_with
returns-then-overfull c =
    let a = c.args in
    limits_pass a.p.now a.k a.n a.b c.in_ok-limit_row.ensures (last a.p.now a.s.now a.all a.k a.n a.b) refl true
    (sym c.if-overfull.true ∙ c.overfull.ensures)

pub returns : goal.returns
unfolding share_row_with
returns c =
    let a = c.args in
    limits_pass a.p.now a.k a.n a.b c.in_ok-limit_row.ensures (last a.p.now a.s.now a.all a.k a.n a.b) refl false
    (sym c.if-overfull.false ∙ c.overfull.ensures)
