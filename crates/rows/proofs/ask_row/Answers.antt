-- `ask_row` meets its contract: the rows of `off`, then 15 and 16.
use Rattle.std.proofs.Common.{rules}
use mathlib.Core.Path.{◌≡◌, refl, sym, ◌∙◌}
use native.Mathlib.Omega.{arith}
use Rattle.cells.specs.Layout.{class_of}
use Rattle.cells.specs.Step.{number, refusal_number}
use Rattle.rows.proofs.FirstRow.{is_refused}
use Rattle.rows.proofs.CallRows.{ask_stops, ask_goes_on, off_node}
use Rattle.rows.proofs.ask_row.Goals as goal

pub returns-in_err-node_row : goal.returns-in_err-node_row
returns-in_err-node_row c =
    let a = c.args in
    let r = c.in_err-node_row.field-0.0 in
    let same : number c.from_residual.result ≡ refusal_number r = search rules in
    same ∙ ask_stops a.p.now a.s.now a.t a.k (class_of a.high) a.b c.in_err-node_row.ensures (is_refused r)

pub returns-then-outside : goal.returns-then-outside
returns-then-outside c =
    let a = c.args in
    ask_goes_on a.p.now a.s.now a.t a.k (class_of a.high) a.b c.in_ok-node_row.ensures refl
    (rw (sym c.outside.ensures ∙ c.if-outside.true))

pub overflow_cast-k : goal.overflow_cast-k
overflow_cast-k c =
    let a = c.args in
    let w = off_node a.p.now a.s.now a.t a.k c.in_ok-node_row.ensures refl in
    omega arith

pub unreserved-requires : goal.unreserved-requires
unreserved-requires c =
    let a = c.args in
    off_node a.p.now a.s.now a.t a.k c.in_ok-node_row.ensures refl

pub returns-then-unreserved : goal.returns-then-unreserved
returns-then-unreserved c =
    let a = c.args in
    ask_goes_on a.p.now a.s.now a.t a.k (class_of a.high) a.b c.in_ok-node_row.ensures refl
    (rw (sym c.outside.ensures ∙ c.if-outside.false, sym c.unreserved.ensures ∙ c.if-unreserved.true))

pub returns : goal.returns
returns c =
    let a = c.args in
    ask_goes_on a.p.now a.s.now a.t a.k (class_of a.high) a.b c.in_ok-node_row.ensures refl
    (rw (sym c.outside.ensures ∙ c.if-outside.false, sym c.unreserved.ensures ∙ c.if-unreserved.false))
