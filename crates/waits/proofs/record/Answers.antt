-- `waits::record` meets its contract. Each return is a law of Recording.
use mathlib.Core.Path.{◌≡◌}
use mathlib.Core.Bool.{true, false}
use native.Mathlib.Omega.{arith}
use lib.Dec.{leb}
use lib.ListN.{get_or}
use Rattle.cells.specs.Layout.{request_cell}
use Rattle.cells.specs.Masks.{stands_in}
use Rattle.waits.proofs.Recording.{no_request, time_kept, time_new}
use Rattle.waits.proofs.record.Goals as goal

pub returns-in_default : goal.returns-in_default
returns-in_default c = let a = c.args in no_request a.k a.x a.t a.s.now c.in_default.ensures

pub returns-then-stands_in : goal.returns-then-stands_in
returns-then-stands_in c =
    let a = c.args in
    let e : stands_in (leb 131072 a.x) (get_or a.s.now (request_cell c.in-Some.node.number) 0) ≡ true = grind (arith, c.stands_in.ensures, c.if-stands_in.true) in
    rw (← c.in-Some.ensures)
    (time_kept c.in-Some.node.number a.x a.t a.s.now (omega arith) (omega arith) e)

pub returns : goal.returns
returns c =
    let a = c.args in
    let e : stands_in (leb 131072 a.x) (get_or a.s.now (request_cell c.in-Some.node.number) 0) ≡ false = grind (arith, c.stands_in.ensures, c.if-stands_in.false) in
    rw (← c.in-Some.ensures)
    (rw (c.halves-low.ensures.low, c.halves-low.ensures.high)
    (time_new c.in-Some.node.number a.x a.t a.s.now (omega arith) (omega arith) e))
