-- `most_below` meets its contract: the quotient, or the number just below the bound where all up to it have room.
use Prim.Native.Nat.{◌-◌, ◌*◌, ◌/◌, ◌≤◌}
use native.Mathlib.Omega.{arith}
use Rattle.fit.proofs.Largest.{the_most, no_bound, up_to_quotient, above_quotient}
use Rattle.fit.proofs.most_below.Goals as goal

pub returns-then-bound-eq0 : goal.returns-then-bound-eq0
returns-then-bound-eq0 c = let a = c.args in no_bound a.bound a.each a.room c.if-bound-eq0.true

pub returns-then-each-eq0 : goal.returns-then-each-eq0
returns-then-each-eq0 c =
    let a = c.args in
    let free : (a.bound - 1) * a.each ≤ a.room = rw c.if-each-eq0.true (omega arith) in
    the_most a.bound a.each a.room (a.bound - 1) (omega (arith, c.if-bound-eq0.false)) free (λ i l u. absurd (omega arith))

pub returns-then-many-bound : goal.returns-then-many-bound
returns-then-many-bound c =
    let a = c.args in
    let some = c.if-each-eq0.false in
    the_most a.bound a.each a.room (a.room / a.each) c.if-many-bound.true
    (up_to_quotient a.bound a.each a.room some (a.room / a.each) (omega arith))
    (λ i l u. above_quotient a.bound a.each a.room some i (omega arith))

pub returns : goal.returns
returns c =
    let a = c.args in
    the_most a.bound a.each a.room (a.bound - 1) (omega (arith, c.if-bound-eq0.false))
    (up_to_quotient a.bound a.each a.room c.if-each-eq0.false (a.bound - 1) (omega (arith, c.if-many-bound.false)))
    (λ i l u. absurd (omega arith))
