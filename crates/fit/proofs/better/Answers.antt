-- `better` meets its contract: each return by the tests that led there.
use Prim.Native.Nat.{◌+◌, ◌/◌, ◌<◌}
use mathlib.Core.Path.{◌≡◌}
use mathlib.Core.Bool.{true, false}
use native.Mathlib.Omega.{arith}
use lib.Dec.{eqb, leb}
use borrow.Author.Tests.{eq-eqb, ne_eqb, le-leb, lt-leb}
use Rattle.cells.specs.Layout.{half}
use Rattle.fit.proofs.better.Goals as goal
use Rattle.fit.proofs.better.Goals.{else-load-needed-via-then-load-needed+else-room-needed, else-load-needed-via-else-load-needed}

pub returns-then-j-k : goal.returns-then-j-k
returns-then-j-k c = let a = c.args in rw (eq-eqb a.j a.k (omega (arith, c.if-j-k.true)))

pub returns-then-share-lt-HALF : goal.returns-then-share-lt-HALF
returns-then-share-lt-HALF c =
    let a = c.args in
    -- it is another node
    let another : eqb a.j a.k ≡ false = ne_eqb a.j a.k (omega (arith, c.if-j-k.false)) in
    let none : eqb (a.share / half) 0 ≡ true = eq-eqb (a.share / half) 0 (omega (arith, c.if-share-lt-HALF.true)) in
    rw (another, none)

pub returns-then-room-needed : goal.returns-then-room-needed
returns-then-room-needed c =
    let a = c.args in
    let another : eqb a.j a.k ≡ false = ne_eqb a.j a.k (omega (arith, c.if-j-k.false)) in
    -- something is reserved for it
    let reserved : eqb (a.share / half) 0 ≡ false = ne_eqb (a.share / half) 0 (omega (arith, c.if-share-lt-HALF.false)) in
    let short : a.room + a.load < a.needed = omega arith in
    rw (another, reserved, lt-leb a.needed (a.room + a.load) short)

pub returns-then-best-eq0 : goal.returns-then-best-eq0
returns-then-best-eq0 c =
    let a = c.args in
    let another : eqb a.j a.k ≡ false = ne_eqb a.j a.k (omega (arith, c.if-j-k.false)) in
    let reserved : eqb (a.share / half) 0 ≡ false = ne_eqb (a.share / half) 0 (omega (arith, c.if-share-lt-HALF.false)) in
    -- with what it gives up there is room
    let enough : leb a.needed (a.room + a.load) ≡ true =
    elim c.else-load-needed.branch [
      | else-load-needed-via-then-load-needed+else-room-needed w ↦ le-leb a.needed (a.room + a.load) (omega arith)
      | else-load-needed-via-else-load-needed w ↦ le-leb a.needed (a.room + a.load) (omega arith)
    ] in
    rw (another, reserved, enough, eq-eqb _ _ c.if-best-eq0.true)

pub returns : goal.returns
returns c =
    let a = c.args in
    let another : eqb a.j a.k ≡ false = ne_eqb a.j a.k (omega (arith, c.if-j-k.false)) in
    let reserved : eqb (a.share / half) 0 ≡ false = ne_eqb (a.share / half) 0 (omega (arith, c.if-share-lt-HALF.false)) in
    let enough : leb a.needed (a.room + a.load) ≡ true =
    elim c.else-load-needed.branch [
      | else-load-needed-via-then-load-needed+else-room-needed w ↦ le-leb a.needed (a.room + a.load) (omega arith)
      | else-load-needed-via-else-load-needed w ↦ le-leb a.needed (a.room + a.load) (omega arith)
    ] in
    rw (another, reserved, enough, ne_eqb _ _ c.if-best-eq0.false)
