-- `within` meets its contract: each return by the numbers that were found, in the request's order.
use mathlib.Core.Path.{◌≡◌, ap, ◌∙◌}
use Prim.Native.Nat.{ℕ, ◌+◌, ◌*◌, ◌/◌, ◌%◌, ◌<◌}
use mathlib.Core.List.{List}
use native.Mathlib.Omega.{arith}
use lib.ListN.{get_or}
use Rattle.rules.specs.Rows.{load}
use Rattle.plan.specs.Tables.{overhead_cell, plan_of}
use Rattle.cells.specs.Layout.{half, share_code}
use Rattle.cells.specs.Decode.{plan_in, core_of}
use Rattle.admission.proofs.Shares.{share_coded}
use Rattle.fit.proofs.Named.{names_packets, names_bits, names_release, names_nothing}
use Rattle.fit.proofs.within.Goals as goal

pub returns-then-packets-ne0 : goal.returns-then-packets-ne0
unfolding plan_of
returns-then-packets-ne0 c =
    let a = c.args in
    let p = plan_in a.p.now in
    names_packets p (core_of p a.s.now) a.room a.k a.n a.b c.lower_packets-packets.ensures c.if-packets-ne0.true

pub returns-then-bits-ne0 : goal.returns-then-bits-ne0
unfolding plan_of
returns-then-bits-ne0 c =
    let a = c.args in
    let p = plan_in a.p.now in
    names_bits p (core_of p a.s.now) a.room a.k a.n a.b c.lower_packets-packets.ensures c.if-packets-ne0.false c.lower_bits-bits.ensures c.if-bits-ne0.true

-- the offer's own load is that of its cell
own_load : (P : List ℕ) (n b : ℕ) {code needed : ℕ} → b < half → code ≡ share_code n b
    → needed ≡ code / half * (code % half + get_or P overhead_cell 0)
    → needed ≡ load (plan_in P) (record { packets = n; bits = b })
unfolding plan_of
own_load P n b h e f =
    f
    ∙ ap (λ (x : ℕ). x / half * (x % half + get_or P overhead_cell 0)) e
    ∙ ap (load (plan_in P)) (share_coded n b h)

pub returns-then-node-ne0 : goal.returns-then-node-ne0
unfolding plan_of
returns-then-node-ne0 c =
    let a = c.args in
    let p = plan_in a.p.now in
    let own = own_load a.p.now a.n a.b (omega (arith, c.ranges.b.fits)) c.share_code.ensures c.load-needed.ensures in
    names_release p (core_of p a.s.now) a.room a.k a.n a.b c.lower_packets-packets.ensures c.if-packets-ne0.false
    c.lower_bits-bits.ensures c.if-bits-ne0.false own c.release-node.ensures c.if-node-ne0.true

pub returns : goal.returns
unfolding plan_of
returns c =
    let a = c.args in
    let p = plan_in a.p.now in
    let own = own_load a.p.now a.n a.b (omega (arith, c.ranges.b.fits)) c.share_code.ensures c.load-needed.ensures in
    names_nothing p (core_of p a.s.now) a.room a.k a.n a.b c.lower_packets-packets.ensures c.if-packets-ne0.false
    c.lower_bits-bits.ensures c.if-bits-ne0.false own c.release-node.ensures c.if-node-ne0.false
