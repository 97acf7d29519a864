-- Demand 3's premises can be met: one list of calls of which it says something, worked out.
-- Node 3 reserves one packet of 4,000, and its high request stands from the start of frame 1.
use mathlib.Core.Path.{◌≡◌, refl, sym, subst}
use mathlib.Core.List.{List, [], ◌∷◌, ◌++◌}
use native.Mathlib.Omega.{arith}
use Rattle.rules.specs.Choice.{any, sum, first}
use Rattle.rules.specs.Drawn.{Figures}
use Rattle.rules.specs.Call.{high, Call, ask, reserve, until, step, taken, grant, rest}
use Rattle.rules.specs.Core.{advance, counts_in, counts, held, due, sought}
use Rattle.rules.specs.Machine.{perform}
use Rattle.rules.specs.Flat.{flat, in_turn}
use Rattle.rules.specs.Run.{Entry, made}
use Rattle.rules.specs.Words.{clock_at, reserved, request_at, High, high_grants}
use Rattle.rules.specs.Demand.{Unbroken, NextTurns, by_clock, Demand3, Holds3}
use Rattle.rules.specs.Sample.{plan01}
use Rattle.rules.proofs.Laws.Clash.{clash}
use Rattle.rules.proofs.Flat.Follows.{flat_follows}
use Rattle.rules.proofs.Demand3.GrantsSoFar.{entry}
use Rattle.rules.proofs.Demand3.Theorem.{demand3}

pub calls : List Call
calls = until 200000 ∷ step 200000 ∷ step 200000 ∷ ask high 100000 3 4000 ∷ until 100000 ∷ reserve 0 3 1 4000 ∷ []

before : List Entry
before = entry (ask high 100000 3 4000) taken ∷ entry (until 100000) taken ∷ entry (reserve 0 3 1 4000) taken ∷ []

since : List Entry
since = entry (until 200000) taken ∷ entry (step 200000) (rest 105000 0) ∷ entry (step 200000) (grant 100000 3 high 105000 0) ∷ []

answered : (made plan01 (flat plan01) calls).past ≡ since ++ before
unfolding calls before since any sum first advance counts_in counts held due sought in_turn perform made
answered = refl

-- the frame figures are those of the example
figures : Figures plan01
figures = record { frame_low = omega arith; frame_up = omega arith; overhead_up = omega arith; interrupt_low = omega arith; interrupt_up = omega arith }

high_before : High plan01 3 before
unfolding before clock_at request_at reserved
high_before = record { put_up = 100000; length = 4000; stands = refl; in_force = omega arith; kept = λ f l u. absurd (omega arith) }

-- the first high grant comes with the first call since
unbroken_high : (later passed : List Entry) → since ≡ later ++ passed → high_grants plan01 3 1 (passed ++ before) ≡ [] → High plan01 3 (passed ++ before)
unfolding since before high_grants
unbroken_high [] passed e n = let m = subst (λ (x : List Entry). high_grants plan01 3 1 (x ++ before) ≡ []) (sym e) n in clash (cc)
unbroken_high (a ∷ []) passed e n =
    let q : entry (step 200000) (rest 105000 0) ∷ entry (step 200000) (grant 100000 3 high 105000 0) ∷ [] ≡ passed = cc in
    let m = subst (λ (x : List Entry). high_grants plan01 3 1 (x ++ before) ≡ []) (sym q) n in
    clash (cc)
unbroken_high (a ∷ b ∷ []) passed e n =
    let q : entry (step 200000) (grant 100000 3 high 105000 0) ∷ [] ≡ passed = cc in
    let m = subst (λ (x : List Entry). high_grants plan01 3 1 (x ++ before) ≡ []) (sym q) n in
    clash (cc)
unbroken_high (a ∷ b ∷ c ∷ []) passed e n =
    let q : [] ≡ passed = cc in
    subst (λ (x : List Entry). High plan01 3 (x ++ before)) q high_before
unbroken_high (a ∷ b ∷ c ∷ d ∷ later) passed e n = clash (cc)

unbroken : Unbroken plan01 3 1 (since ++ before)
unfolding before clock_at high_grants
unbroken = record { since = since; before = before; place = refl; early = omega arith; first = refl; high = unbroken_high }

turns : NextTurns plan01 3 1 (since ++ before) 1
turns = record { high = λ later e passed q t l u. absurd (omega arith) }

applies : Demand3 plan01 3 1 (since ++ before)
unfolding since before clock_at reserved
applies =
    (subst (λ (x : List Entry). Holds3 plan01 x) answered (demand3 plan01 figures (flat plan01) (flat_follows plan01) calls)
    ).demand 3 1 (omega arith) (omega arith) unbroken turns (by_clock (omega arith))

pub demand3_applies : Demand3 plan01 3 1 (made plan01 (flat plan01) calls).past
demand3_applies = subst (λ (x : List Entry). Demand3 plan01 3 1 x) (sym answered) applies
