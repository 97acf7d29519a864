-- Each hub of list c is told from the right one by its run, on which demand 2 fails of it. And demand 3 fails of
-- three of them: a request with a reserved packet is high at every place of the frame, and is never granted.
use Prim.Native.Nat.{ℕ, ◌+◌, ◌*◌, ◌≤◌}
use mathlib.Core.Path.{◌≡◌, refl, sym, ap, subst, ◌∙◌}
use mathlib.Core.List.{List, [], ◌∷◌, ◌++◌, map}
use native.Mathlib.Omega.{arith}
use lib.ListN.{length, take, drop}
use Rattle.rules.specs.Choice.{any, sum, first}
use Rattle.rules.specs.Plan.{Plan, deepest}
use Rattle.rules.specs.Drawn.{Within}
use Rattle.rules.specs.Call.{high}
use Rattle.rules.specs.Core.{frame_of, advance, counts_in, counts, held, due, sought}
use Rattle.rules.specs.Flat.{in_turn, flat}
use Rattle.rules.specs.Control.{below, lowest, walk, led, nearest, choose_by, control}
use Rattle.rules.specs.Machine.{perform}
use Rattle.rules.specs.Run.{Entry, made, answers}
use Rattle.rules.specs.Agree.{unmoved}
use Rattle.rules.specs.Words.{clock_at, reserved, asked, request_at, High, high_grants}
use Rattle.rules.specs.Demand.{Unbroken, NextTurns, RunTo, by_quiet, Holds3}
use Rattle.rules.specs.Sample.{plan01}
use Rattle.rules.specs.Slips.{Slip, Shown, answers_by, narrow}
use Rattle.rules.specs.Rejected.{turns, moves, Rejected, quiet_instead, rest_instead, never_taken_up, repeated, zero_told, limit_told, twelve_said, seventeen_said, node_1_granted, nothing_kept, all_turned_down, list_c, EachRejected, wrong_list, BreaksDemand3, never_served}
use Rattle.rules.proofs.Laws.Clash.{clash}

module _ (x : Slip) (right : answers x.plan (control x.plan) x.calls ≡ x.right_answers) (wrong : x.wrong x.calls ≡ x.wrong_answers)
    (by-flat : answers x.plan (flat x.plan) x.calls ≡ map unmoved x.right_answers) where
  by_turns : (map unmoved x.wrong_answers ≡ map unmoved x.right_answers → ⊥) → Rejected (record { slip = x; part = turns })
  by_turns differ =
      record { shown = record { right = right; wrong = wrong; differ = λ e. differ (ap (map unmoved) (sym e)) }; flat = by-flat; against = differ }

  by_moves : map unmoved x.wrong_answers ≡ map unmoved x.right_answers → (x.right_answers ≡ x.wrong_answers → ⊥)
      → Rejected (record { slip = x; part = moves })
  by_moves alike differ = record { shown = record { right = right; wrong = wrong; differ = differ }; flat = by-flat; against = alike }

-- a row, and the rows behind it
infixr 2 ◌also◌
◌also◌ : {A B : Type 0} → A → B → A × B
a also b = (a, b)

pub all_rejected : EachRejected list_c
unfolding any sum first deepest advance counts_in counts held due sought in_turn below lowest walk led nearest choose_by perform made answers_by
all_rejected =
    by_turns quiet_instead refl refl refl (λ e. clash (cc))
    also by_turns rest_instead refl refl refl (λ e. clash (cc))
    also by_turns never_taken_up refl refl refl (λ e. clash (cc))
    also by_turns repeated refl refl refl (λ e. clash (cc))
    also by_moves zero_told refl refl refl refl (λ e. clash (cc))
    also by_moves limit_told refl refl refl refl (λ e. clash (cc))
    also by_turns twelve_said refl refl refl (λ e. clash (cc))
    also by_turns seventeen_said refl refl refl (λ e. clash (cc))
    also by_turns node_1_granted refl refl refl (λ e. clash (cc))
    also by_turns nothing_kept refl refl refl (λ e. clash (cc))
    also by_turns all_turned_down refl refl refl (λ e. clash (cc))
    also tt

pub never_served_shown : Shown never_served
unfolding any sum first advance counts_in counts held due sought below lowest walk led nearest choose_by perform made
never_served_shown = record { right = refl; wrong = refl; differ = λ e. clash (cc) }

-- P at each place of a list behind `before`
abbrev EachPlace : (List Entry → Type 0) → List Entry → List Entry → Type 0
EachPlace P [] before = P before
EachPlace P (e ∷ since) before = P ((e ∷ since) ++ before) × EachPlace P since before

at_place : (P : List Entry → Type 0) (before later passed : List Entry) → EachPlace P (later ++ passed) before → P (passed ++ before)
at_place P before [] [] each = each
at_place P before [] (e ∷ passed) each = each.0
at_place P before (e ∷ later) passed each = at_place P before later passed each.1

-- a request that a high event put up in the clock's frame is high
stays_high : (p : Plan) (k t b : ℕ) (past : List Entry) → request_at k past ≡ asked high t b → 1 ≤ (reserved p k (frame_of p t) past).packets
    → frame_of p (clock_at past) ≡ frame_of p t → High p k past
stays_high p k t b past stands force same =
    record { put_up = t; length = b; stands = stands; in_force = force; kept = λ f low up. absurd (omega (arith, same)) }

-- where one packet is reserved, no turn is chosen after the first grant and up to it
one_turn : (p : Plan) (k f : ℕ) (whole : List Entry) → NextTurns p k f whole 1
one_turn p k f whole = record { high = λ later e before place turn some few. absurd (omega (arith, some, few)) }

-- node k had one packet reserved in frame f, its request is high at each place since `before`, whose clock is
-- at most f × T, and the list ends with a quiet step to the frame's end: k must have been granted in f
must_grant : (p : Plan) (k f : ℕ) (since before : List Entry) → Within p.nodes k → clock_at before ≤ f * p.frame → high_grants p k f before ≡ []
    → EachPlace (High p k) since before → RunTo ((f + 1) * p.frame) (since ++ before) → (reserved p k f (since ++ before)).packets ≡ 1
    → Holds3 p (since ++ before) → length (high_grants p k f (since ++ before)) ≡ 1
must_grant p k f since before within early none_yet each run one holds =
    let whole = since ++ before in
    let high : (later passed : List Entry) → since ≡ later ++ passed → high_grants p k f (passed ++ before) ≡ [] → High p k (passed ++ before) =
    λ later passed place _. at_place (High p k) before later passed (subst (λ l. EachPlace (High p k) l before) place each) in
    let unbroken : Unbroken p k f whole = record { since = since; before = before; place = refl; early = early; first = none_yet; high = high } in
    let turns = subst (NextTurns p k f whole) (sym one) (one_turn p k f whole) in
    (holds.demand k f within.low within.up unbroken turns run).exactly ∙ one

pub quiet_breaks : BreaksDemand3 quiet_instead
unfolding clock_at reserved request_at high_grants
quiet_breaks holds =
    let stays = stays_high plan01 3 100000 4000 in
    let since = take 1 (wrong_list quiet_instead) in
    let before = drop 1 (wrong_list quiet_instead) in
    let each : EachPlace (High plan01 3) since before = stays _ refl (omega arith) refl also stays _ refl (omega arith) refl in
    let node : Within 4 3 = record { low = omega arith; up = omega arith } in
    clash (must_grant plan01 3 1 since before node (omega arith) refl each (by_quiet _ _ refl refl) refl holds)

pub resting-breaks : BreaksDemand3 never_taken_up
unfolding clock_at reserved request_at high_grants
resting-breaks holds =
    let stays = stays_high plan01 3 100000 4000 in
    let since = take 2 (wrong_list never_taken_up) in
    let before = drop 2 (wrong_list never_taken_up) in
    let each : EachPlace (High plan01 3) since before =
    stays _ refl (omega arith) refl also stays _ refl (omega arith) refl also stays _ refl (omega arith) refl in
    let node : Within 4 3 = record { low = omega arith; up = omega arith } in
    clash (must_grant plan01 3 1 since before node (omega arith) refl each (by_quiet _ _ refl refl) refl holds)

pub repeating_breaks : BreaksDemand3 never_served
unfolding clock_at reserved request_at high_grants
repeating_breaks holds =
    let stays = stays_high narrow 3 100000 512 in
    let since = take 5 (wrong_list never_served) in
    let before = drop 5 (wrong_list never_served) in
    let each : EachPlace (High narrow 3) since before =
    stays _ refl (omega arith) refl also stays _ refl (omega arith) refl also stays _ refl (omega arith) refl
    also stays _ refl (omega arith) refl also stays _ refl (omega arith) refl also stays _ refl (omega arith) refl in
    let node : Within 4 3 = record { low = omega arith; up = omega arith } in
    clash (must_grant narrow 3 1 since before node (omega arith) refl each (by_quiet _ _ refl refl) refl holds)
