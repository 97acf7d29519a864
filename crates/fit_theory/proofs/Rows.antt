-- In every hub that a run reaches, at a time that 11 and 12 allow: an offer that was answered 17, so changed, is answered by its room.
use Prim.Native.Nat.{ℕ, ◌≤◌, ◌<◌}
use mathlib.Core.Path.{◌≡◌, refl, sym, ap, subst, ◌∙◌}
use mathlib.Core.List.{List, [], ◌∷◌}
use native.Mathlib.Omega.{arith}
use borrow.Author.Tests.{leb-true, leb-false}
use lib.Dec.{leb}
use Rattle.rules.specs.Choice.{put}
use Rattle.rules.specs.Plan.{Plan, shortest}
use Rattle.rules.specs.Drawn.{Within}
use Rattle.rules.specs.Call.{Call, reserve, until, time, taken}
use Rattle.rules.specs.Core.{Core, Share, nothing_reserved, advance}
use Rattle.rules.specs.Rows.{Row, load, loads, row17, change}
use Rattle.rules.specs.Promises.{Holds, InRange, given_up}
use Rattle.rules.specs.Machine.{Machine, Hub, Outcome, perform}
use Rattle.rules.specs.Control.{Control, control}
use Rattle.rules.specs.Run.{Entry}
use Rattle.rules.proofs.Core.CallCases.{Clear, Course, refusal, event, quietly, granting, resting, course}
use Rattle.rules.proofs.Core.ClockAdvance.{advance_clock, advance_latest}
use Rattle.rules.proofs.Core.RowsPassed.{passed13, passed14, passed15r}
use Rattle.rules.proofs.Laws.Passes.{Which, which, yes', no'}
use Rattle.rules.proofs.Laws.Clash.{clash}
use Rattle.plan.specs.Reading.{reading}
use Rattle.plan_theory.specs.Taken.{TakenAs}
use Rattle.cells.specs.Decode.{plan_in, core_of, hub_of}
use Rattle.cells.specs.Calls.{row_by, event_by, event_answer, event_left, perform_by}
use Rattle.rows.proofs.FirstRow.{row_of, goes_on, before_last}
use Rattle.admission.specs.Share.{limit_rows, share_row_by}
use Rattle.admission.proofs.ReserveRows.{reserve_goes_on}
use Rattle.refinement.proofs.ReadyPlan.{plan_in_lem}
use Rattle.demands.specs.Demands as hub
use Rattle.demands.specs.Demands.{Calls, Demands}
use Rattle.demands.proofs.Demands.{demands}
use Rattle.offers.specs.Offers.{Offer, answer_to, clock_of}
use Rattle.offers_theory.proofs.AtClock.{at_clock}
use Rattle.fit.specs.Fit.{frame_room}
use Rattle.fit_theory.specs.Changes.{Change, packets, bits, release, Possible}
use Rattle.fit_theory.specs.ByRoom.{takes, has}
use Rattle.fit_theory.specs.Smallest.{answer_with}
use Rattle.fit_theory.proofs.Room.{room_passes, room_stops, room_behind}

-- an event that is taken makes its change, once the clock has come to its time
taken_core : (p : Plan) (M : Machine) (h : Hub M.State) (call : Call) → (perform p M call h).answer ≡ taken
    → (perform p M call h).hub.core ≡ change call (advance p (time call) h.core)
taken_core p M h call = go (course p M h call)
  where
    go : {x : Call} {o : Outcome M.State} → Course p M h x o → o.answer ≡ taken → o.hub.core ≡ change x (advance p (time x) h.core)
    go (refusal x n e) q = clash (cc)
    go (event x e a) q = refl
    go (quietly t i n) q = clash (cc)
    go (granting t d c i e l n) q = clash (cc)
    go (resting t d i e l n) q = clash (cc)

-- rows 13, 14 and 15 pass still with fewer packets, or with shorter ones
module _ (p : Plan) (k n b : ℕ) (free : Clear (limit_rows p k n b)) where
  in_range_lem : InRange p n b
  in_range_lem = (passed15r p n b).0 free.1.1.0

  fewer_pass : (m : ℕ) → 1 ≤ m → m < n → Clear (limit_rows p k m b)
  fewer_pass m some less = (free.0, ((passed14 m).1 (omega (arith, (passed14 n).0 free.1.0)), ((passed15r p m b).1 (go in_range_lem less), tt)))
    where
      go : {n b : ℕ} → InRange p n b → m < n → InRange p m b
      go given_up l = absurd (omega arith)
      go (InRange.packets n b _ low up) l = InRange.packets m b some low up

  shorter_pass : (c : ℕ) → shortest p ≤ c → c < b → Clear (limit_rows p k n c)
  shorter_pass c low less = (free.0, (free.1.0, ((passed15r p n c).1 (go in_range_lem less), tt)))
    where
      go : {n b : ℕ} → InRange p n b → c < b → InRange p n c
      go given_up l = absurd (omega arith)
      go (InRange.packets n b some _ up) l = InRange.packets n c some low (omega arith)

-- an answer that is by what a reserve takes and what there is for it
pub record Decided (takes has answer : ℕ) : Type 0 where
  pub fits : takes ≤ has → answer ≡ 0
  pub fails : has < takes → answer ≡ 17

-- what the rows of a reserve at t ask of a hub: it meets neither 11 nor 12, and the frame holds what is reserved
pub record Standing (P : List ℕ) (t : ℕ) (s : List ℕ) : Type 0 where
  pub by_rows : (o : Offer) → answer_to P t s o ≡ share_row_by P o.node o.packets o.bits s
  pub holds : Holds (plan_in P) (loads (plan_in P) (core_of (plan_in P) s).latest)

module _ (P : List ℕ) (t : ℕ) (s : List ℕ) (h : Standing P t s) (o : Offer) where
  abbrev limits : List Row
  limits = limit_rows (plan_in P) o.node o.packets o.bits

  abbrev share : Share
  share = record { packets = o.packets; bits = o.bits }

  abbrev room : ℕ
  room = frame_room (plan_in P) (core_of (plan_in P) s) o.node

  abbrev last : Row
  last = row17 (plan_in P) (core_of (plan_in P) s) o.node share

  limits_free : answer_to P t s o ≡ 17 → Clear limits
  unfolding share_row_by
  limits_free e = before_last limits last (omega arith) (sym (h.by_rows o) ∙ e)

  module _ (free : Clear limits) where
    by_last : answer_to P t s o ≡ row_of (last ∷ [])
    unfolding share_row_by
    by_last = h.by_rows o ∙ sym (goes_on limits (last ∷ []) free)

    node : Within (plan_in P).nodes o.node
    node = (passed13 (plan_in P) o.node).0 free.0

    pub by_its_room : Decided (load (plan_in P) share) room (answer_to P t s o)
    by_its_room =
        record {
          fits = λ l. by_last ∙ rw (room_passes (plan_in P) (core_of (plan_in P) s) h.holds o.node node share l);
          fails = λ l. by_last ∙ rw (room_stops (plan_in P) (core_of (plan_in P) s) h.holds o.node node share l);
        }

-- the offer of nothing for a node
abbrev offer_given_up : ℕ → Offer
offer_given_up j = record { node = j; packets = 0; bits = 0 }

-- it is taken, whatever is reserved
gives_up : (P : List ℕ) (t : ℕ) (s : List ℕ) → Standing P t s → (j : ℕ) → Within (plan_in P).nodes j → answer_to P t s (offer_given_up j) ≡ 0
gives_up P t s h j w =
    (by_its_room P t s h (offer_given_up j) ((passed13 (plan_in P) j).1 w, ((passed14 0).1 (omega arith), ((passed15r (plan_in P) 0 0).1 given_up, tt)))
    ).fits (omega arith)

module _ (text : List ℕ) (nodes hubs at line : ℕ) (plan : TakenAs text nodes hubs at line) where
  abbrev P : List ℕ
  P = (reading text).tables

  abbrev p : Plan
  p = plan_in P

  module _ (past : List Entry) (s : List ℕ) (c : Calls P past s) where
    run : Demands P p past s
    run = subst (λ (q : Plan). Demands P q past s) (sym (plan_in_lem text nodes hubs at line plan)) (demands text nodes hubs at line plan past s c)

    at_its_clock : row_by P (until (clock_of s)) s ≡ 0
    at_its_clock = (at_clock text nodes hubs at line plan past s c).on_time

    -- at a time that neither 11 nor 12 refuses
    module _ (t : ℕ) (on_time : row_by P (until t) s ≡ 0) where
      stands : Standing P t s
      stands =
          record {
            by_rows = λ o. sym (reserve_goes_on P s t o.node o.packets o.bits (sym on_time) refl refl);
            holds = run.admits.latest;
          }

      -- a release may be made
      pub released : (j : ℕ) → Within p.nodes j → row_by P (reserve t j 0 0) s ≡ 0
      released = gives_up P t s stands

  -- the hub behind the release of node j
  module _ (past : List Entry) (s : List ℕ) (c : Calls P past s) (t : ℕ) (on_time : row_by P (until t) s ≡ 0) (j : ℕ) (w : Within p.nodes j) where
    abbrev giving : Call
    giving = reserve t j 0 0

    abbrev behind : List ℕ
    behind = event_by P giving s

    -- a run reaches it too
    goes_on_by_it : Calls P (record { call = giving; answer = event_answer 0 } ∷ past) behind
    goes_on_by_it = hub.event c giving refl 0 behind (sym (released past s c t on_time j w), refl)

    core_behind : core_of p behind ≡ change giving (advance p t (core_of p s))
    unfolding perform_by event_left
    core_behind =
        ap (λ (h : Hub Control). h.core) ((run past s c).leaves giving)
        ∙ taken_core p (control p) (hub_of p s) giving (sym ((run past s c).answers giving) ∙ ap event_answer (released past s c t on_time j w))

    -- its clock has come to t, and its latest reservations are the same but for node j's
    clock_behind : clock_of behind ≡ t
    unfolding core_of
    clock_behind = ap (λ (x : Core). x.clock) core_behind ∙ advance_clock p t (core_of p s)

    latest_behind : (core_of p behind).latest ≡ put (core_of p s).latest j nothing_reserved
    latest_behind =
        ap (λ (x : Core). x.latest) core_behind
        ∙ ap (λ (f : ℕ → Share). put f j nothing_reserved) (advance_latest p t (core_of p s))

    stands-behind : Standing P t behind
    stands-behind =
        stands (record { call = giving; answer = event_answer 0 } ∷ past) behind goes_on_by_it t
        (ap (λ (u : ℕ). row_by P (until u) behind) (sym clock_behind) ∙ at_its_clock (record { call = giving; answer = event_answer 0 } ∷ past) behind goes_on_by_it)

  -- each possible change of an offer that was answered 17
  module _ (past : List Entry) (s : List ℕ) (c : Calls P past s) (t : ℕ) (on_time : row_by P (until t) s ≡ 0)
      (o : Offer) (full : answer_to P t s o ≡ 17) where
    abbrev core : Core
    core = core_of p s

    -- n × c of the offer, and the room that it has
    abbrev needed : ℕ
    needed = load p (record { packets = o.packets; bits = o.bits })

    abbrev left : ℕ
    left = frame_room p core o.node

    abbrev pub DecidedWith : Change → Type 0
    DecidedWith d = Decided (takes p o d) (has p core left d) (answer_with P t s o d)

    standing : Standing P t s
    standing = stands past s c t on_time

    free : Clear (limit_rows p o.node o.packets o.bits)
    free = limits_free P t s standing o full

    -- in the hub behind a release the room has grown by what was given up
    pub with_release : (j : ℕ) → Within p.nodes j → (j ≡ o.node → ⊥) → DecidedWith (release j)
    with_release j w other =
        let z = behind past s c t on_time j w in
        let grown =
        room_behind p core standing.holds o.node (node P t s standing o free) j w other (core_of p z) (latest_behind past s c t on_time j w) in
        subst (λ (r : ℕ). Decided needed r (answer_to P t z o)) grown (by_its_room P t z (stands-behind past s c t on_time j w) o free)

    -- an offer that was answered 17 needs more than its room
    pub no_room : left < needed
    no_room = go (which (leb needed left))
      where
        go : Which (leb needed left) → left < needed
        go (yes' e) = absurd (omega (arith, full, (by_its_room P t s standing o free).fits (leb-true needed left e)))
        go (no' e) = leb-false needed left e

    pub with_change : (d : Change) → Possible p core o d → DecidedWith d
    with_change (packets n) w =
        by_its_room P t s standing (record { node = o.node; packets = n; bits = o.bits })
        (fewer_pass p o.node o.packets o.bits free n w.0 w.1)
    with_change (bits b) w =
        by_its_room P t s standing (record { node = o.node; packets = o.packets; bits = b })
        (shorter_pass p o.node o.packets o.bits free b w.0 w.1)
    with_change (release j) w = with_release j w.0 w.1
