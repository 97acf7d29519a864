-- Each of the six calls over the cells gives the answer of `rules`, and leaves cells that are its hub.
use Rattle.std.specs.Prelude.{Option, Some, None}
use Prim.Native.Nat.{ℕ, ◌+◌, ◌≤◌, ◌<◌}
use mathlib.Core.Path.{◌≡◌, refl, sym, ap, ap₂, subst, subst₂, ◌∙◌}
use mathlib.Core.Bool.{Bool, true, false}
use mathlib.Core.List.{List}
use native.Mathlib.Omega.{arith}
use borrow.Author.Tests.{ne_eqb, le-ltb}
use lib.Dec.{eqb, ltb}
use lib.ListN.{get_or}
use Rattle.rules.specs.Plan.{Plan}
use Rattle.rules.specs.Drawn.{Within}
use Rattle.rules.specs.Call.{Class, normal, high, Call, ask, off, reserve, until, step, time, taken, grant, rest}
use Rattle.rules.specs.Core as rules
use Rattle.rules.specs.Core.{Core, Share, standing, bits_of, before, advance, counts_in, due, sought}
use Rattle.rules.specs.Rows.{Row, Verdict, accept, refuse, first_row, row12, rows, with_request, put_up, change}
use Rattle.rules.specs.Machine.{Machine, Hub, Outcome, Turn, granting, grant_to, handled, step_at, accepted, decided, perform}
use Rattle.rules.specs.Control as hubs
use Rattle.rules.specs.Control.{Control, control}
use Rattle.rules.specs.Promises.{Acceptable, asks, leaves, reserves, waits, InRange, given_up, packets}
use Rattle.rules.proofs.Laws.Lengths.{longest-up}
use Rattle.rules.proofs.Laws.Passes.{Which, which, yes', no'}
use Rattle.rules.proofs.Core.CallCases.{Event, asking, leaving, reserving, waiting}
use Rattle.rules.proofs.Core.RefusalNumbers.{row_number}
use Rattle.rules.proofs.Core.Acceptance.{acceptable}
use Rattle.rules.proofs.Core.Sound.{Sound}
use Rattle.rules.proofs.Flat.Turns.{Counting, node_counts}
use Rattle.rules.proofs.Core.AlwaysSound.{Good, instant_sound, turn_counts}
use Rattle.rules.proofs.Control.FollowsFlat.{control_follows}
use Rattle.cells.specs.Sought.{Sought}
use Rattle.cells.specs.Sought as seek
use Rattle.cells.specs.Step.{class_number, Rest}
use Rattle.cells.specs.Layout.{request_cell, force_cell, class_of, share_of, request_of, request_code}
use Rattle.cells.specs.Decode.{plan_in, core_of, control_of, hub_of}
use Rattle.cells.specs.Masks.{put_request, grant_node}
use Rattle.cells.specs.Waits.{record_since}
use Rattle.cells.specs.Frames.{advance_by}
use Rattle.cells.specs.Instants.{due_by, due_in, sought_by, sought_in}
use Rattle.cells.specs.Turns as turns
use Rattle.cells.specs.Calls.{row12_by, rows_by, number_of, row_by, put_up_code, change_by, event_by, bits_at, busy_until, class_numbered, grant_by, handled_by, Stepped, step_due, step_by, step_answer, step_wait, Performed, event_left, perform_by}
use Rattle.refinement.specs.Kept.{Ready, Kept, counts_of}
use Rattle.refinement.proofs.Changed.{within_node, kept_but, kept_right}
use Rattle.refinement.proofs.Requested.{Left, own_field, request_left}
use Rattle.refinement.proofs.OtherTimes.{record_other, other_left}
use Rattle.refinement.proofs.Granted.{granted_core, grant_left}
use Rattle.refinement.proofs.Headed.{headed, busy_left}
use Rattle.refinement.proofs.Started.{code_read, advance_left}
use Rattle.refinement.proofs.Bounds.{few_granted}
use Rattle.refinement.proofs.Reserved.{reserve_left}
use Rattle.refinement.proofs.Instants.{sought_tied, due_tied}
use Rattle.refinement.proofs.Walked.Chosen.{Chosen, chosen_tied}
use Rattle.refinement.proofs.Rested.{rested_tied}

-- a step over the cells, as a call
abbrev pub stepped : Stepped → Performed
stepped o = record { answer = step_answer o.answer; wait = step_wait o.answer; cells = o.cells }

-- a call over the cells, and the same call on the hub
pub record Agrees (p : Plan) (x : Performed) (o : Outcome Control) : Type 0 where
  pub answer : x.answer ≡ o.answer
  pub left : Left p x.cells o.hub.core o.hub.turn

pub agreed_hub : {p : Plan} {x : Performed} {o : Outcome Control} → Agrees p x o → hub_of p x.cells ≡ o.hub
agreed_hub a i = record { core = a.left.core i; turn = a.left.control i }

-- ---- rows

module _ (P : List ℕ) (R : Ready P) (s : List ℕ) (K : Kept (plan_in P) s) where
  row_tied : (t : ℕ) → row12_by (plan_in P) s t ≡ row12 (plan_in P) (core_of (plan_in P) s) t
  row_tied t i = record { number = 12; applies = before (due_tied P R s K i) t }

  rows_tied : (call : Call) → rows_by (plan_in P) s call ≡ rows (plan_in P) (core_of (plan_in P) s) call
  unfolding rows_by
  rows_tied (ask c t k b) = rw (row_tied t)
  rows_tied (off t k) = rw (row_tied t)
  rows_tied (reserve t k n b) = rw (row_tied t)
  rows_tied (until t) = rw (row_tied t)
  rows_tied (step t) = refl

  -- the number is the verdict's
  number_tied : (call : Call) (v : Verdict) → first_row (rows (plan_in P) (core_of (plan_in P) s) call) ≡ v → row_by P call s ≡ number_of v
  unfolding row_by
  number_tied call v e = ap (λ (rs : List Row). number_of (first_row rs)) (rows_tied call) ∙ ap number_of e

  -- 0 stands for taken
  refused_number : (call : Call) (n : ℕ) → first_row (rows (plan_in P) (core_of (plan_in P) s) call) ≡ refuse n → eqb n 0 ≡ false
  refused_number call n e =
      ne_eqb n 0 (λ z. omega (arith, row_number (plan_in P) (core_of (plan_in P) s) call n e))

  -- nothing changes
  unchanged : Left (plan_in P) s (core_of (plan_in P) s) (control_of (plan_in P) s)
  unchanged = record { kept = K; core = refl; control = refl }

-- ---- events

-- a reservation's length fits in half a cell
small_range : {p : Plan} {n b : ℕ} → InRange p n b → b < 65536
small_range given_up = omega arith
small_range {p} (packets n b l m u) = omega (arith, longest-up p.framing)

accepted_event : (p : Plan) (M : Machine) (h : Hub M.State) {call : Call} → Event call
    → accepted p M call h ≡ record { answer = taken; hub = record { core = change call (advance p (time call) h.core); turn = h.turn } }
accepted_event p M h (asking c t k b) = refl
accepted_event p M h (leaving t k) = refl
accepted_event p M h (reserving t k n b) = refl
accepted_event p M h (waiting t) = refl

module _ (P : List ℕ) (R : Ready P) (s : List ℕ) (K : Kept (plan_in P) s) where
  -- a request of a length in range is read as it was coded
  asked_left : (c : Class) (k b : ℕ) → Within (plan_in P).nodes k → b < 65536
      → Left (plan_in P) (put_request P k (request_code (standing c b)) s)
      (with_request k (standing c b) (core_of (plan_in P) s)) (control_of (plan_in P) s)
  asked_left c k b w u =
      subst
      (λ (r : rules.Request). Left (plan_in P) (put_request P k (request_code (standing c b)) s)
      (with_request k r (core_of (plan_in P) s)) (control_of (plan_in P) s))
      (read c) (request_left P R s K.size k w (kept_right (plan_in P) k s K) (kept_but (plan_in P) s K) (request_code (standing c b)))
    where
      read : (c : Class) → request_of (request_code (standing c b)) ≡ standing c b
      read normal = (code_read b u).0
      read high = (code_read b u).1

module _ (P : List ℕ) (R : Ready P) (s : List ℕ) (K : Kept (plan_in P) s) where
  share_in_force : (k : ℕ) → Within (plan_in P).nodes k → (core_of (plan_in P) s).force k ≡ share_of (get_or s (force_cell k) 0)
  unfolding core_of
  share_in_force k w = rw (within_node (plan_in P) k w)

  -- the event's change, the clock having come to its time
  change_left : (a : Core) (call : Call) → Acceptable (plan_in P) a call
      → Left (plan_in P) (change_by P call s) (change call (core_of (plan_in P) s)) (control_of (plan_in P) s)
  unfolding change_by
  change_left a call (asks c t k b x) =
      subst
      (λ (r : Share). Left (plan_in P) (change_by P (ask c t k b) s) (with_request k (standing (put_up r c) b) (core_of (plan_in P) s)) (control_of (plan_in P) s))
      (sym (share_in_force k x.node))
      (record { kept = l.kept; core = l.core ∙ ap (with_request k (standing d b)) o.core; control = l.control ∙ o.control })
    where
      d : Class
      d = put_up (share_of (get_or s (force_cell k) 0)) c

      -- with the request's time recorded
      r : List ℕ
      r = record_since k (put_up_code c k b s) t s

      o : Left (plan_in P) r (core_of (plan_in P) s) (control_of (plan_in P) s)
      o = other_left (plan_in P) R.drawn s r (record_other k (put_up_code c k b s) t s) K

      l : Left (plan_in P) (put_request P k (request_code (standing d b)) r) (with_request k (standing d b) (core_of (plan_in P) r)) (control_of (plan_in P) r)
      l = asked_left P R r o.kept d k b x.node (omega (arith, x.long, longest-up (plan_in P).framing))
  change_left a call (leaves t k o w) =
      request_left P R s K.size k w (kept_right (plan_in P) k s K) (kept_but (plan_in P) s K) 0
  change_left a call (reserves t k n b x) = reserve_left P R s K k x.node n b (small_range x.range)
  change_left a call (waits t o) = unchanged P R s K

module _ (P : List ℕ) (R : Ready P) (s : List ℕ) (K : Kept (plan_in P) s) where
  pub event_tied : {call : Call} → Event call → Agrees (plan_in P) (event_left P call s) (perform (plan_in P) (control (plan_in P)) call (hub_of (plan_in P) s))
  unfolding perform event_left event_by
  event_tied {call} ev = go (first_row (rows (plan_in P) (core_of (plan_in P) s) call)) refl
    where
      h : Hub Control
      h = hub_of (plan_in P) s

      go : (v : Verdict) → first_row (rows (plan_in P) (core_of (plan_in P) s) call) ≡ v
          → Agrees (plan_in P) (event_left P call s) (decided (plan_in P) (control (plan_in P)) v call h)
      go (refuse n) e =
          rw (number_tied P R s K call (refuse n) e, refused_number P R s K call n e) (record { answer = refl; left = unchanged P R s K })
      go accept e =
          let a = advance_left P R (time call) s K in
          let c = change_left P R (advance_by P (time call) s) a.kept (core_of (plan_in P) s) call (acceptable (plan_in P) (core_of (plan_in P) s) ev e) in
          subst (λ (o : Outcome Control). Agrees (plan_in P) (event_left P call s) o) (sym (accepted_event (plan_in P) (control (plan_in P)) h ev))
          (rw (number_tied P R s K call accept e)
          (record {
            answer = refl;
            left =
                record {
                  kept = c.kept;
                  core = c.core ∙ ap (change call) a.core;
                  control = c.control ∙ a.control;
                };
          }))

-- ---- the step

-- class 1 is normal, 2 high
class_read : (is_high : Bool) → class_numbered (class_number is_high) ≡ class_of is_high
class_read true = refl
class_read false = refl

rest_read : (d moves : ℕ) → step_answer (Rest d moves) ≡ rest d moves
unfolding step_answer
rest_read d moves = refl

-- the length of a node's request
bits_tied : (p : Plan) → p.nodes ≤ 256 → (s : List ℕ) (k : ℕ) → Within p.nodes k → bits_at k s ≡ bits_of ((core_of p s).request k)
unfolding core_of
bits_tied p few s k w =
    rw (le-ltb k 1 w.low, le-ltb 256 k (omega (arith, w.up)))
    (ap bits_of (sym (own_field p k w request_of rules.none (get_or s (request_cell k) 0))))

module _ (P : List ℕ) (R : Ready P) (d : ℕ) (s : List ℕ) (K : Kept (plan_in P) s) (is_high : Bool) where
  abbrev turn : Turn Control
  turn = hubs.choose_by (plan_in P) (class_of is_high) (counts_of (plan_in P) is_high s) (control_of (plan_in P) s)

  abbrev chosen : turns.Turned
  chosen = turns.choose_by P is_high s

  -- a grant to the turn's node, which counts in its class
  grant_tied : Sound (plan_in P) (core_of (plan_in P) s) → Counting (plan_in P).nodes (counts_of (plan_in P) is_high s) turn.node
      → Agrees (plan_in P) (stepped (grant_by P d is_high chosen))
      (grant_to (plan_in P) (control (plan_in P)) d (class_of is_high) (core_of (plan_in P) s) turn)
  unfolding grant_by step_answer
  grant_tied ok n =
      record {
        answer = λ i. grant d (c.node i) (class_read is_high i) (end_same i) (c.moves i);
        left =
            record {
              kept = b.kept;
              core = b.core ∙ ap (λ (x : Core). headed x.clock (rules.busy end) x) (g.core ∙ ap (granted_core node (class_of is_high)) c.core)
                  ∙ (λ i. granting (c.node i) (class_of is_high) (end_same i) (core_of (plan_in P) s));
              control = b.control ∙ g.control ∙ c.control;
            };
      }
    where
      c : Chosen (plan_in P) s chosen turn
      c = chosen_tied P R s K is_high

      node : ℕ
      node = chosen.turn.node

      w : Within (plan_in P).nodes node
      w = subst (λ (k : ℕ). Within (plan_in P).nodes k) (sym c.node) n.within

      few : is_high ≡ true → (core_of (plan_in P) chosen.cells).granted node < 65535
      few e =
          subst (λ (x : Core). x.granted node < 65535) (sym c.core)
          (few_granted (plan_in P) R.drawn.figures (core_of (plan_in P) s) ok node w
          (subst (λ (k : ℕ). counts_in high (core_of (plan_in P) s) k ≡ true) (sym c.node)
          (subst (λ (b : Bool). counts_in (class_of b) (core_of (plan_in P) s) turn.node ≡ true) e n.holds)))

      end : ℕ
      end = d + bits_at node chosen.cells + (plan_in P).overhead

      end_same : end ≡ d + bits_of ((core_of (plan_in P) s).request turn.node) + (plan_in P).overhead
      end_same = ap (λ (x : ℕ). d + x + (plan_in P).overhead) (bits_tied (plan_in P) R.drawn.few_nodes chosen.cells node w
          ∙ ap₂ (λ (x : Core) (k : ℕ). bits_of (x.request k)) c.core c.node)

      g : Left (plan_in P) (grant_node P is_high node chosen.cells) (granted_core node (class_of is_high) (core_of (plan_in P) chosen.cells))
          (control_of (plan_in P) chosen.cells)
      g = grant_left P R chosen.cells c.kept node w is_high few

      b : Left (plan_in P) (busy_until end (grant_node P is_high node chosen.cells))
          (headed (core_of (plan_in P) (grant_node P is_high node chosen.cells)).clock (rules.busy end) (core_of (plan_in P) (grant_node P is_high node chosen.cells)))
          (control_of (plan_in P) (grant_node P is_high node chosen.cells))
      b = busy_left (plan_in P) (grant_node P is_high node chosen.cells) g.kept end

-- the instant d is handled, the clock having come to it
module _ (P : List ℕ) (R : Ready P) (d : ℕ) (s : List ℕ) (K : Kept (plan_in P) s) (ok : Sound (plan_in P) (core_of (plan_in P) s))
    (turns_count : (c : Class) → sought (plan_in P) (core_of (plan_in P) s) ≡ rules.class c
    → Counting (plan_in P).nodes (counts_in c (core_of (plan_in P) s)) (hubs.choose_by (plan_in P) c (counts_in c (core_of (plan_in P) s)) (control_of (plan_in P) s)).node) where
  by-sought : (x : Sought) → sought_by s ≡ x
      → Agrees (plan_in P) (stepped (handled_by P d x s))
      (handled (plan_in P) (control (plan_in P)) d (sought_in x) (core_of (plan_in P) s) (control_of (plan_in P) s))
  unfolding handled_by
  by-sought (seek.Class is_high) e =
      grant_tied P R d s K is_high ok (turns_count (class_of is_high) (sym (sought_tied P R s K) ∙ ap sought_in e))
  by-sought seek.Nothing e =
      let r = rested_tied P R d s K in
      record { answer = ap step_answer r.answer ∙ rest_read d _; left = record { kept = r.kept; core = r.core; control = r.control } }

  handled_tied : Agrees (plan_in P) (stepped (handled_by P d (sought_by s) s))
      (handled (plan_in P) (control (plan_in P)) d (sought (plan_in P) (core_of (plan_in P) s)) (core_of (plan_in P) s) (control_of (plan_in P) s))
  handled_tied =
      subst
      (λ (x : rules.Sought). Agrees (plan_in P) (stepped (handled_by P d (sought_by s) s))
      (handled (plan_in P) (control (plan_in P)) d x (core_of (plan_in P) s) (control_of (plan_in P) s)))
      (sought_tied P R s K) (by-sought (sought_by s) refl)

module _ (P : List ℕ) (R : Ready P) (s : List ℕ) (K : Kept (plan_in P) s)
    (G : Good (plan_in P) R.drawn.figures (control (plan_in P)) (control_follows (plan_in P) R.drawn) (hub_of (plan_in P) s)) where
  -- the clock comes to the due instant, which is handled
  instant_tied : (d : ℕ) → due (plan_in P) (core_of (plan_in P) s) ≡ rules.at d
      → Agrees (plan_in P)
      (stepped (handled_by P d (sought_by (advance_by P d s)) (advance_by P d s)))
      (handled (plan_in P) (control (plan_in P)) d (sought (plan_in P) (advance (plan_in P) d (core_of (plan_in P) s))) (advance (plan_in P) d (core_of (plan_in P) s))
      (control_of (plan_in P) s))
  instant_tied d e =
      subst₂
      (λ (c : Core) (σ : Control). Agrees (plan_in P)
      (stepped (handled_by P d (sought_by r) r))
      (handled (plan_in P) (control (plan_in P)) d (sought (plan_in P) c) c σ))
      a.core a.control (handled_tied P R d r a.kept ok counting)
    where
      r : List ℕ
      r = advance_by P d s

      a : Left (plan_in P) r (advance (plan_in P) d (core_of (plan_in P) s)) (control_of (plan_in P) s)
      a = advance_left P R d s K

      ok : Sound (plan_in P) (core_of (plan_in P) r)
      ok =
          subst (Sound (plan_in P)) (sym a.core)
          (instant_sound (plan_in P) R.drawn.figures (control (plan_in P)) (control_follows (plan_in P) R.drawn) (hub_of (plan_in P) s) G d e)

      counting : (c : Class) → sought (plan_in P) (core_of (plan_in P) r) ≡ rules.class c
          → Counting (plan_in P).nodes (counts_in c (core_of (plan_in P) r)) (hubs.choose_by (plan_in P) c (counts_in c (core_of (plan_in P) r)) (control_of (plan_in P) r)).node
      counting =
          subst₂
          (λ (x : Core) (σ : Control). (c : Class) → sought (plan_in P) x ≡ rules.class c
          → Counting (plan_in P).nodes (counts_in c x) (hubs.choose_by (plan_in P) c (counts_in c x) σ).node)
          (sym a.core) (sym a.control)
          (λ c q. node_counts (plan_in P) (control (plan_in P)) (control_follows (plan_in P) R.drawn) (control_of (plan_in P) s) G.pointed c
          (counts_in c (advance (plan_in P) d (core_of (plan_in P) s)))
          (turn_counts (plan_in P) R.drawn.figures (control (plan_in P)) (control_follows (plan_in P) R.drawn) (hub_of (plan_in P) s) G d c q))

  due_step : (t : ℕ) (x : Option ℕ) → due_by (plan_in P) s ≡ x
      → Agrees (plan_in P) (stepped (step_due P x t s))
      (step_at (plan_in P) (control (plan_in P)) (due_in x) t (hub_of (plan_in P) s))
  unfolding step_due step_answer
  due_step t None e = record { answer = refl; left = unchanged P R s K }
  due_step t (Some d) e = go (which (ltb d t))
    where
      go : Which (ltb d t)
          → Agrees (plan_in P) (stepped (step_due P (Some d) t s))
          (step_at (plan_in P) (control (plan_in P)) (rules.at d) t (hub_of (plan_in P) s))
      go (yes' l) = rw l (instant_tied d (sym (due_tied P R s K) ∙ ap due_in e))
      go (no' l) = rw l (record { answer = refl; left = unchanged P R s K })

  pub step_tied : (t : ℕ) → Agrees (plan_in P) (perform_by P (step t) s) (perform (plan_in P) (control (plan_in P)) (step t) (hub_of (plan_in P) s))
  unfolding perform perform_by step_by step_answer
  step_tied t = go (first_row (rows (plan_in P) (core_of (plan_in P) s) (step t))) refl
    where
      go : (v : Verdict) → first_row (rows (plan_in P) (core_of (plan_in P) s) (step t)) ≡ v
          → Agrees (plan_in P) (perform_by P (step t) s) (decided (plan_in P) (control (plan_in P)) v (step t) (hub_of (plan_in P) s))
      go (refuse n) e =
          rw (number_tied P R s K (step t) (refuse n) e, refused_number P R s K (step t) n e) (record { answer = refl; left = unchanged P R s K })
      go accept e =
          subst (λ (x : rules.Due). Agrees (plan_in P) (perform_by P (step t) s) (step_at (plan_in P) (control (plan_in P)) x t (hub_of (plan_in P) s)))
          (due_tied P R s K)
          (rw (number_tied P R s K (step t) accept e) (due_step t (due_by (plan_in P) s) refl))

  -- every call
  pub performed : (call : Call) → Agrees (plan_in P) (perform_by P call s) (perform (plan_in P) (control (plan_in P)) call (hub_of (plan_in P) s))
  unfolding perform_by
  performed (ask c t k b) = event_tied P R s K (asking c t k b)
  performed (off t k) = event_tied P R s K (leaving t k)
  performed (reserve t k n b) = event_tied P R s K (reserving t k n b)
  performed (until t) = event_tied P R s K (waiting t)
  performed (step t) = step_tied t
