-- One more call while node k's high request waits, or after its grant: a
-- grant to k is a high one, in time, and any other call leaves k waiting.
use Prim.Native.Nat.{ℕ, ◌+◌, ◌≤◌, ◌<◌}
use mathlib.Core.Path.{◌≡◌, refl, sym}
use mathlib.Core.Bool.{true, false, not, ◌||◌}
use mathlib.Core.List.{List, ◌∷◌}
use native.Mathlib.Omega.{arith}
use borrow.Author.Tests.{eq-eqb, ne_eqb, not-true}
use Rattle.rules.specs.Choice.{any}
use Rattle.rules.specs.Plan.{Plan}
use Rattle.rules.specs.Drawn.{Within, Figures}
use Rattle.rules.specs.Call.{normal, high, Call, ask, off, reserve, until, step, time, taken, refused}
use Rattle.rules.specs.Core.{Core, Share, bits_of, frame_of, advance, counts_in, at, due, class, sought}
use Rattle.rules.specs.Machine.{Machine, Hub, Outcome}
use Rattle.rules.specs.Rows.{accept, first_row, rows, change}
use Rattle.rules.specs.Run.{Entry}
use Rattle.rules.specs.AnyMoment.{none, granted, grant_by, first_grant, breaks, came, kept_standing, wait_limit}
use Rattle.rules.proofs.Laws.Passes.{any_intro, and_both}
use Rattle.rules.proofs.Laws.Clash.{clash}
use Rattle.rules.proofs.Flat.Follows.{Follows}
use Rattle.rules.proofs.Core.CallCases.{Event, asking, leaving, reserving, waiting, not_due, Course, refusal, event, quietly, granting, resting as rested}
use Rattle.rules.proofs.Core.Acceptance.{acceptable}
use Rattle.rules.proofs.Core.Instants.{advanced}
use Rattle.rules.proofs.Flat.Turns.{Pointed, node_counts, node_chosen, pointed_turn, pointers_turn}
use Rattle.rules.proofs.Core.ClockAdvance.{advance_clock}
use Rattle.rules.proofs.Core.AlwaysSound.{Good, instant_sound}
use Rattle.rules.proofs.Core.AlwaysTold.{event_clock}
use Rattle.rules.proofs.Laws.Sums.{more}
use Rattle.rules.proofs.Demand3.Standing.{sought_high, DueBefore, not_behind, handled_before}
use Rattle.rules.proofs.Demand3.GrantsSoFar.{entry}
use Rattle.rules.proofs.Demand3.Fair.{reach, Moment, Next, own, nearer, ends_soon, turn}
use Rattle.rules.proofs.Demand3.HighTurn.{turn_at}
use Rattle.rules.proofs.AnyMoment.Waiting.{Waiting, within_limit, advance_waits, change_waits, waiting_counts, waiting_due, waiting_moment, grant_waits}

-- a refused call and an event are no grant
pub refused_none : (k n : ℕ) (call : Call) → grant_by k call (refused n) ≡ none
refused_none k n (ask c t j b) = refl
refused_none k n (off t j) = refl
refused_none k n (reserve t j m b) = refl
refused_none k n (until t) = refl
refused_none k n (step t) = refl

pub event_none : (k : ℕ) {call : Call} → Event call → grant_by k call taken ≡ none
event_none k (asking c t j b) = refl
event_none k (leaving t j) = refl
event_none k (reserving t j n b) = refl
event_none k (waiting t) = refl

-- of a request kept standing: an event while it has no grant doesn't break its stand
kept_by : (k : ℕ) (call : Call) (since : List Entry) → first_grant k since ≡ none → kept_standing k (entry call taken ∷ since) ≡ true
    → breaks k call taken ≡ false
unfolding kept_standing
kept_by k call since n e =
    let h = (and_both (kept_standing k since) (came (first_grant k since) || not (breaks k call taken)) e).1 in
    let q : not (breaks k call taken) ≡ true = rw n at h in
    not-true (breaks k call taken) q

module _ (p : Plan) (fig : Figures p) (M : Machine) (follows : Follows p M) (k start : ℕ) (w : Within p.nodes k) (R : ℕ → Share) where
  -- k waits; the high grants of each node since the request are counted beside the hub
  pub record Waits (h : Hub M.State) : Type 0 where
    pub since_start : ℕ → ℕ
    pub pointed : Pointed p M follows h.turn
    pub waiting : Waiting p k start R since_start h.core (pointed.pointers high)

  -- k still waits, or it was granted in time
  pub data Progress (since : List Entry) (h : Hub M.State) : Type 0 where
    waits : first_grant k since ≡ none → Waits h → Progress since h
    served : (s : ℕ) → first_grant k since ≡ granted high s → s ≤ start + wait_limit p k R → Progress since h

  module _ (since : List Entry) (h : Hub M.State) (ok : Good p fig M follows h) (n : first_grant k since ≡ none) (x : Waits h) where
    abbrev G : ℕ → ℕ
    G = x.since_start

    abbrev a : ℕ
    a = x.pointed.pointers high

    -- what is reserved stays, as far as the clock comes
    abbrev Unchanged : ℕ → Type 0
    Unchanged t = frame_of p h.core.clock < frame_of p t → (j : ℕ) → Within p.nodes j → h.core.latest j ≡ R j

    due_soon : DueBefore p h.core (reach p start R G + 1)
    due_soon = waiting_due p k start R G h.core a x.waiting w

    on : (t : ℕ) → t ≤ reach p start R G → Unchanged t
        → Waiting p k start R G (advance p t h.core) a
    on t soon same = advance_waits p k start R G h.core a x.waiting t soon same w (advanced p t h.core)

    keep_event : (call : Call) → Event call → first_row (rows p h.core call) ≡ accept → Unchanged (time call)
        → kept_standing k (entry call taken ∷ since) ≡ true
        → Progress (entry call taken ∷ since) (record { core = change call (advance p (time call) h.core); turn = h.turn })
    unfolding first_grant
    keep_event call e r same stands =
        let early = not_behind p h.core (reach p start R G + 1) (time call) due_soon (not_due p h.core e r) in
        waits (rw (n, event_none k e))
        (record {
          since_start = x.since_start;
          pointed = x.pointed;
          waiting =
              change_waits p k start R G h.core a w (acceptable p h.core e r)
              (on (time call) (omega arith) same) (kept_by k call since n stands);
        })

    module _ (d : ℕ) (e : due p h.core ≡ at d) (same : Unchanged d) where
      soon : d ≤ reach p start R G
      soon = omega (arith, handled_before p h.core (reach p start R G + 1) d due_soon e)

      here : Waiting p k start R G (advance p d h.core) a
      here = on d soon same

      counts : counts_in high (advance p d h.core) k ≡ true
      counts = waiting_counts p k start R G (advance p d h.core) a here w

      -- the turn is given in class high, to k or to a node ahead of it
      keep_turn : (t : ℕ) → Progress (entry (step t) (turn_at p M d high (advance p d h.core) h.turn).answer ∷ since)
          (turn_at p M d high (advance p d h.core) h.turn).hub
      unfolding first_grant
      keep_turn t =
          go
          (turn p k start w R G s a now node (node_counts p M follows h.turn x.pointed high (counts_in high s) some)
          (node_chosen p M follows h.turn x.pointed high (counts_in high s) some))
        where
          s : Core
          s = advance p d h.core

          node : ℕ
          node = (M.choose high (counts_in high s) h.turn).node

          end : ℕ
          end = d + bits_of (s.request node) + p.overhead

          some : any p.nodes (counts_in high s) ≡ true
          some = any_intro p.nodes (counts_in high s) (record { number = k; within = w; holds = counts })

          now : Moment p k start R G s a
          now =
              waiting_moment p k start R G s a here w (instant_sound p fig M follows h ok d e)
              (omega (arith, advance_clock p d h.core, soon))

          in_reach : end ≤ reach p start R (more G node)
          in_reach =
              omega (
                arith,
                advance_clock p d h.core,
                ends_soon p k start w R G s a now node (node_counts p M follows h.turn x.pointed high (counts_in high s) some),
              )

          go : Next p k G node
              → Progress (entry (step t) (turn_at p M d high s h.turn).answer ∷ since) (turn_at p M d high s h.turn).hub
          go (own q) =
              served d (rw (n, eq-eqb node k q)) (omega (arith, soon, within_limit p k start R G s a here))
          go (nearer q first fair) =
              waits (rw (n, ne_eqb node k (λ i. q (sym i))))
              (record {
                since_start = more G node;
                pointed = pointed_turn p M follows h.turn x.pointed high (counts_in high s) some;
                waiting =
                    rw (pointers_turn p M follows h.turn x.pointed high (counts_in high s) some)
                    (grant_waits p k start R G s a here w node end q first fair
                    (node_counts p M follows h.turn x.pointed high (counts_in high s) some) in_reach);
              })

      seeks_high : sought p (advance p d h.core) ≡ class high
      seeks_high = sought_high p (advance p d h.core) k w counts

    keep_waits : {call : Call} {o : Outcome M.State} → Course p M h call o → Unchanged o.hub.core.clock
        → kept_standing k (entry call o.answer ∷ since) ≡ true → Progress (entry call o.answer ∷ since) o.hub
    unfolding first_grant
    keep_waits (refusal call m e) same stands = waits (rw (n, refused_none k m call)) x
    keep_waits (event call e r) same stands =
        keep_event call e r (rw (event_clock e (advance p (time call) h.core), advance_clock p (time call) h.core) at same) stands
    keep_waits (quietly t i q) same stands = waits (rw n) x
    keep_waits (granting t d high i e l q) same stands = keep_turn d e (rw (advance_clock p d h.core) at same) t
    keep_waits (granting t d normal i e l q) same stands =
        let r = seeks_high d e (rw (advance_clock p d h.core) at same) in
        clash (cc)
    keep_waits (rested t d i e l q) same stands =
        let r = seeks_high d e (rw (advance_clock p d h.core) at same) in
        clash (cc)

  -- while k waits, what is reserved in the frame that the call brings the clock to is what was reserved at first
  pub keep : (since : List Entry) (h : Hub M.State) → Good p fig M follows h → {call : Call} {o : Outcome M.State} → Course p M h call o
      → (first_grant k since ≡ none → frame_of p h.core.clock < frame_of p o.hub.core.clock → (j : ℕ) → Within p.nodes j → h.core.latest j ≡ R j)
      → kept_standing k (entry call o.answer ∷ since) ≡ true → Progress since h → Progress (entry call o.answer ∷ since) o.hub
  unfolding first_grant
  keep since h ok course same stands (waits n x) = keep_waits since h ok n x course (same n) stands
  keep since h ok course same stands (served s g l) = served s (rw g) l
