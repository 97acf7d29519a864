-- No time is lost: a step handles the due instant, and where a request counts it is a grant to one that counts.
use Prim.Native.Nat.{ℕ, ◌+◌, ◌*◌, ◌≤◌, ◌<◌}
use mathlib.Core.Path.{◌≡◌, refl, ap, ◌∙◌, subst}
use mathlib.Core.Bool.{true, false}
use mathlib.Core.List.{List}
use native.Mathlib.Omega.{arith}
use borrow.Author.Tests.{lt-ltb}
use Rattle.rules.specs.Plan.{Plan}
use Rattle.rules.specs.Call.{Class, normal, high, Call, step, rest, quiet}
use Rattle.rules.specs.Core.{Core, Request, standing, Line, resting, busy, frame_of, reclassed, advance, counts_in, counts, held, Due, never, at, due_at_rest, due_on, due, before, Sought, nothing, sought}
use Rattle.rules.specs.Drawn.{Figures}
use Rattle.rules.specs.Rows.{last_time, rows}
use Rattle.rules.specs.Machine.{Machine, Hub, Outcome, handled, step_at, perform}
use Rattle.rules.specs.Run.{made}
use Rattle.rules.specs.Promises.{GrantsAt, grants, RestsAt, rests, some_counts, some_held, step_answer, NoTimeLost}
use Rattle.rules.proofs.Laws.Passes.{Some, any_some, any_none, any_intro, true-false, or_left, or_right, and_both}
use Rattle.rules.proofs.Core.RowsPassed.{InTime, passed11}
use Rattle.rules.proofs.Core.CallCases.{accepts, Course, refusal, quietly, granting, course}
use Rattle.rules.proofs.Laws.Frames.{frame_of_start}
use Rattle.rules.proofs.Core.Instants.{Instant, line_ends, one_counts, one_held, no_instant, instant, Seeking, seeks, none-counts, seeking, Advanced, across, inside, advanced}
use Rattle.rules.proofs.Core.Requests.{Start, stays_high, becomes_normal, start_of, of_class}
use Rattle.rules.proofs.Flat.Follows.{Follows}
use Rattle.rules.proofs.Flat.Turns.{Pointed, node_counts}
use Rattle.rules.proofs.Core.ClockAdvance.{due_late, due_end}
use Rattle.rules.proofs.Core.AlwaysSound.{Good, good}
use Rattle.rules.proofs.Laws.Clash.{clash}

-- what counts in a class counts
counts_in_lem : (c : Class) (s : Core) (k : ℕ) → counts_in c s k ≡ true → counts s k ≡ true
unfolding counts
counts_in_lem normal s k e = or_left (counts_in normal s k) (counts_in high s k) e
counts_in_lem high s k e = or_right (counts_in normal s k) (counts_in high s k) e

-- a request that stood high counts after the frame's start: as a high one of a node with n at least 1, or as a normal one
high_counts : (s r : Core) (k b : ℕ) → r.request k ≡ reclassed (r.force k) (standing high b) → r.granted k ≡ 0 → counts r k ≡ true
unfolding counts_in
high_counts s r k b q g = go (start_of (r.force k) b) q
  where
    go : {x : Request} → Start (r.force k) b x → r.request k ≡ x → counts r k ≡ true
    go (stays_high h) e = counts_in_lem high r k (rw (e, g) (lt-ltb 0 (r.force k).packets h.some))
    go (becomes_normal h) e = counts_in_lem normal r k (rw e)

module _ (p : Plan) (s : Core) where
  -- what counts still counts as the clock stays where it is
  counts_now : some_counts p s ≡ true → some_counts p (advance p s.clock s) ≡ true
  unfolding counts counts_in
  counts_now e = go (advanced p s.clock s)
    where
      go : {r : Core} → Advanced p s.clock s r → some_counts p r ≡ true
      go (inside l) = e
      go (across l) = absurd (omega arith)

  -- what is held counts from the next frame's start on
  held-counts : Figures p → some_held p s ≡ true → some_counts p (advance p ((frame_of p s.clock + 1) * p.frame) s) ≡ true
  unfolding held
  held-counts fig e = go (advanced p ((frame_of p s.clock + 1) * p.frame) s) (any_some p.nodes (held s) e)
    where
      go : {r : Core} → Advanced p ((frame_of p s.clock + 1) * p.frame) s r → Some p.nodes (held s) → some_counts p r ≡ true
      go (inside l) k = absurd (omega (arith, frame_of_start p fig (frame_of p s.clock + 1)))
      go {r} (across l) k =
          let stood = of_class high (s.request k.number) (and_both _ _ k.holds).0 in
          any_intro p.nodes (counts r)
          (record { number = k.number; within = k.within; holds = high_counts s r k.number stood.0 (ap (reclassed (s.latest k.number)) stood.1) refl })

  -- the instant due at rest
  due_rest : s.line ≡ resting → due p s ≡ due_at_rest p s
  unfolding due
  due_rest l = ap (λ (x : Line). due_on x p s) l

  due-counts : s.line ≡ resting → some_counts p s ≡ true → due p s ≡ at s.clock
  due-counts l some = due_rest l ∙ rw some

  due-held : s.line ≡ resting → some_counts p s ≡ false → some_held p s ≡ true → due p s ≡ at ((frame_of p s.clock + 1) * p.frame)
  due-held l none some = due_rest l ∙ rw (none, some)

  nothing_counts : {x : Sought} → Seeking p s x → x ≡ nothing → some_counts p s ≡ false
  nothing_counts (seeks c a) q = clash (cc)
  nothing_counts (none-counts a) q = a

module _ (p : Plan) (M : Machine) (h : Hub M.State) where
  -- a step allowed by row 11 looks at the due instant
  step_accepted : (t : ℕ) → InTime h.core t → perform p M (step t) h ≡ step_at p M (due p h.core) t h
  unfolding perform
  step_accepted t i =
      rw (accepts (rows p h.core (step t)) ((passed11 h.core t).1 i, tt))

  -- it handles one that is due before its bound
  step_handles : (t d : ℕ) → InTime h.core t → due p h.core ≡ at d → d < t
      → perform p M (step t) h ≡ handled p M d (sought p (advance p d h.core)) (advance p d h.core) h.turn
  step_handles t d i e l = step_accepted t i ∙ rw (e, lt-ltb d t l)

  -- and is quiet where there is none
  quiet_step : (t : ℕ) → InTime h.core t → before (due p h.core) t ≡ false → step_answer p M h t ≡ quiet
  quiet_step t i n = rw (step_accepted t i, step_answer) (go (due p h.core) n)
    where
      go : (d : Due) → before d t ≡ false → (step_at p M d t h).answer ≡ quiet
      go never e = refl
      go (at d) e = rw e

  module _ (t d : ℕ) (i : InTime h.core t) (e : due p h.core ≡ at d) (l : d < t) where
    -- the turn goes to a node that counts
    grants_there : (follows : Follows p M) → Pointed p M follows h.turn → some_counts p (advance p d h.core) ≡ true
        → GrantsAt p h.core d (step_answer p M h t)
    grants_there follows pointed some = rw (step_handles t d i e l, step_answer) (go (seeking p (advance p d h.core)))
      where
        go : {x : Sought} → Seeking p (advance p d h.core) x → GrantsAt p h.core d (handled p M d x (advance p d h.core) h.turn).answer
        go (seeks c a) =
            let turn = node_counts p M follows h.turn pointed c (counts_in c (advance p d h.core)) a in
            grants _ c _ _ turn.within turn.holds
        go (none-counts a) = absurd (true-false some a)

    rests_there : some_counts p (advance p d h.core) ≡ false → RestsAt d (step_answer p M h t)
    rests_there none = rw (step_handles t d i e l, step_answer) (go (seeking p (advance p d h.core)))
      where
        go : {x : Sought} → Seeking p (advance p d h.core) x → RestsAt d (handled p M d x (advance p d h.core) h.turn).answer
        go (seeks c a) =
            let k = any_some p.nodes (counts_in c (advance p d h.core)) a in
            absurd (true-false (counts_in_lem c (advance p d h.core) k.number k.holds) (any_none p.nodes (counts (advance p d h.core)) none k.number k.within))
        go (none-counts a) = rests _

  quiet_due : (t : ℕ) → step_answer p M h t ≡ quiet → before (due p h.core) t ≡ false
  quiet_due t e = go (course p M h (step t)) e
    where
      go : {o : Outcome M.State} → Course p M h (step t) o → o.answer ≡ quiet → before (due p h.core) t ≡ false
      go (refusal c n a) q = clash (cc)
      go (Course.event _ impossible _) q = elim impossible [ ]
      go (quietly t i n) q = n
      go (granting t d c i a l n) q = clash (cc)
      go (Course.resting t d i a l n) q = clash (cc)

  rest_due : (t s m : ℕ) → step_answer p M h t ≡ rest s m → (due p h.core ≡ at s) × (sought p (advance p s h.core) ≡ nothing)
  rest_due t s m e = go (course p M h (step t)) e
    where
      go : {o : Outcome M.State} → Course p M h (step t) o → o.answer ≡ rest s m
          → (due p h.core ≡ at s) × (sought p (advance p s h.core) ≡ nothing)
      go (refusal c n a) q = clash (cc)
      go (Course.event _ impossible _) q = elim impossible [ ]
      go (quietly t i n) q = clash (cc)
      go (granting t d c i a l n) q = clash (cc)
      go (Course.resting t d i a l n) q = let r : d ≡ s = cc in (cc, cc)

module _ (p : Plan) (fig : Figures p) (M : Machine) (follows : Follows p M) (h : Hub M.State) (ok : Good p fig M follows h) where
  -- an instant that is due at rest finds a request that counts
  rest_ends_line : (d : ℕ) → due p h.core ≡ at d → some_counts p (advance p d h.core) ≡ false → h.core.line ≡ busy d
  rest_ends_line d e none = go (instant p h.core) e
    where
      found : (x : ℕ) → x ≡ d → some_counts p (advance p x h.core) ≡ true → h.core.line ≡ busy d
      found x q some = absurd (true-false (subst (λ (y : ℕ). some_counts p (advance p y h.core) ≡ true) q some) none)

      go : {x : Due} → Instant p h.core x → x ≡ at d → h.core.line ≡ busy d
      go (line_ends f l) q = let r : f ≡ d = cc in cc
      go (one_counts l some) q = found h.core.clock (cc) (counts_now p h.core some)
      go (one_held l none some) q = found ((frame_of p h.core.clock + 1) * p.frame) (cc) (held-counts p h.core fig some)
      go (no_instant l none free) q = clash (cc)

  -- an instant that is due before a step's bound, and finds a request that counts
  grants_due : (t d : ℕ) → due p h.core ≡ at d → d < t → t ≤ last_time → some_counts p (advance p d h.core) ≡ true
      → GrantsAt p h.core d (step_answer p M h t)
  grants_due t d e late soon some =
      grants_there p M h t d (record { late = omega (arith, due_late p fig h.core ok.sound d e); soon = soon }) e late follows ok.pointed some

  lost_nowhere : NoTimeLost p M h
  lost_nowhere =
      record {
        at_once = λ l some t late soon. grants_due t _ (due-counts p h.core l some) late soon (counts_now p h.core some);
        at_start = λ l none some t late soon. grants_due t _ (due-held p h.core l none some) late soon (held-counts p h.core fig some);
        at_end = λ e l t late soon some. grants_due t e (due_end p fig h.core e l) late soon some;
        at_idle_end = λ e l t late soon none.
            rests_there p M h t e (record { late = omega (arith, ok.sound.end_late e l); soon = soon }) (due_end p fig h.core e l) late none;
        rest_only = λ t s m e.
            (let r = rest_due p M h t s m e in
            let none = nothing_counts p (advance p s h.core) (seeking p (advance p s h.core)) r.1 in
            (rest_ends_line s r.0 none, none));
        quiet_only = quiet_due p M h;
        quiet_there = λ t late soon n. quiet_step p M h t (record { late = late; soon = soon }) n;
      }

pub no_time_lost : (p : Plan) → Figures p → (M : Machine) → Follows p M → 1 ≤ p.nodes → (calls : List Call) → NoTimeLost p M (made p M calls).hub
no_time_lost p fig M follows some calls = lost_nowhere p fig M follows (made p M calls).hub (good p fig M follows some calls)
