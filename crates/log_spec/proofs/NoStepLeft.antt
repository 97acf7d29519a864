-- The budget of steps before an event is enough: behind them no instant is due before the event's time. Each grant takes a standing
-- request and makes the line busy, and each rest ends a busy line, so the budget falls at each; where it is 0 nothing is due.
use Prim.Native.Nat.{ℕ, zero, suc, ◌+◌, ◌≤◌}
use mathlib.Core.Path.{◌≡◌, refl, ap, subst}
use mathlib.Core.Bool.{Bool, true, false, ◌||◌}
use mathlib.Core.List.{List, ◌∷◌}
use mathlib.Core.Logic.{⊎_elim}
use native.Mathlib.Omega.{arith}
use lib.Dec.{eqb, ltb}
use Rattle.std.specs.Prelude.{if◌then◌else◌}
use Rattle.rules.specs.Choice.{put, sum}
use Rattle.rules.specs.Plan.{Plan}
use Rattle.rules.specs.Drawn.{Drawn, Within}
use Rattle.rules.specs.Call.{Class, normal, high, Call, step, quiet}
use Rattle.rules.specs.Core.{Core, Request, none, standing, Share, reclassed, advance, counts_in, counts, held, Due, at, due, before}
use Rattle.rules.specs.Rows.{row11, accept, refuse}
use Rattle.rules.specs.Machine.{Hub, Outcome, perform}
use Rattle.rules.specs.Control.{Control, control}
use Rattle.rules.specs.Run.{made}
use Rattle.rules.specs.Waits.{Watched, wait_of, watch}
use Rattle.rules.proofs.Laws.Passes.{Some, any_some, or_cases, and_both, sum_same, sum-put}
use Rattle.rules.proofs.Core.RowsPassed.{InTime, passed11}
use Rattle.rules.proofs.Core.Requests.{of_class, counts-stands}
use Rattle.rules.proofs.Core.CallCases as course
use Rattle.rules.proofs.Core.CallCases.{Course, refusal, quietly}
use Rattle.rules.proofs.Core.Instants.{Instant, line_ends, one_counts, one_held, no_instant, instant, Advanced, across, inside, advanced}
use Rattle.rules.proofs.Core.ClockAdvance.{advance_clock}
use Rattle.rules.proofs.Flat.Turns.{node_counts}
use Rattle.rules.proofs.Core.AlwaysSound.{good, turn_counts}
use Rattle.rules.proofs.Promised.NoTimeLost.{no_time_lost}
use Rattle.rules.proofs.Control.FollowsFlat.{control_follows}
use Rattle.rules.proofs.Laws.Clash.{clash}
use Rattle.log_spec.specs.Log.{Logged, stands, runs, budget, after_step, steps}

-- how many requests stand
abbrev pub standings : Plan → Core → ℕ
standings p s = sum p.nodes (λ k. stands (s.request k))

reclassed-stands : (r : Share) (q : Request) → stands (reclassed r q) ≡ stands q
reclassed-stands r none = refl
reclassed-stands r (standing normal b) = refl
reclassed-stands r (standing high b) = go (eqb r.packets 0 || ltb r.bits b)
  where
    go : (x : Bool) → stands (if x then standing normal b else standing high b) ≡ 1
    go true = refl
    go false = refl

pub advance-stands : (p : Plan) (t : ℕ) (s : Core) → standings p (advance p t s) ≡ standings p s
advance-stands p t s = go (advanced p t s)
  where
    go : {r : Core} → Advanced p t s r → standings p r ≡ standings p s
    go (inside l) = refl
    go (across l) = sum_same p.nodes _ _ (λ k w. reclassed-stands (s.latest k) (s.request k))

-- one node's request changed
module _ (p : Plan) (s : Core) (k : ℕ) (w : Within p.nodes k) where
  pub put-stands : (q : Request) → sum p.nodes (λ j. stands (put s.request k q j)) + stands (s.request k) ≡ standings p s + stands q
  put-stands q =
      let f : ℕ → ℕ = λ j. stands (s.request j) in
      let same : sum p.nodes (λ j. stands (put s.request k q j)) ≡ sum p.nodes (put f k (stands q)) = sum_same p.nodes _ _ (λ j h. there j (eqb j k)) in
      omega (arith, sum-put p.nodes f k (stands q) w)
    where
      there : (j : ℕ) (x : Bool) → stands (if x then q else s.request j) ≡ (if x then stands q else stands (s.request j))
      there j true = refl
      there j false = refl

  -- without a request that stands there is one fewer
  pub one_fewer : (c : Class) (b : ℕ) → s.request k ≡ standing c b → sum p.nodes (λ j. stands (put s.request k none j)) + 1 ≡ standings p s
  one_fewer c b e = let r : stands (s.request k) ≡ 1 = ap stands e in omega (arith, put-stands none)

-- where the budget is 0 the line rests and nothing stands, so nothing is due
module _ (p : Plan) (s : Core) (spent : budget p s ≤ 0) where
  none-stands : (k : ℕ) → Within p.nodes k → (c : Class) (b : ℕ) → s.request k ≡ standing c b → ⊥
  none-stands k w c b e = omega (arith, one_fewer p s k w c b e)

  counts-not : Some p.nodes (counts s) → ⊥
  unfolding counts
  counts-not x =
      ⊎_elim (λ e. (let r = counts-stands normal s x.number e in none-stands x.number x.within normal r.0 r.1))
      (λ e. (let r = counts-stands high s x.number e in none-stands x.number x.within high r.0 r.1))
      (or_cases (counts_in normal s x.number) (counts_in high s x.number) x.holds)

  held-not : Some p.nodes (held s) → ⊥
  unfolding held
  held-not x =
      let r = of_class high (s.request x.number) (and_both _ _ x.holds).0 in
      none-stands x.number x.within high r.0 r.1

  not_due : (t : ℕ) → before (due p s) t ≡ false
  not_due t = go (instant p s)
    where
      go : {x : Due} → Instant p s x → before x t ≡ false
      go (line_ends e l) = let r : runs s.line ≡ 1 = ap runs l in absurd (omega arith)
      go (one_counts l some) = absurd (counts-not (any_some p.nodes (counts s) some))
      go (one_held l clear some) = absurd (held-not (any_some p.nodes (held s) some))
      go (no_instant l clear free) = refl

-- what follows a step of watched hub w by its outcome o, which is that of `perform`: n steps more, where it is a grant or a rest
abbrev pub behind : Plan → ℕ → ℕ → Watched Control → Outcome Control → Logged
behind p n t w o =
    after_step p (steps p n t) o.answer (wait_of p w.hub.core o.answer w.times)
    (record { hub = o.hub; times = watch p w.hub.core (step t) o.answer w.times })

module _ (p : Plan) (drawn : Drawn p) (t : ℕ) where
  -- the hub that a list of calls reaches
  abbrev reached : List Call → Hub Control
  reached calls = (made p (control p) calls).hub

  -- one more step
  abbrev Quiet : Hub Control → Type 0
  Quiet h = (perform p (control p) (step t) h).answer ≡ quiet

  -- a budget of at most n is enough
  abbrev Enough : ℕ → Type 0
  Enough n =
      (calls : List Call) (times : ℕ → ℕ) → InTime (reached calls).core t → budget p (reached calls).core ≤ n
      → Quiet (steps p n t (record { hub = reached calls; times = times })).left.hub

  spent_enough : Enough 0
  unfolding steps
  spent_enough calls times i spent =
      (no_time_lost p drawn.figures (control p) (control_follows p drawn) drawn.some_node calls).quiet_there t i.late i.soon
      (not_due p (reached calls).core spent t)

  module _ (n : ℕ) (again : Enough n) (calls : List Call) (times : ℕ → ℕ) (i : InTime (reached calls).core t) (few : budget p (reached calls).core ≤ suc n) where
    abbrev here : Hub Control
    here = reached calls

    -- the step led to hub g, which has less left
    onward : (g : Hub Control) → (perform p (control p) (step t) here).hub ≡ g → (later : ℕ → ℕ) → InTime g.core t → budget p g.core ≤ n
        → Quiet (steps p n t (record { hub = g; times = later })).left.hub
    unfolding made
    onward g e later =
        subst
        (λ (x : Hub Control).
        InTime x.core t → budget p x.core ≤ n → Quiet (steps p n t (record { hub = x; times = later })).left.hub)
        e (again (step t ∷ calls) later)

    by_course : {o : Outcome Control} → Course p (control p) here (step t) o → perform p (control p) (step t) here ≡ o
        → Quiet (behind p n t (record { hub = here; times = times }) o).left.hub
    by_course (refusal c m a) q = let r : accept ≡ refuse m = rw ((passed11 here.core t).1 i) at a in clash (cc)
    by_course (course.event u v a) q = elim v [ ]
    by_course (quietly u j a) q = ap (λ (o : Outcome Control). o.answer) q
    by_course (course.granting u d c j a l b) q =
        let s = advance p d here.core in
        let ok = good p drawn.figures (control p) (control_follows p drawn) drawn.some_node calls in
        let turn =
        node_counts p (control p) (control_follows p drawn) here.turn ok.pointed c (counts_in c s)
        (turn_counts p drawn.figures (control p) (control_follows p drawn) here ok d c b) in
        let k = ((control p).choose c (counts_in c s) here.turn).node in
        let stood = counts-stands c s k turn.holds in
        onward _ (ap (λ (o : Outcome Control). o.hub) q) _ (record { late = omega (arith, advance_clock p d here.core); soon = i.soon })
        (omega (arith, one_fewer p s k turn.within c stood.0 stood.1, advance-stands p d here.core))
    by_course (course.resting u d j a l b) q =
        let lost = no_time_lost p drawn.figures (control p) (control_follows p drawn) drawn.some_node calls in
        let ran : runs here.core.line ≡ 1 = ap runs (lost.rest_only t d _ (ap (λ (o : Outcome Control). o.answer) q)).0 in
        onward _ (ap (λ (o : Outcome Control). o.hub) q) _ (record { late = omega (arith, advance_clock p d here.core); soon = i.soon })
        (omega (arith, advance-stands p d here.core))

    one_more_enough : Quiet (steps p (suc n) t (record { hub = here; times = times })).left.hub
    unfolding steps
    one_more_enough = by_course (course.course p (control p) here (step t)) refl

  enough : (n : ℕ) → Enough n
  enough zero = spent_enough
  enough (suc n) = one_more_enough n (enough n)

-- no step is left out: from every hub that a list of calls reaches, whatever is
-- recorded of it, behind as many steps as the budget allows one more is quiet
pub no_step_left : (p : Plan) → Drawn p → (calls : List Call) (times : ℕ → ℕ) (t : ℕ) → (row11 (made p (control p) calls).hub.core t).applies ≡ false
    → (perform p (control p) (step t)
    (steps p (budget p (made p (control p) calls).hub.core) t (record { hub = (made p (control p) calls).hub; times = times })).left.hub).answer
    ≡ quiet
no_step_left p drawn calls times t e =
    let s = (made p (control p) calls).hub.core in
    enough p drawn t (budget p s) calls times ((passed11 s t).0 e) (omega arith)
