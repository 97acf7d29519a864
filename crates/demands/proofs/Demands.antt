-- The entry points meet the demands: every list of the six calls, from the fresh table of any plan text that is taken.
use Prim.Native.Nat.{ℕ, ◌-◌, ◌*◌, ◌≤◌}
use mathlib.Core.Path.{◌≡◌, refl, sym, ap, subst, subst₂, ◌∙◌}
use mathlib.Core.Bool.{Bool, false}
use mathlib.Core.List.{List, [], ◌∷◌, map}
use Rattle.rules.specs.Plan.{Plan, with_strict, levels}
use Rattle.rules.specs.Call.{Call, step, Answer}
use Rattle.rules.specs.Machine.{Hub, perform}
use Rattle.rules.specs.Control.{Control, control}
use Rattle.rules.specs.Run.{Entry, made}
use Rattle.rules.specs.Agree.{plain, moves_of, Every}
use Rattle.rules.specs.Demand.{Holds3}
use Rattle.rules.specs.AnyMoment.{AnyMoment}
use Rattle.rules.specs.Saving.{SavesOn}
use Rattle.rules.specs.Travel.{Travels}
use Rattle.rules.specs.Looks.{call_looks, most_in_call, PlaceOf, FewLooks}
use Rattle.rules.specs.Promises.{NoTimeLost, Admits}
use Rattle.rules.specs.Words.{clock_at}
use Rattle.rules.specs.WaitWords.{stand_at}
use Rattle.rules.specs.Waits.{watched, stand_of, WaitTold}
use Rattle.rules.specs.Strict.{answers_in, StaysNormal}
use Rattle.rules.proofs.Core.Acceptance.{acceptable_taken, taken_acceptable}
use Rattle.rules.proofs.Core.AlwaysSound.{Good}
use Rattle.rules.proofs.Control.FollowsFlat.{control_follows}
use Rattle.plan.specs.Tables.{plan_of}
use Rattle.plan.specs.Reading.{reading}
use Rattle.plan_theory.specs.Taken.{TakenAs}
use Rattle.demands.specs.Promises.{Promises}
use Rattle.demands.proofs.Promises.{drawn_promises}
use Rattle.cells.specs.Step.{Grant}
use Rattle.cells.specs.Layout.{time_at, clock_cell}
use Rattle.cells.specs.Decode.{plan_in, core_of, hub_of}
use Rattle.cells.specs.Waits.{times_of}
use Rattle.cells.specs.Calls.{step_by, class_numbered, step_answer, step_wait, perform_by}
use Rattle.cells.specs.Looks.{looks_by}
use Rattle.cells.specs.Run.{made_by}
use Rattle.refinement.specs.Kept.{Ready}
use Rattle.refinement.proofs.ReadyPlan.{ready, plan_in_lem}
use Rattle.refinement.proofs.Performed.{Agrees, agreed_hub, performed}
use Rattle.refinement.proofs.Unaffected.{unaffected}
use Rattle.refinement.proofs.Runs.{RunTied, run_tied, run_good}
use Rattle.refinement.proofs.Looked.Calls.{same-looks}
use Rattle.refinement.proofs.Written.Told.{Tells, tells}
use Rattle.refinement.proofs.Written.Calls.{few_writes}
use Rattle.refinement.proofs.WatchedRuns.{run_times, next-entry}
use Rattle.demands.specs.Demands.{Calls, calls_of, Demands}
use Rattle.demands.proofs.Unchanged.{refusal_unchanged, quiet_unchanged}
use Rattle.demands.proofs.Sequence.{Made, sequence}

clock_cells : (p : Plan) (s : List ℕ) → (core_of p s).clock ≡ time_at s clock_cell
unfolding core_of
clock_cells p s = refl

-- a plan that isn't strict is itself without the line
not_strict : (p : Plan) → p.strict ≡ false → p ≡ with_strict false p
not_strict p e = ap (λ (b : Bool). with_strict b p) e

module _ (P : List ℕ) (R : Ready P) (past : List Entry) (m : Made P past (made_by P (calls_of past)).cells) where
  abbrev p : Plan
  p = plan_in P

  abbrev calls : List Call
  calls = calls_of past

  abbrev s : List ℕ
  s = (made_by P calls).cells

  tied : RunTied P calls
  tied = run_tied P R calls

  kept : Promises p calls
  kept = drawn_promises (plan_in P) R.drawn calls

  same : past ≡ (made p (control p) calls).past
  same = m.past_is ∙ tied.past

  fine : Good p R.drawn.figures (control p) (control_follows p R.drawn) (hub_of p s)
  fine = run_good P R calls tied

  agrees : (call : Call) → Agrees p (perform_by P call s) (perform p (control p) call (hub_of p s))
  agrees call = performed P R s tied.kept fine call

  leaves : (call : Call) → hub_of p (perform_by P call s).cells ≡ (perform p (control p) call (hub_of p s)).hub
  leaves call = agreed_hub (agrees call)

  -- where the clock is left
  left_clock : (call : Call) → (perform p (control p) call (hub_of p s)).hub.core.clock ≡ time_at (perform_by P call s).cells clock_cell
  left_clock call = ap (λ (h : Hub Control). h.core.clock) (sym (leaves call)) ∙ clock_cells p (perform_by P call s).cells

  -- what is recorded is what the calls and answers tell
  recorded : (k : ℕ) → stand_at p k (clock_at past) past ≡ stand_of ((core_of p s).request k) (times_of p s k)
  recorded k =
      (λ i. stand_at p k (clock_at (same i)) (same i)) ∙ kept.waits.recorded_told k
      ∙ sym (λ i. stand_of ((tied.hub i).core.request k) (run_times P R calls i k))

  -- and so is the wait of one more step's grant, by the list with that step
  wait_told : (t d k class end moves wait : ℕ) → (step_by P t s).answer ≡ Grant d k class end moves wait
      → WaitTold p k (class_numbered class) d wait past
  unfolding perform_by step_answer step_wait
  wait_told t d k class end moves wait e =
      let before = (watched p (control p) calls).past in
      subst (WaitTold p k (class_numbered class) d wait) (kept.waits.unaffected ∙ sym same)
      ((drawn_promises p R.drawn (step t ∷ calls)).waits.waits_told [] t d k (class_numbered class) end moves wait before
      (next-entry P R (step t) calls
      ∙ (λ i. record { entry = record { call = step t; answer = step_answer (e i) }; wait = step_wait (e i) } ∷ before)))

  -- the latest call of the list with one call more
  one_more : (call : Call) → PlaceOf (made p (control p) (call ∷ calls)).past
  unfolding made
  one_more call =
      let latest : Entry = record { call = call; answer = (perform p (control p) call (made p (control p) calls).hub).answer } in
      record { before = past; entry = latest; later = []; place = ap (λ (es : List Entry). latest ∷ es) (sym same) }

  looks_few : (call : Call) → looks_by P call s ≤ most_in_call p
  unfolding one_more
  looks_few call =
      subst (λ (n : ℕ). n ≤ most_in_call p) (sym (same-looks P R s tied.kept fine call))
      (subst (λ (a : Answer). call_looks p (hub_of p s) a ≤ most_in_call p) (sym (agrees call).answer)
      (subst (λ (h : Hub Control). call_looks p h (perform p (control p) call h).answer ≤ most_in_call p) (sym tied.hub)
      ((drawn_promises p R.drawn (call ∷ calls)).few_looks.few (one_more call))))

  meets : Demands P p past s
  meets =
      record {
        turns_agree = ap (map plain) same ∙ kept.turns_agree;
        by_rules = same;
        few_moves = subst (Every (λ a. moves_of a ≤ 4 * (levels p - 1))) (sym same) kept.few_moves;
        travels = subst (Travels p) (sym same) kept.travels;
        few_looks = subst (FewLooks p) (sym same) kept.few_looks;
        looks_are = same-looks P R s tied.kept fine;
        looks_few = looks_few;
        few_writes = few_writes P R s (λ call.
            subst₂ (Tells p call) (sym (agrees call).answer) (left_clock call)
            (tells p R.drawn.figures (control p) (control_follows p R.drawn) (hub_of p s) fine call));
        demand_3 = subst (Holds3 p) (sym same) kept.demand_3;
        any_moment = subst (AnyMoment p) (sym same) kept.any_moment;
        either_default = kept.either_default;
        as_normal = λ e.
            ap answers_in same ∙ ap (λ (q : Plan). answers_in (made q (control q) calls).past) (not_strict p e) ∙ kept.as_normal.answers;
        stays_normal = subst (StaysNormal p) (sym same) kept.stays_normal;
        recorded = recorded;
        wait_told = wait_told;
        unaffected = unaffected P R s tied.kept fine;
        hub = tied.hub;
        answers = λ call. (agrees call).answer;
        leaves = leaves;
        as_from_root = ap (map plain) same ∙ kept.as_from_root;
        saves = λ call. subst (λ (h : Hub Control). SavesOn p h call) (sym tied.hub) (kept.saves call);
        no_time_lost = subst (NoTimeLost p (control p)) (sym tied.hub) kept.no_time_lost;
        clock_grows = grows;
        refusal_changes_nothing = refusal_unchanged P s;
        quiet_changes_nothing = quiet_unchanged P s;
        admits = subst₂ (Admits p) (sym same) (ap (λ (h : Hub Control). h.core) (sym tied.hub)) kept.admits;
        takes = λ call a. (agrees call).answer ∙ acceptable_taken p (control p) call (hub_of p s) a;
        takes_only = λ call e. taken_acceptable p (control p) call (hub_of p s) (sym (agrees call).answer ∙ e);
      }
    where
      grows : (call : Call) → time_at s clock_cell ≤ time_at (perform_by P call s).cells clock_cell
      grows call =
          subst₂ ◌≤◌ (clock_cells p s) (left_clock call)
          (subst (λ (h : Hub Control). h.core.clock ≤ (perform p (control p) call h).hub.core.clock) (sym tied.hub) (kept.clock_grows call))

pub demands : (text : List ℕ) (nodes hubs at line : ℕ) → TakenAs text nodes hubs at line → (past : List Entry) (z : List ℕ)
    → Calls (reading text).tables past z → Demands (reading text).tables (plan_of (reading text).tables) past z
demands text nodes hubs at line t past z c =
    let P = (reading text).tables in
    let m = sequence P c in
    subst₂ (λ (p : Plan) (r : List ℕ). Demands P p past r) (plan_in_lem text nodes hubs at line t) (sym m.cells_are)
    (meets P (ready text nodes hubs at line t) past (record { past_is = m.past_is; cells_are = refl }))
