-- Each line of the log behind the plan's own is told by the calls before it. It goes line by line over the text, and each line finds
-- a hub that is reached (Reached).
use Prim.Native.Nat.{ℕ}
use mathlib.Core.Path.{◌≡◌, refl, sym, subst}
use mathlib.Core.List.{List, [], ◌++◌, map, flatten}
use mathlib.Core.Option.{Option, none, some}
use lib.ListN.{drop}
use Rattle.rules.specs.Plan.{Plan}
use Rattle.rules.specs.Drawn.{Drawn}
use Rattle.rules.specs.Call.{Call, time}
use Rattle.rules.specs.Machine.{Hub, perform}
use Rattle.rules.specs.Control.{Control, control}
use Rattle.rules.specs.Waits.{Watched, fresh_watched}
use Rattle.text.specs.Line.{Lines, nothing, unended, ended, lines, next_number}
use Rattle.plan.specs.Answer as plan
use Rattle.plan.specs.Reading.{reading}
use Rattle.plan_theory.proofs.TakenPlan.{taken_plan}
use Rattle.log_lines.specs.Handed.{handed}
use Rattle.event_lines.specs.Event.{event_of, call_on}
use Rattle.log_spec.specs.Log.{event_line, steps_before, event_log, events_log}
use Rattle.log_spec.specs.NeverTwelve.{writes, plan_acts, acts_of, plan_read}
use Rattle.log_spec.specs.LogWaits.{LinesTold, at_end, no_end, no_form, event, LogWaits}
use Rattle.log_spec.proofs.Reached.{Reached, hub_there, reach, fresh_reached, before_told, event_reached}
use Rattle.log_spec.proofs.NeverTwelve.{acts_written}

module _ (p : Plan) (drawn : Drawn p) where
  -- one line more, where those behind it are told
  line_told : (l : List ℕ) (ls : Lines) (number : ℕ) (w : Watched Control) (r : Reached p w) (call : Option Call) → call_on (event_of l) ≡ call
      → (more : List (List ℕ)) → LinesTold p (event_reached p drawn number call w r).calls (next_number number) ls more
      → LinesTold p r.calls number (ended l ls) ((event_log p number call w).written ++ more)
  unfolding event_log reach event_reached
  line_told l ls number w r none e more told = no_form l e told
  line_told l ls number w r (some call) e more told =
      let s = before_told p drawn (time call) w r in
      let before = steps_before p (time call) w in
      subst
      (λ (h : Hub Control).
      LinesTold p r.calls number (ended l ls) ((before.written ++ event_line number (perform p (control p) call h).answer) ++ more))
      (hub_there p before.left s.reached) (event l call e s.told told)

  log_told : (ls : Lines) (number : ℕ) (w : Watched Control) (r : Reached p w) → LinesTold p r.calls number ls (events_log p number w ls)
  unfolding events_log
  log_told nothing number w r = at_end r.calls number
  log_told (unended l) number w r = no_end r.calls number l
  log_told (ended l ls) number w r =
      let call = call_on (event_of l) in
      line_told l ls number w r call refl _ (log_told ls (next_number number) (event_log p number call w).left (event_reached p drawn number call w r))

pub log_waits : (text : List ℕ) → LogWaits text
unfolding acts_of plan_acts fresh_reached
log_waits text =
    let p = plan_read text in
    let r = reading (handed text) in
    record {
      lines_told =
          λ nodes hubs at line e.
          subst (λ (a : plan.Answer). LinesTold p [] line (lines (drop at (handed text))) (flatten (map (writes p) (plan_acts (handed text) a r.tables))))
          (sym e)
          (subst (LinesTold p [] line (lines (drop at (handed text))))
          (acts_written p (lines (drop at (handed text))) line (fresh_watched p (control p)))
          (log_told p (taken_plan (handed text) nodes hubs at line e).plan (lines (drop at (handed text))) line (fresh_watched p (control p))
          (fresh_reached p)));
    }
