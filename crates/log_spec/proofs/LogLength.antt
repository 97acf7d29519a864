-- Where the plan is taken the log has at most 18 bytes for each byte of the text that is read.
-- So no log has more than 18 × 65,536 bytes: a refused plan's is one line of at most 33.
use Prim.Native.Nat.{ℕ, zero, suc, ◌*◌, ◌≤◌}
use mathlib.Core.Path.{◌≡◌, refl, ap}
use mathlib.Core.List.{List, [], flatten}
use native.Mathlib.Omega.{arith}
use lib.ListN.{length, drop, length-append, length-drop, length-take}
use Rattle.rules.specs.Choice.{sum}
use Rattle.rules.specs.Control.{control}
use Rattle.rules.specs.Run.{made}
use Rattle.rules.specs.Waits.{fresh_watched}
use Rattle.text.specs.Line.{lines, draw_lines}
use Rattle.text.proofs.Lines.{draw-lines}
use Rattle.plan.specs.Answer.{Answer, Taken, Refused}
use Rattle.plan.specs.Tables.{plan_of}
use Rattle.plan.specs.Reading.{reading}
use Rattle.plan_theory.specs.Taken.{TakenAs}
use Rattle.plan_theory.proofs.TakenPlan.{taken_plan}
use Rattle.log_lines.specs.Handed.{limit, handed}
use Rattle.log_lines.specs.FirstLine.{nodes_line, refused_line}
use Rattle.log_spec.specs.Log.{events_log, plan_log, log_of, log_bytes}
use Rattle.log_spec.proofs.LineLengths.{far_length, nodes_length}
use Rattle.log_spec.proofs.EventsPlace.{placed}
use Rattle.log_spec.proofs.RefusedPlan.{Named, answer_named}
use Rattle.log_spec.proofs.EventsPaid.{bytes, events_paid}

-- before any event nothing is aside
nothing_stands : (n : ℕ) → sum n (λ k. 0) ≡ 0
unfolding sum
nothing_stands zero = refl
nothing_stands (suc n) = omega (arith, nothing_stands n)

-- a taken plan's own line is paid for by the plan's bytes
module _ (text : List ℕ) (short : length text ≤ limit) (nodes hubs at line : ℕ) (t : TakenAs text nodes hubs at line) where
  taken_paid : bytes (plan_log text (Taken nodes hubs at line) (reading text).tables) ≤ 18 * length text
  unfolding plan_log flatten made
  taken_paid =
      let p = plan_of (reading text).tables in
      let k = taken_plan text nodes hubs at line t in
      let a = placed text nodes hubs at line t in
      let rest : length (draw_lines (lines (drop at text))) ≡ length (drop at text) = ap length (draw-lines (drop at text)) in
      let cut = length-drop at text in
      let events = events_log p line (fresh_watched p (control p)) (lines (drop at text)) in
      omega (
        arith,
        length-append (nodes_line nodes hubs) (flatten events),
        nodes_length nodes hubs (omega (arith, k.nodes_told, k.plan.few_nodes)) (omega (arith, k.hubs_told, k.plan.few_hubs)),
        nothing_stands p.nodes,
        events_paid p k.plan (lines (drop at text)) line (omega arith) [] (λ k. 0),
      )

handed_short : (text : List ℕ) → length (handed text) ≤ limit
unfolding handed
handed_short text = omega (arith, length-take limit text)

-- where the plan is taken, 18 bytes of log for each byte that is read
pub taken_log_bound : (text : List ℕ) (nodes hubs at line : ℕ) → TakenAs (handed text) nodes hubs at line → length (log_bytes text) ≤ 18 * length (handed text)
unfolding log_bytes log_of
taken_log_bound text nodes hubs at line t = rw t (taken_paid (handed text) (handed_short text) nodes hubs at line t)

-- every log
pub log_bound : (text : List ℕ) → length (log_bytes text) ≤ 1179648
unfolding log_bytes log_of
log_bound text = go (reading (handed text)).answer refl (answer_named (handed text))
  where
    go : (a : Answer) → (reading (handed text)).answer ≡ a → Named a → length (flatten (plan_log (handed text) a (reading (handed text)).tables)) ≤ 1179648
    go (Taken nodes hubs at line) e h =
        omega (arith, handed_short text, taken_paid (handed text) (handed_short text) nodes hubs at line e)
    go (Refused line number) e h = unfold plan_log flatten in omega (arith, length-append (refused_line line number) [], far_length line number h.0 h.1)
