-- A pass over the lent tables and the lent buffer writes, or measures, the log of the text:
-- it answers as writing the log's lines one by one does, and leaves the same buffer; and
-- the cells that it leaves are the watched hub behind the last event.
use Rattle.std.specs.Prelude.{Some}
use Prim.Native.Nat.{ℕ, suc, ◌+◌}
use mathlib.Core.Path.{◌≡◌, refl, sym, subst, ap, ◌∙◌}
use mathlib.Core.Bool.{Bool, true, false}
use mathlib.Core.List.{List, [], ◌∷◌, flatten}
use native.Mathlib.Omega.{arith}
use borrow.Author.Tests.{leb-true}
use lib.ListN.{length, drop}
use Rattle.rules.specs.Plan.{Plan}
use Rattle.rules.specs.Control.{Control, control}
use Rattle.rules.specs.Waits.{Watched, fresh_watched}
use Rattle.rules.proofs.Laws.Passes.{Which, which, yes', no'}
use Rattle.text.specs.Line.{lines}
use Rattle.writer.specs.Write.{fits}
use Rattle.plan.specs.Answer.{Answer, Taken, Refused}
use Rattle.plan.specs.Reading.{reading}
use Rattle.log_lines.specs.Handed.{handed}
use Rattle.log_lines.specs.FirstLine.{nodes_line, refused_line, first_line}
use Rattle.cells.specs.Decode.{plan_in, hub_of}
use Rattle.cells.specs.Waits.{times_of}
use Rattle.cells.specs.Fresh.{fresh_cells}
use Rattle.refinement.proofs.ReadyPlan.{plan_in_lem, ready}
use Rattle.log_spec.specs.Log.{events_log, plan_log, log_of, log_bytes}
use Rattle.log_spec.specs.NeverTwelve.{plan_read}
use Rattle.log_spec.specs.Left.{events_left, left_by, RunLeaves}
use Rattle.log_spec.specs.Cells.{Written, cells_left, put_lines, going_on, line, behind_plan, pass_by}
use Rattle.log_spec.proofs.Writing.{written_by, Writes, writes_none, writes_line, writes_on}
use Rattle.log_spec.proofs.Leading.{Leads, fresh_leads, leads_left}
use Rattle.log_spec.proofs.AtOnce.{lines_fit}
use Rattle.log_spec.proofs.EventsLogged.{events_log_lem}

module _ (write : Bool) (text s buffer : List ℕ) where
  abbrev P : List ℕ
  P = (reading text).tables

  -- what a pass leaves: after a refused plan the cells as they were, else those that the events lead to
  abbrev LeftBy : Answer → List ℕ → Type 0
  LeftBy (Refused l number) r = r ≡ s
  LeftBy (Taken nodes hubs at number) r = Leads P r (events_left (plan_in P) number (fresh_watched (plan_in P) (control (plan_in P))) (lines (drop at text)))

  -- behind the plan's own line
  plan_log_lem : (a : Answer) → (reading text).answer ≡ a
      → Writes write (plan_log text a P) buffer 0 (LeftBy a) (going_on (behind_plan write text a P) (line write (first_line a) s buffer 0))
  unfolding plan_log behind_plan first_line
  plan_log_lem (Refused l number) e =
      writes_on write buffer 0 (λ r. r ≡ s) (λ r. r ≡ s) (refused_line l number ∷ []) [] (line write (refused_line l number) s buffer 0)
      (λ r b z. record { put = Some z; cells = r; buffer = b }) (writes_line write buffer 0 _ (refused_line l number) s refl) (λ r b z q. writes_none write b z _ r q)
  plan_log_lem (Taken nodes hubs at number) e =
      subst
      (λ (p : Plan).
      Writes write (nodes_line nodes hubs ∷ events_log p number (fresh_watched p (control p)) (lines (drop at text))) buffer 0 (LeftBy (Taken nodes hubs at number))
      (going_on (behind_plan write text (Taken nodes hubs at number) P) (line write (nodes_line nodes hubs) s buffer 0)))
      (plan_in_lem text nodes hubs at number e)
      (writes_on write buffer 0 (λ r. Unit {0}) (LeftBy (Taken nodes hubs at number)) (nodes_line nodes hubs ∷ [])
      (events_log (plan_in P) number (fresh_watched (plan_in P) (control (plan_in P))) (lines (drop at text)))
      (line write (nodes_line nodes hubs) s buffer 0) (behind_plan write text (Taken nodes hubs at number) P)
      (writes_line write buffer 0 _ (nodes_line nodes hubs) s tt)
      (λ r b z q.
      events_log_lem write P (ready text nodes hubs at number e) text (suc (length text)) (record { at = at; number = number }) (omega arith) fresh_cells
      (fresh_watched (plan_in P) (control (plan_in P))) (fresh_leads P) b z))

pub pass_writes : (write : Bool) (text s buffer : List ℕ) → written_by (pass_by write text s buffer) ≡ put_lines write (log_of text) buffer 0
unfolding pass_by log_of
pass_writes write text s buffer = (plan_log_lem write (handed text) s buffer (reading (handed text)).answer refl).written

-- the cells that a pass leaves where the whole log fits
module _ (text s buffer : List ℕ) (fit : fits buffer 0 (log_bytes text) ≡ true) where
  whole : (pass_by true text s buffer).put ≡ Some (0 + length (log_bytes text))
  unfolding log_bytes
  whole =
      ap (λ (w : Written). w.put)
      (pass_writes true text s buffer ∙ lines_fit true (log_of text) buffer 0 (leb-true (0 + length (flatten (log_of text))) (length buffer) fit))

  left_by_lem : (a : Answer) → (reading (handed text)).answer ≡ a → LeftBy true (handed text) s buffer a (cells_left text s buffer)
  unfolding cells_left pass_by
  left_by_lem a e = rw (fit, ← e) ((plan_log_lem true (handed text) s buffer (reading (handed text)).answer refl).leaves (0 + length (log_bytes text)) whole)

module _ (text s buffer : List ℕ) where
  -- the watched hub that the cells are
  abbrev watched_in : Plan → Watched Control
  watched_in p = record { hub = hub_of p (cells_left text s buffer); times = times_of p (cells_left text s buffer) }

  taken_leaves : (nodes hubs at line : ℕ) → (reading (handed text)).answer ≡ Taken nodes hubs at line → fits buffer 0 (log_bytes text) ≡ true
      → watched_in (plan_read text) ≡ left_by text at line
  taken_leaves nodes hubs at line e fit =
      subst (λ (p : Plan). watched_in p ≡ events_left p line (fresh_watched p (control p)) (lines (drop at (handed text))))
      (plan_in_lem (handed text) nodes hubs at line e)
      (leads_left (reading (handed text)).tables (ready (handed text) nodes hubs at line e) (cells_left text s buffer) _
      (left_by_lem text s buffer fit (Taken nodes hubs at line) e))

  refused-leaves : (line number : ℕ) → (reading (handed text)).answer ≡ Refused line number → cells_left text s buffer ≡ s
  unfolding cells_left
  refused-leaves line number e = go (which (fits buffer 0 (log_bytes text)))
    where
      go : Which (fits buffer 0 (log_bytes text)) → cells_left text s buffer ≡ s
      go (yes' f) = left_by_lem text s buffer f (Refused line number) e
      go (no' f) = rw f

  pub run_leaves : RunLeaves text s buffer
  run_leaves =
      record {
        behind_the_last = λ nodes hubs at line e fit. ap (λ (w : Watched Control). w.hub) (taken_leaves nodes hubs at line e fit);
        times_behind = λ nodes hubs at line e fit. ap (λ (w : Watched Control). w.times) (taken_leaves nodes hubs at line e fit);
        refused = refused-leaves;
      }
