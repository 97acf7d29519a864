-- A pass that measures, and one that writes behind it where the log fits: together all of the log, or nothing.
use Rattle.std.specs.Prelude.{Option, Some, None}
use Rattle.std.specs.Option.{is_some}
use Prim.Native.Nat.{ℕ, ◌+◌, ◌*◌, ◌≤◌}
use mathlib.Core.Path.{◌≡◌, refl, sym, ap, ◌∙◌}
use mathlib.Core.Bool.{Bool, true, false}
use mathlib.Core.List.{List, flatten, append-nil}
use native.Mathlib.Nat.{zero-add}
use native.Mathlib.Omega.{arith}
use lib.ListN.{length}
use borrow.Author.Tests.{le-leb, leb-true, leb-false}
use Rattle.writer.specs.Write.{fits, overwrite, answered, put_answer, put_buffer, put_number, put_row}
use Rattle.writer.proofs.Writes.{put-fits, put_short, put_told_lem}
use Rattle.plan.specs.Answer.{Answer, Taken, Refused}
use Rattle.plan.specs.Reading.{reading, leaves}
use Rattle.log_lines.specs.Handed.{handed}
use Rattle.log_lines.specs.FirstLine.{refused_line}
use Rattle.log_spec.specs.Log.{plan_log, log_of, log_bytes}
use Rattle.log_spec.specs.Cells.{Written, pass_by, plan_left, cells_left}
use Rattle.log_spec.proofs.RunLogged.{pass_writes}
use Rattle.log_spec.proofs.LineLengths.{far_length}
use Rattle.log_spec.proofs.RefusedPlan.{Named, answer_named}
use Rattle.log_spec.proofs.LogLength.{taken_log_bound, log_bound}
use Rattle.log_spec.proofs.AtOnce.{measured, at_once, all_written}

-- the answer tells whether the bytes fit
some_fits : (d : List ℕ) (at : ℕ) (bytes : List ℕ) → is_some (put_answer d at bytes) ≡ fits d at bytes
unfolding put_answer answered
some_fits d at bytes = go (fits d at bytes)
  where
    go : (b : Bool) → is_some (answered b (at + length bytes)) ≡ b
    go true = refl
    go false = refl

-- the pass that measures: it tells whether the log fits, and changes no byte
module _ (text spare b : List ℕ) {r : Option ℕ} {b₁ : List ℕ} (answer : r ≡ (pass_by false text spare b).put) (kept : b₁ ≡ (pass_by false text spare b).buffer) where
  same_buffer : b₁ ≡ b
  same_buffer = kept ∙ ap (λ (w : Written). w.buffer) (pass_writes false text spare b) ∙ measured (log_of text) b 0

  told : r ≡ put_answer b 0 (log_bytes text)
  unfolding log_bytes
  told = answer ∙ ap (λ (w : Written). w.put) (pass_writes false text spare b) ∙ at_once (log_of text) b false

  pub found : (is_some r ≡ fits b 0 (log_bytes text)) × (b₁ ≡ b)
  found = (ap is_some told ∙ some_fits b 0 (log_bytes text), same_buffer)

-- a refused plan's log is one line
refused_log : (text : List ℕ) (line number : ℕ) → (reading (handed text)).answer ≡ Refused line number → length (log_bytes text) ≡ length (refused_line line number)
unfolding log_bytes log_of plan_log flatten
refused_log text line number e = rw (e, append-nil (refused_line line number))

-- room for a log as long as any of a text this long
pub log_room : (text : List ℕ) (room : ℕ) → 33 ≤ room → 18 * length (handed text) ≤ room → length (log_bytes text) ≤ room
log_room text room line enough = go (reading (handed text)).answer refl (answer_named (handed text))
  where
    go : (a : Answer) → (reading (handed text)).answer ≡ a → Named a → length (log_bytes text) ≤ room
    go (Taken nodes hubs at number) e h = omega (arith, taken_log_bound text nodes hubs at number e)
    go (Refused number row) e h = omega (arith, refused_log text number row e, far_length number row h.0 h.1)

pub large_room : (text b : List ℕ) → length (log_bytes text) ≤ length b → (true ≡ fits b 0 (log_bytes text)) × (b ≡ b)
large_room text b h = (sym (le-leb _ (length b) (omega arith)), refl)

-- what `run` promises of its answer, its buffer and its tables
abbrev Left : List ℕ → List ℕ → List ℕ → List ℕ → Option ℕ → List ℕ → List ℕ → List ℕ → Type 0
Left text plan s b r b' plan' s' =
    (r ≡ put_answer b 0 (log_bytes text)) × ((b' ≡ put_buffer b 0 (log_bytes text)) × ((put_number r ≡ put_row b 0 (log_bytes text)) × ((plan' ≡ plan_left text plan b) × (s' ≡ cells_left text s b))))

-- the answer and the buffer, with document 01's number of the answer
all_left : (text plan s b : List ℕ) {r : Option ℕ} {b' plan' s' : List ℕ} → r ≡ put_answer b 0 (log_bytes text) → b' ≡ put_buffer b 0 (log_bytes text)
    → plan' ≡ plan_left text plan b → s' ≡ cells_left text s b → Left text plan s b r b' plan' s'
all_left text plan s b {r} {b'} p q planned kept =
    let t = put_told_lem b 0 (log_bytes text) r b' p q in
    (t.0, (t.1, (t.2, (planned, kept))))

module _ (text plan s b : List ℕ) {b₁ : List ℕ} (same : b₁ ≡ b) where
  pub not_written : fits b 0 (log_bytes text) ≡ false → Left text plan s b None b₁ plan s
  unfolding plan_left cells_left
  not_written short =
      let p = put_short b 0 (log_bytes text) (leb-false _ (length b) short) in
      all_left text plan s b (sym p.0) (same ∙ sym p.1) (rw short) (rw short)

  pub written_whole : fits b 0 (log_bytes text) ≡ true → {r : Option ℕ} {plan' s' b' : List ℕ}
      → (r ≡ (pass_by true text s b₁).put) × ((s' ≡ (pass_by true text s b₁).cells) × ((b' ≡ (pass_by true text s b₁).buffer) × (plan' ≡ leaves (reading (handed text)) plan)))
      → Left text plan s b r b' plan' s'
  unfolding plan_left cells_left log_bytes
  written_whole room {r} {plan'} {s'} {b'} w =
      let p = pass_writes true text s b in
      let v = rw same at w in
      all_left text plan s b
      (v.0 ∙ ap (λ (w : Written). w.put) p ∙ at_once (log_of text) b true)
      (v.1.1.0 ∙ ap (λ (w : Written). w.buffer) p ∙ all_written (log_of text) b (leb-true _ (length b) room))
      (v.1.1.1 ∙ rw room)
      (v.1.0 ∙ rw room)

-- a pass that writes into a buffer that holds every log: the place behind the log is its length, and all of it stands there
module _ (text s b : List ℕ) (large : 1179648 ≤ length b) {r : Option ℕ} (answer : r ≡ (pass_by true text s b).put) where
  pub wrote : r ≡ Some (length (log_bytes text))
  unfolding log_bytes
  wrote =
      answer
      ∙ ap (λ (w : Written). w.put) (pass_writes true text s b)
      ∙ at_once (log_of text) b true
      ∙ (put-fits b 0 (log_bytes text) (omega (arith, log_bound text))).0
      ∙ ap Some (zero-add (length (log_bytes text)))

  pub whole_there : {b' : List ℕ} → b' ≡ (pass_by true text s b).buffer → b' ≡ overwrite b 0 (log_bytes text)
  unfolding log_bytes
  whole_there after =
      let room : 0 + length (log_bytes text) ≤ length b = omega (arith, log_bound text) in
      after ∙ ap (λ (w : Written). w.buffer) (pass_writes true text s b) ∙ all_written (log_of text) b room ∙ (put-fits b 0 (log_bytes text) room).1
