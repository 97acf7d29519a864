-- The run behind the plan's line, and the whole run, by what each call answered.
use Rattle.std.specs.Prelude.{Option, Some, None, Result, Ok, Err}
use Prim.Native.Nat.{ℕ, suc}
use mathlib.Core.Path.{◌≡◌, refl, sym, ap, ◌∙◌}
use mathlib.Core.Bool.{Bool}
use mathlib.Core.List.{List}
use lib.ListN.{length}
use Rattle.writer.specs.Write.{put_answer, pass_buffer}
use Rattle.plan_tree.specs.declared.Refused as tree
use Rattle.plan.specs.declared.Taken as code
use Rattle.plan.specs.Answer.{Answer, Taken, Refused, told_answer}
use Rattle.plan.specs.Reading.{Read, reading, leaves}
use Rattle.log_lines.specs.Handed.{handed}
use Rattle.log_lines.specs.FirstLine.{first_line}
use Rattle.cells.specs.Fresh.{fresh_cells}
use Rattle.log_spec.specs.Cells.{line, going_on, events_by, behind_plan, pass_by}
use Rattle.line_run.specs.LineRun.{Ran}
use Rattle.line_run.proofs.Ran.{ran_same, onward, halted}

module _ (write : Bool) (text : List ℕ) (answer : Result code.Taken tree.Refused) (P s b : List ℕ) (at : ℕ) where
  pub plan_refused : {e : tree.Refused} → answer ≡ Err e → Ran (behind_plan write text (told_answer answer) P s b at) (Some at) s b
  unfolding behind_plan
  plan_refused e = rw e (refl, (refl, refl))

  pub plan_taken : (x : code.Taken) → answer ≡ Ok x → {s' : List ℕ} → s' ≡ fresh_cells
      → {r : Option ℕ} {s'' b'' : List ℕ} → Ran (events_by write P text (suc (length text)) (record { at = x.at; number = x.line }) s' b at) r s'' b''
      → Ran (behind_plan write text (told_answer answer) P s b at) r s'' b''
  unfolding behind_plan
  plan_taken x e f w = rw e (rw f at w)

-- behind a refused plan the lent tables don't matter, and a taken one's are the reading's
tables_left : (write : Bool) (text : List ℕ) (x : Read) (old s b : List ℕ) (at : ℕ) → behind_plan write text x.answer x.tables s b at ≡ behind_plan write text x.answer (leaves x old) s b at
unfolding behind_plan
tables_left write text x old s b at = go x.answer
  where
    go : (a : Answer) → behind_plan write text a x.tables s b at ≡ behind_plan write text a (leaves (record { answer = a; tables = x.tables }) old) s b at
    go (Taken nodes hubs place number) = refl
    go (Refused l n) = refl

-- t is the part of the text that is read, and `answer` the reading's
module _ (write : Bool) (text s b old : List ℕ) {t : List ℕ} (part : t ≡ handed text) {answer : Answer} (read : answer ≡ (reading t).answer)
    {b' : List ℕ} (w : b' ≡ pass_buffer write b 0 (first_line answer)) where
  runs : pass_by write text s b ≡ going_on (behind_plan write t answer (reading t).tables) (line write (first_line answer) s b 0)
  unfolding pass_by
  runs =
      ap (λ (x : List ℕ). going_on (behind_plan write x (reading x).answer (reading x).tables) (line write (first_line (reading x).answer) s b 0)) (sym part)
      ∙ ap (λ (a : Answer). going_on (behind_plan write t a (reading t).tables) (line write (first_line a) s b 0)) (sym read)

  pub pass_short : None ≡ put_answer b 0 (first_line answer) → Ran (pass_by write text s b) None s b'
  pass_short p = ran_same runs (halted (behind_plan write t answer (reading t).tables) (line write (first_line answer) s b 0) (p, (refl, w)))

  pub pass_on : {P : List ℕ} → P ≡ leaves (reading t) old → {z : ℕ} → Some z ≡ put_answer b 0 (first_line answer)
      → {r : Option ℕ} {s'' b'' : List ℕ} → Ran (behind_plan write t answer P s b' z) r s'' b'' → Ran (pass_by write text s b) r s'' b''
  pass_on {P} left {z} p x =
      let same : behind_plan write t answer (reading t).tables s b' z ≡ behind_plan write t answer P s b' z = rw (read, left) (tables_left write t (reading t) old s b' z) in
      ran_same runs
      (onward (behind_plan write t answer (reading t).tables) (line write (first_line answer) s b 0) (p, (refl, w)) (ran_same same x))
