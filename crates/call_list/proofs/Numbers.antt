-- The answers of the six calls and their seven numbers: each answer is told by its numbers.
use Rattle.std.specs.Prelude.{Option, Some, None}
use Prim.Native.Nat.{ℕ, ◌≤◌}
use mathlib.Core.Path.{◌≡◌, refl, sym, ap}
use mathlib.Core.Bool.{Bool, true, false}
use mathlib.Core.List.{List}
use native.Mathlib.Omega.{arith}
use borrow.Author.Tests.{ne_eqb, eqb-true}
use lib.Dec.{eqb, ltb}
use Rattle.rules.specs.Call.{Call, ask, off, reserve, until, step, Answer, refused}
use Rattle.rules.proofs.Laws.Passes.{Which, which, yes', no'}
use Rattle.cells.specs.Sought.{Sought}
use Rattle.cells.specs.Sought as seek
use Rattle.cells.specs.Step.{class_number, Step}
use Rattle.cells.specs.Decode.{plan_in}
use Rattle.cells.specs.Frames.{advance_by}
use Rattle.cells.specs.Instants.{due_by, sought_by}
use Rattle.cells.specs.Calls.{row_by, class_numbered, grant_by, rest_by, handled_by, step_due, step_by, event_answer, step_answer, step_wait, event_left, perform_by}
use Rattle.cells.proofs.RowNumbers.{row_number}
use Rattle.call_list.specs.Table.{class_code, seven_of, step_seven, number_seven, told_of, answer_of}

-- ---- an answer is told by its numbers

abbrev Told : Answer → Type 0
Told a = (wait : ℕ) → answer_of (seven_of a wait) ≡ a

-- 0 to 3 say other things
told_refused : (n : ℕ) → 11 ≤ n → Told (refused n)
unfolding seven_of answer_of
told_refused n l wait =
    rw (ne_eqb n 0 (λ e. omega arith), ne_eqb n 1 (λ e. omega arith), ne_eqb n 2 (λ e. omega arith), ne_eqb n 3 (λ e. omega arith))

module _ (P : List ℕ) (s : List ℕ) where
  event_told : (call : Call) → Told (event_answer (row_by P call s))
  unfolding seven_of answer_of
  event_told call = go (which (eqb (row_by P call s) 0))
    where
      go : Which (eqb (row_by P call s) 0) → Told (event_answer (row_by P call s))
      go (yes' e) = rw e (λ wait. refl)
      go (no' e) = rw e (told_refused (row_by P call s) (row_number P s call e).low)

  handled_told : (d : ℕ) (x : Sought) (r : List ℕ) → Told (step_answer (handled_by P d x r).answer)
  unfolding handled_by grant_by rest_by step_answer seven_of answer_of
  handled_told d (seek.Class false) r wait = refl
  handled_told d (seek.Class true) r wait = refl
  handled_told d seek.Nothing r wait = refl

  due_told : (x : Option ℕ) (t : ℕ) → Told (step_answer (step_due P x t s).answer)
  unfolding step_due step_answer seven_of answer_of
  due_told None t = λ wait. refl
  due_told (Some d) t = go (which (ltb d t))
    where
      go : Which (ltb d t) → Told (step_answer (step_due P (Some d) t s).answer)
      go (yes' l) = rw l (handled_told d (sought_by (advance_by P d s)) (advance_by P d s))
      go (no' l) = rw l (λ wait. refl)

  step_told : (t : ℕ) → Told (step_answer (step_by P t s).answer)
  unfolding step_by step_answer
  step_told t = go (which (eqb (row_by P (step t) s) 0))
    where
      go : Which (eqb (row_by P (step t) s) 0) → Told (step_answer (step_by P t s).answer)
      go (yes' e) = rw e (due_told (due_by (plan_in P) s) t)
      go (no' e) = rw e (told_refused (row_by P (step t) s) (row_number P s (step t) e).low)

  pub told : (call : Call) → answer_of (told_of (perform_by P call s)) ≡ (perform_by P call s).answer
  unfolding perform_by event_left
  told (ask c t k b) = event_told (ask c t k b) 0
  told (off t k) = event_told (off t k) 0
  told (reserve t k n b) = event_told (reserve t k n b) 0
  told (until t) = event_told (until t) 0
  told (step t) = step_told t (step_wait (step_by P t s).answer)

-- ---- the numbers that the code stores

-- an event's number is its answer's first, taken or refused
pub event_seven : (n : ℕ) → seven_of (event_answer n) 0 ≡ number_seven n
unfolding seven_of
event_seven n = go (which (eqb n 0))
  where
    go : Which (eqb n 0) → seven_of (event_answer n) 0 ≡ number_seven n
    go (yes' e) = rw (eqb-true n 0 e)
    go (no' e) = rw e

-- a class is told by its number, 1 or 2
pub class_told : (is_high : Bool) → class_number is_high ≡ class_code (class_numbered (class_number is_high))
class_told false = refl
class_told true = refl

pub step_seven_lem : (P : List ℕ) (t : ℕ) (s : List ℕ) {x : Step} → x ≡ (step_by P t s).answer → told_of (perform_by P (step t) s) ≡ step_seven x
unfolding perform_by
step_seven_lem P t s e = ap step_seven (sym e)
