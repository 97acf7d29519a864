-- Each grant's wait in the answers' table is told by the calls and answers before it, since it was so when its call was
-- made and what is put behind it changes none of them.
use Prim.Native.Nat.{ℕ, zero, suc, ◌+◌, ◌*◌, ◌≤◌, ◌<◌}
use mathlib.Core.Path.{◌≡◌, refl, sym, ap, subst, subst₂, ◌∙◌}
use mathlib.Core.List.{List, ◌++◌}
use native.Mathlib.Omega.{arith}
use native.Mathlib.Nat.{eq-or-lt_of_le}
use mathlib.Core.Logic.{⊎_elim}
use borrow.Author.Tests.{ne_eqb}
use lib.ListN.{length}
use Rattle.rules.specs.Plan.{Plan}
use Rattle.rules.specs.Call.{Class, normal, high, Call, ask, off, reserve, until, step, refused, grant}
use Rattle.rules.specs.Run.{Entry}
use Rattle.rules.specs.Waits.{WaitTold}
use Rattle.rules.proofs.Laws.Clash.{clash}
use Rattle.cells.specs.Step.{Step, Grant, Rest, Quiet, Refused}
use Rattle.cells.specs.Calls.{row_by, class_numbered, step_by, event_answer, step_answer, step_wait, Performed, event_left, perform_by}
use Rattle.cells.proofs.RowNumbers.{row_number}
use Rattle.demands.specs.Demands.{Calls, Demands}
use Rattle.call_list.specs.Table.{call_at, Seven, class_code, seven_of, told_of, answer_of, seven_at, put_seven, list_from, entries}
use Rattle.call_list.specs.Promise.{WaitIn}
use Rattle.call_list.proofs.Numbers.{told, event_seven}
use Rattle.call_list.proofs.Tables.{length-put, at_other, at_same}
use Rattle.call_list.proofs.Listing.{one_more, entries_other, entries-more}

-- ---- one call

class_again : (c : Class) → class_numbered (class_code c) ≡ c
class_again normal = refl
class_again high = refl

module _ (P : List ℕ) (p : Plan) (before : List Entry) (s : List ℕ) (D : Demands P p before s) where
  -- an event's number is 0 or that of a row
  event_waits : (call : Call) → WaitIn p (seven_of (event_answer (row_by P call s)) 0) before
  event_waits call n =
      let r = sym (ap (λ (x : Seven). x.number) (event_seven (row_by P call s))) ∙ n in
      absurd (omega (arith, (row_number P s call (ne_eqb (row_by P call s) 0 (λ z. omega arith))).low))

  step_waits : (t : ℕ) → WaitIn p (seven_of (step_answer (step_by P t s).answer) (step_wait (step_by P t s).answer)) before
  unfolding perform_by seven_of step_answer step_wait answer_of
  step_waits t = go (step_by P t s).answer refl (told P s (step t))
    where
      go : (x : Step) → (step_by P t s).answer ≡ x → answer_of (seven_of (step_answer x) (step_wait x)) ≡ step_answer x
          → WaitIn p (seven_of (step_answer x) (step_wait x)) before
      go (Grant d k class end moves wait) e a n =
          subst (λ (c : Class). WaitTold p k c d wait before) (sym (class_again (class_numbered class))) (D.wait_told t d k class end moves wait e)
      go (Rest d moves) e a n = absurd (omega arith)
      go Quiet e a n = absurd (omega arith)
      go (Refused m) e a n =
          let one : grant 0 0 normal 0 0 ≡ refused 1 = rw n at a in
          clash (cc)

  call_waits : (call : Call) → WaitIn p (told_of (perform_by P call s)) before
  unfolding perform_by event_left
  call_waits (ask c t k b) = event_waits (ask c t k b)
  call_waits (off t k) = event_waits (off t k)
  call_waits (reserve t k n b) = event_waits (reserve t k n b)
  call_waits (until t) = event_waits (until t)
  call_waits (step t) = step_waits t

-- ---- the calls of a table

module _ (P cs : List ℕ) where
  -- calls from i on change neither an earlier answer nor the entries of the earlier calls
  answer_stays : (i n : ℕ) (s ans : List ℕ) (j : ℕ) → j < i → seven_at (list_from P cs i n s ans).answers j ≡ seven_at ans j
  unfolding list_from
  answer_stays i zero s ans j l = refl
  answer_stays i (suc n) s ans j l =
      let o = perform_by P (call_at cs i) s in
      answer_stays (i + 1) n o.cells (put_seven i (told_of o) ans) j (omega arith) ∙ at_other i j (told_of o) ans l

  entries_stay : (i n : ℕ) (s ans : List ℕ) (m : ℕ) → m ≤ i → entries cs (list_from P cs i n s ans).answers m ≡ entries cs ans m
  unfolding list_from
  entries_stay i zero s ans m l = refl
  entries_stay i (suc n) s ans m l =
      let o = perform_by P (call_at cs i) s in
      entries_stay (i + 1) n o.cells (put_seven i (told_of o) ans) m (omega arith) ∙ entries_other cs ans (told_of o) i m l

  module _ (p : Plan) (past : List Entry) (meets : (before : List Entry) (s : List ℕ) → Calls P before s → Demands P p before s) where
    pub list_waits : (i n : ℕ) (s ans : List ℕ) → (i + n) * 7 ≤ length ans → Calls P (entries cs ans i ++ past) s → (j : ℕ) → i ≤ j → j < i + n
        → WaitIn p (seven_at (list_from P cs i n s ans).answers j) (entries cs (list_from P cs i n s ans).answers j ++ past)
    unfolding list_from
    list_waits i zero s ans l made j low up = absurd (omega arith)
    list_waits i (suc n) s ans l made j low up =
        ⊎_elim here
        (λ (later : i < j). list_waits (i + 1) n o.cells put (rw (length-put i (told_of o) ans) (omega arith))
        (rw (entries-more P cs s ans i (omega arith)) (one_more P made (call_at cs i))) j (omega arith) (omega arith))
        (eq-or-lt_of_le low)
      where
        o : Performed
        o = perform_by P (call_at cs i) s

        put : List ℕ
        put = put_seven i (told_of o) ans

        final : List ℕ
        final = (list_from P cs (i + 1) n o.cells put).answers

        here : i ≡ j → WaitIn p (seven_at final j) (entries cs final j ++ past)
        here e =
            subst (λ (m : ℕ). WaitIn p (seven_at final m) (entries cs final m ++ past)) e
            (subst₂ (λ (x : Seven) (es : List Entry). WaitIn p x (es ++ past))
            (sym (answer_stays (i + 1) n o.cells put i (omega arith) ∙ at_same i (told_of o) ans (omega arith)))
            (sym (entries_stay (i + 1) n o.cells put i (omega arith) ∙ entries_other cs ans (told_of o) i i (omega arith)))
            (call_waits P p (entries cs ans i ++ past) s (meets (entries cs ans i ++ past) s made) (call_at cs i)))
