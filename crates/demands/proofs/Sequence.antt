-- A list of calls as the contracts allow it is the run over the cells.
use Prim.Native.Nat.{ℕ}
use mathlib.Core.Path.{◌≡◌, refl, sym, ap, ap₂, ◌∙◌}
use mathlib.Core.Bool.{true}
use mathlib.Core.List.{List, ◌∷◌}
use Rattle.rules.specs.Call.{Call, ask, off, reserve, until, step, Answer}
use Rattle.rules.specs.Run.{Entry}
use Rattle.rules.proofs.Laws.Passes.{true-false}
use Rattle.cells.specs.Calls.{is_event, event_answer, step_answer, event_left, perform_by}
use Rattle.cells.specs.Run.{made_by}
use Rattle.demands.specs.Demands.{Calls, before, event, stepping, calls_of}

pub record Made (P : List ℕ) (past : List Entry) (s : List ℕ) : Type 0 where
  pub past_is : past ≡ (made_by P (calls_of past)).past
  pub cells_are : s ≡ (made_by P (calls_of past)).cells

-- an event's promise is what `perform_by` says
performs : (P : List ℕ) (call : Call) (s : List ℕ) → is_event call ≡ true → perform_by P call s ≡ event_left P call s
unfolding perform_by
performs P (ask c t k b) s e = refl
performs P (off t k) s e = refl
performs P (reserve t k n b) s e = refl
performs P (until t) s e = refl
performs P (step t) s e = absurd (true-false e refl)

-- one more call, whatever it is
one_more : (P : List ℕ) (call : Call) (past : List Entry) (s : List ℕ) (a : Answer) (z : List ℕ) → Made P past s → a ≡ (perform_by P call s).answer
    → z ≡ (perform_by P call s).cells → Made P (record { call = call; answer = a } ∷ past) z
unfolding made_by
one_more P call past s a z m e f =
    record {
      past_is =
          ap₂ (λ (x : Answer) (more : List Entry). record { call = call; answer = x } ∷ more)
          (e ∙ ap (λ (r : List ℕ). (perform_by P call r).answer) m.cells_are) m.past_is;
      cells_are = f ∙ ap (λ (r : List ℕ). (perform_by P call r).cells) m.cells_are;
    }

pub sequence : (P : List ℕ) {past : List Entry} {s : List ℕ} → Calls P past s → Made P past s
unfolding made_by perform_by event_left
sequence P before = record { past_is = refl; cells_are = refl }
sequence P (event {past = past} {s = s} more call ev r z q) =
    let same = performs P call s ev in
    one_more P call past s (event_answer r) z (sequence P more)
    (ap event_answer q.0 ∙ sym (ap (λ x. x.answer) same)) (q.1 ∙ sym (ap (λ x. x.cells) same))
sequence P (stepping {past = past} {s = s} more t r z q) =
    one_more P (step t) past s (step_answer r) z (sequence P more) (ap step_answer q.0) q.1
