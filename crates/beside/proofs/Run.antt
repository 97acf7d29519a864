-- What is made by computing is an extended list.
use Prim.Native.Nat.{ℕ}
use mathlib.Core.Path.{◌≡◌, refl, subst}
use mathlib.Core.Bool.{true}
use mathlib.Core.List.{List, [], ◌∷◌}
use Rattle.rules.specs.Call.{Call, ask, off, reserve, until, step}
use Rattle.cells.specs.Calls.{is_event, event_answer, step_answer, row_by, event_by, step_by, event_left, perform_by}
use Rattle.beside.specs.Beside.{Beside, entry, Item, of_hub, aside, effect_of}
use Rattle.beside.specs.Extended.{cells_left, state_left, Extended, before, after, Did, event, stepping, besides}
use Rattle.beside.specs.Run.{ran}

module _ (B : Beside) (P : List ℕ) where
  did_event : (s : List ℕ) (b : B.State) (call : Call) → is_event call ≡ true
      → Did B P s b (of_hub (entry call (event_answer (row_by P call s)))) (event_by P call s) (B.watch P s (entry call (event_answer (row_by P call s))) b)
  did_event s b call ev =
      event call ev (row_by P call s) (event_by P call s) (B.watch P s (entry call (event_answer (row_by P call s))) b) (refl, refl) refl

  -- one of the six calls, whatever it is
  pub did_hub : (s : List ℕ) (b : B.State) (call : Call)
      → Did B P s b (of_hub (entry call (perform_by P call s).answer)) (perform_by P call s).cells (B.watch P s (entry call (perform_by P call s).answer) b)
  unfolding perform_by event_left
  did_hub s b (ask c t k x) = did_event s b (ask c t k x) refl
  did_hub s b (off t k) = did_event s b (off t k) refl
  did_hub s b (reserve t k n x) = did_event s b (reserve t k n x) refl
  did_hub s b (until t) = did_event s b (until t) refl
  did_hub s b (step t) =
      stepping t (step_by P t s).answer (step_by P t s).cells (B.watch P s (entry (step t) (step_answer (step_by P t s).answer)) b) (refl, refl) refl

  did_aside : (s : List ℕ) (b : B.State) (q : B.Ask)
      → Did B P s b (aside q (B.reply P s q b)) (cells_left P (effect_of B q (B.reply P s q b)) s) (state_left B P q (B.reply P s q b) s b)
  did_aside s b q =
      let r = B.reply P s q b in
      besides q r (cells_left P (effect_of B q r) s) (state_left B P q r s b) (refl, refl, refl)

  run_extended : (xs : List (Item B)) → Extended B P (ran B P xs).items (ran B P xs).state (ran B P xs).cells
  unfolding ran
  run_extended [] = before
  run_extended (of_hub e ∷ xs) = after (run_extended xs) (did_hub (ran B P xs).cells (ran B P xs).state e.call)
  run_extended (aside q r ∷ xs) = after (run_extended xs) (did_aside (ran B P xs).cells (ran B P xs).state q)

  -- where the answers are those that stand in the list, the list itself is one
  pub extended_by : (xs : List (Item B)) → (ran B P xs).items ≡ xs → Extended B P xs (ran B P xs).state (ran B P xs).cells
  extended_by xs e = subst (λ (ys : List (Item B)). Extended B P ys (ran B P xs).state (ran B P xs).cells) e (run_extended xs)
