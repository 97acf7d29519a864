-- A list of the six calls and of calls beside the hub, each given what the last one left.
use Rattle.std.specs.Prelude.{ℕ, ◌≡◌, true, List, [], ◌∷◌}
use Rattle.rules.specs.Call.{Call, until, step, taken}
use Rattle.cells.specs.Step.{Step}
use Rattle.cells.specs.Fresh.{fresh_cells}
use Rattle.cells.specs.Calls.{is_event, EventPromise, StepPromise, event_answer, step_answer, event_by}
use Rattle.beside.specs.Beside.{Reply, refusal, told, Effect, stays, comes_to, Beside, entry, Item, of_hub, aside, effect_of}

-- the hub's cells after a call beside it
abbrev pub cells_left : List ℕ → Effect → List ℕ → List ℕ
cells_left P stays s = s
cells_left P (comes_to t) s = event_by P (until t) s

module _ (B : Beside) (P : List ℕ) where
  -- a moved clock is watched as the `until` that the hub saw
  abbrev pub watching : Effect → List ℕ → B.State → B.State
  watching stays s b = b
  watching (comes_to t) s b = B.watch P s (entry (until t) taken) b

  -- What stands beside the hub after a call beside it. The clock moves first and then the call makes its change, as in an event of the hub.
  abbrev pub state_left : (q : B.Ask) → Reply (B.Told q) → List ℕ → B.State → B.State
  state_left q (refusal n) s b = b
  state_left q (told a) s b = B.next P s q (watching (B.effect q a) s b)

  -- What a call beside the hub promises for every content: s and b are the hub's cells and what stands beside it at entry, r is the answer,
  -- z and c are both at exit.
  abbrev pub AsidePromise : (q : B.Ask) → List ℕ → B.State → Reply (B.Told q) → List ℕ → B.State → Type 0
  AsidePromise q s b r z c = (r ≡ B.reply P s q b) × (z ≡ cells_left P (effect_of B q r) s) × (c ≡ state_left q r s b)

  -- what one call did, by its promise: one of the five events or a step, watched from beside the hub, or a call beside it
  pub data Did (s : List ℕ) (b : B.State) : Item B → List ℕ → B.State → Type 0 where
    event : (call : Call) → is_event call ≡ true → (r : ℕ) (z : List ℕ) (c : B.State) → EventPromise P call s r z
        → c ≡ B.watch P s (entry call (event_answer r)) b → Did s b (of_hub (entry call (event_answer r))) z c
    stepping : (t : ℕ) (r : Step) (z : List ℕ) (c : B.State) → StepPromise P t s r z
        → c ≡ B.watch P s (entry (step t) (step_answer r)) b → Did s b (of_hub (entry (step t) (step_answer r))) z c
    besides : (q : B.Ask) (r : Reply (B.Told q)) (z : List ℕ) (c : B.State) → AsidePromise q s b r z c → Did s b (aside q r) z c

  -- An extended list, the latest call first, with what it left beside the hub and the hub's cells. Refused calls stand in it too.
  pub data Extended : List (Item B) → B.State → List ℕ → Type 0 where
    before : Extended [] B.start fresh_cells
    after : {xs : List (Item B)} {b c : B.State} {s z : List ℕ} {x : Item B} → Extended xs b s → Did s b x z c → Extended (x ∷ xs) c z
