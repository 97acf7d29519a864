-- Behind an extended list, calls of the hub that were made as one list make an extended list again.
use Prim.Native.Nat.{ℕ}
use mathlib.Core.Path.{◌≡◌, refl, sym, ap, ◌∙◌, subst}
use mathlib.Core.List.{List, [], ◌∷◌, ◌++◌, map, append-nil}
use Rattle.rules.specs.Call.{step}
use Rattle.rules.specs.Run.{Entry}
use Rattle.cells.specs.Fresh.{fresh_cells}
use Rattle.cells.specs.Calls.{perform_by, event_answer, step_answer}
use Rattle.cells.specs.Run.{made_by}
use Rattle.demands.specs.Demands as hub
use Rattle.demands.specs.Demands.{Calls}
use Rattle.demands.proofs.Sequence.{sequence}
use Rattle.beside.specs.Beside.{Beside, Lawful, entry, Item, of_hub, projected}
use Rattle.beside.specs.Extended.{Extended, before, after, Did, event, stepping}
use Rattle.beside.specs.Continued.{cells_after, watched}
use Rattle.beside.proofs.Projection.{projects}

module _ (P : List ℕ) where
  -- calls and answers tell the cells that are left
  same-cells : {past : List Entry} {s z : List ℕ} → Calls P past s → Calls P past z → z ≡ s
  same-cells m n = (sequence P n).cells_are ∙ sym (sequence P m).cells_are

  left_by_lem : {e : Entry} {past : List Entry} {s z : List ℕ} → Calls P (e ∷ past) z → Calls P past s → z ≡ (perform_by P e.call s).cells
  unfolding made_by
  left_by_lem {e = e} m n = (sequence P m).cells_are ∙ ap (λ (s : List ℕ). (perform_by P e.call s).cells) (sym (sequence P n).cells_are)

module _ (B : Beside) (P : List ℕ) where
  -- the latest call of a list, watched from beside the hub
  record Latest (e : Entry) (past : List Entry) (z : List ℕ) : Type 0 where
    cells : List ℕ
    calls : Calls P past cells
    did : (b : B.State) → Did B P cells b (of_hub e) z (B.watch P cells e b)

  latest : {e : Entry} {past : List Entry} {z : List ℕ} → Calls P (e ∷ past) z → Latest e past z
  latest (hub.event {s = s} more call ev r z p) =
      record { cells = s; calls = more; did = λ b. event call ev r z (B.watch P s (entry call (event_answer r)) b) p refl }
  latest (hub.stepping {s = s} more t r z p) =
      record { cells = s; calls = more; did = λ b. stepping t r z (B.watch P s (entry (step t) (step_answer r)) b) p refl }

  cells_after_lem : {past : List Entry} {s : List ℕ} → Calls P past s → (more : List Entry) {z : List ℕ} → Calls P (more ++ past) z → z ≡ cells_after P s more
  unfolding cells_after
  cells_after_lem before_these [] made = same-cells P before_these made
  cells_after_lem before_these (e ∷ more) made =
      let l = latest made in
      left_by_lem P made l.calls ∙ ap (λ (r : List ℕ). (perform_by P e.call r).cells) (cells_after_lem before_these more l.calls)

  pub continued : Lawful B → {xs : List (Item B)} {b : B.State} {s : List ℕ} → Extended B P xs b s
      → (more : List Entry) (z : List ℕ) → Calls P (more ++ projected B xs) z → Extended B P (map of_hub more ++ xs) (watched P s B b more) z
  unfolding watched
  continued law {xs = xs} {b = b} made [] z calls = subst (Extended B P xs b) (sym (same-cells P (projects B law P made) calls)) made
  continued law {b = b} {s = s} made (e ∷ more) z calls =
      let l = latest calls in
      let c = watched P s B b more in
      after (continued law made more l.cells l.calls)
      (subst (λ (r : List ℕ). Did B P l.cells c (of_hub e) z (B.watch P r e c)) (cells_after_lem (projects B law P made) more l.calls) (l.did c))

  -- so calls of the hub alone are an extended list, and its projection is they themselves
  pub hub_alone : Lawful B → (past : List Entry) (s : List ℕ) → Calls P past s
      → Extended B P (map of_hub past) (watched P fresh_cells B B.start past) s
  unfolding projected
  hub_alone law past s made =
      rw append-nil at (continued law before past s (rw append-nil made))

pub hub_projected : (B : Beside) (more : List Entry) (xs : List (Item B)) → projected B (map of_hub more ++ xs) ≡ more ++ projected B xs
unfolding projected
hub_projected B [] xs = refl
hub_projected B (e ∷ more) xs = ap (◌∷◌ e) (hub_projected B more xs)
