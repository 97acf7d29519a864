-- One call of a table by its kind: which call it is, and what it leaves.
use Prim.Native.Nat.{ℕ, ◌+◌, ◌*◌, ◌≤◌}
use mathlib.Core.Path.{◌≡◌, refl, sym, ap, ◌∙◌}
use mathlib.Core.Bool.{true}
use mathlib.Core.List.{List}
use native.Mathlib.Omega.{arith}
use borrow.Author.Tests.{leb-true}
use lib.Dec.{leb}
use lib.ListN.{get_or}
use Rattle.rules.specs.Call.{Call, step}
use Rattle.rules.proofs.Laws.Passes.{and_both}
use Rattle.event.specs.Call.{call_of}
use Rattle.event.specs.declared.Event.{Event}
use Rattle.event.specs.declared.Event.TheVariants.{Normal, High, Off, Reserve, Until}
use Rattle.cells.specs.Calls.{EventPromise, row_by, Performed, event_left, perform_by}
use Rattle.call_list.specs.Table.{call_at, is_kind, number_seven, told_of}
use Rattle.call_list.proofs.Numbers.{event_seven}

-- a kind that is no step's is an event's
pub event_kind : (kind : ℕ) → is_kind kind ≡ true → (kind ≡ 6 → ⊥) → (1 ≤ kind) × (kind ≤ 5)
event_kind kind e d =
    let w = and_both (leb 1 kind) (leb kind 6) e in
    omega (arith, leb-true 1 kind w.0, leb-true kind 6 w.1, d)

-- an event's promise is what `perform_by` says
performs : (P : List ℕ) (e : Event) (s : List ℕ) → perform_by P (call_of e) s ≡ event_left P (call_of e) s
unfolding perform_by
performs P (Normal t k b) s = refl
performs P (High t k b) s = refl
performs P (Off t k) s = refl
performs P (Reserve t k n b) s = refl
performs P (Until t) s = refl

module _ (P cs s : List ℕ) (i : ℕ) where
  pub call_step : get_or cs (i * 5) 0 ≡ 6 → call_at cs i ≡ step (get_or cs (i * 5 + 1) 0)
  unfolding call_at
  call_step e = rw e

  -- an event's number and cells are what `perform_by` says
  pub event_made : (e : Event) → call_of e ≡ call_at cs i → (r : ℕ) (z : List ℕ) → EventPromise P (call_of e) s r z
      → (told_of (perform_by P (call_at cs i) s) ≡ number_seven r) × (z ≡ (perform_by P (call_at cs i) s).cells)
  unfolding event_left
  event_made e c r z q =
      let same = ap (λ (x : Call). perform_by P x s) (sym c) ∙ performs P e s in (
        ap told_of same ∙ event_seven (row_by P (call_of e) s) ∙ ap number_seven (sym q.0),
        q.1 ∙ sym (ap (λ (x : Performed). x.cells) same),
      )
