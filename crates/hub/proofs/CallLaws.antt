-- What a call leaves, by the row that refuses it, and what a step does by the due instant.
use Rattle.std.specs.Prelude.{Option, Some, None}
use Prim.Native.Nat.{ℕ}
use mathlib.Core.Path.{◌≡◌, refl, sym, ◌∙◌}
use mathlib.Core.Bool.{Bool, true, false, ◌||◌}
use mathlib.Core.List.{List}
use lib.Dec.{ltb}
use borrow.Author.Tests.{eq-eqb, ne_eqb}
use Rattle.rules.specs.Call.{Call, time}
use Rattle.rules.specs.Core.{before}
use Rattle.rules.specs.Rows.{last_time}
use denote.Enum.Bare.{sameb}
use Rattle.cells.specs.contracts.Class.{the_type}
use Rattle.cells.specs.declared.Class.{Class}
use Rattle.cells.specs.declared.Class.TheVariants.{Normal, High}
use Rattle.cells.specs.Sought.{is_high}
use Rattle.cells.specs.Step.{Quiet, Refused}
use Rattle.cells.specs.Layout.{time_at, clock_cell}
use Rattle.cells.specs.Decode.{plan_in, core_of}
use Rattle.cells.specs.Frames.{advance_by}
use Rattle.cells.specs.Instants.{due_by, due_in}
use Rattle.cells.specs.Calls.{rows_by, row_by, change_by, event_by, step_due, step_by}

-- the comparison of a class with the high one
pub high_same : (c : Class) → sameb the_type c High ≡ is_high c
high_same Normal = refl
high_same High = refl

-- r is the row that refuses the call, or 0
module _ (P s : List ℕ) (call : Call) {r : ℕ} (e : r ≡ row_by P call s) where
  -- a refused event leaves the cells alone
  pub event_refused : (r ≡ 0 → ⊥) → (r ≡ row_by P call s) × (s ≡ event_by P call s)
  unfolding event_by
  event_refused h = (e, rw (ne_eqb (row_by P call s) 0 (λ z. h (e ∙ z))))

  pub event_taken : r ≡ 0 → {x : List ℕ} → x ≡ change_by P call (advance_by P (time call) s) → (0 ≡ row_by P call s) × (x ≡ event_by P call s)
  unfolding event_by
  event_taken z w = (sym z ∙ e, rw (eq-eqb (row_by P call s) 0 (sym e ∙ z)) w)

-- a step, by row 11
module _ (P s : List ℕ) (t : ℕ) {late : Bool} (e : late ≡ (ltb last_time t || ltb t (time_at s clock_cell))) where
  pub step_refused : late ≡ true → step_by P t s ≡ record { answer = Refused 11; cells = s }
  unfolding step_by row_by rows_by core_of
  step_refused h = rw (sym e ∙ h)

  pub step_allowed : late ≡ false → step_by P t s ≡ step_due P (due_by (plan_in P) s) t s
  unfolding step_by row_by rows_by core_of
  step_allowed h = rw (sym e ∙ h)

-- nothing is due before the bound
pub step_quiet : (P s : List ℕ) (t : ℕ) (d : Option ℕ) → before (due_in d) t ≡ false → step_due P d t s ≡ record { answer = Quiet; cells = s }
unfolding step_due
step_quiet P s t (Some d) h = rw h
step_quiet P s t None h = refl
