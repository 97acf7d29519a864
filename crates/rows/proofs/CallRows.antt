-- Laws of the rows: those of one call stand before those of a longer one, and what a call keeps that no row refuses.
use Prim.Native.Nat.{ℕ, ◌≤◌, ◌<◌}
use mathlib.Core.Path.{◌≡◌, refl, sym, ◌∙◌}
use mathlib.Core.Bool.{Bool, false, ◌||◌}
use mathlib.Core.List.{List, [], ◌∷◌, ◌++◌}
use native.Mathlib.Omega.{arith}
use lib.Dec.{ltb}
use Rattle.rules.specs.Drawn.{Within}
use Rattle.rules.specs.Call.{Class, Call, ask, off, until}
use Rattle.rules.specs.Rows.{Row, last_time, row13, row15, row16}
use Rattle.rules.proofs.Laws.Lengths.{longest-up}
use Rattle.rules.proofs.Core.CallCases.{Clear, clear}
use Rattle.rules.proofs.Core.RowsPassed.{passed11, passed13, passed15}
use Rattle.cells.specs.Layout.{half, time_at, clock_cell}
use Rattle.cells.specs.Decode.{plan_in, core_of}
use Rattle.cells.specs.Calls.{rows_by, row_by}
use Rattle.cells.proofs.RowNumbers.{no_row}
use Rattle.rows.proofs.FirstRow.{row_of, stops, goes_on}

-- r is the row that refuses the call, or 0
module _ (P s : List ℕ) (call : Call) {r : ℕ} (e : r ≡ row_by P call s) where
  pub call_passed : r ≡ 0 → Clear (rows_by (plan_in P) s call)
  call_passed z = clear (rows_by (plan_in P) s call) (no_row P s call (sym e ∙ z))

  -- a call whose rows are those of this one and more: a row of this one applies, or none
  module _ (longer : Call) (more : List Row) (same : rows_by (plan_in P) s longer ≡ rows_by (plan_in P) s call ++ more) where
    pub longer_stops : (r ≡ 0 → ⊥) → r ≡ row_by P longer s
    unfolding row_by
    longer_stops h = e ∙ rw same (stops (rows_by (plan_in P) s call) more (λ z. h (e ∙ z)))

    pub longer_goes_on : r ≡ 0 → {n : ℕ} → n ≡ row_of more → n ≡ row_by P longer s
    unfolding row_by
    longer_goes_on z q = q ∙ rw same (goes_on (rows_by (plan_in P) s call) more (call_passed z))

-- an off has the rows of an until and 13, and a request has those of an off and its own
module _ (P s : List ℕ) (t k : ℕ) where
  module _ {r : ℕ} (e : r ≡ row_by P (until t) s) where
    pub off_stops : (r ≡ 0 → ⊥) → r ≡ row_by P (off t k) s
    unfolding rows_by
    off_stops = longer_stops P s (until t) e (off t k) (row13 (plan_in P) k ∷ []) refl

    pub off_goes_on : r ≡ 0 → {n : ℕ} → n ≡ row_of (row13 (plan_in P) k ∷ []) → n ≡ row_by P (off t k) s
    unfolding rows_by
    off_goes_on = longer_goes_on P s (until t) e (off t k) (row13 (plan_in P) k ∷ []) refl

  module _ (c : Class) (b : ℕ) {r : ℕ} (e : r ≡ row_by P (off t k) s) where
    abbrev pub ask_more : List Row
    ask_more = row15 (plan_in P) b ∷ row16 (plan_in P) (core_of (plan_in P) s) c t k b ∷ []

    pub ask_stops : (r ≡ 0 → ⊥) → r ≡ row_by P (ask c t k b) s
    unfolding rows_by
    ask_stops = longer_stops P s (off t k) e (ask c t k b) ask_more refl

    pub ask_goes_on : r ≡ 0 → {n : ℕ} → n ≡ row_of ask_more → n ≡ row_by P (ask c t k b) s
    unfolding rows_by
    ask_goes_on = longer_goes_on P s (off t k) e (ask c t k b) ask_more refl

-- what row 11 asks
pub in_time_lem : (s : List ℕ) (t : ℕ) {late : Bool} → late ≡ (ltb last_time t || ltb t (time_at s clock_cell)) → late ≡ false
    → (time_at s clock_cell ≤ t) × (t ≤ last_time)
unfolding core_of
in_time_lem s t e f = let i = (passed11 (core_of (plan_in []) s) t).0 (sym e ∙ f) in (i.late, i.soon)

-- what the other rows ask of an event: its node is one of the plan, and a packet's length fits a half of a cell
module _ (P s : List ℕ) where
  pub off_node : (t k : ℕ) {r : ℕ} → r ≡ row_by P (off t k) s → r ≡ 0 → Within (plan_in P).nodes k
  unfolding rows_by
  off_node t k e z = (passed13 (plan_in P) k).0 (call_passed P s (off t k) e z).1.1.0

  pub record Asked (k b : ℕ) : Type 0 where
    pub node : Within (plan_in P).nodes k
    pub bits : b < half

  pub ask_asked : (c : Class) (t k b : ℕ) {r : ℕ} → r ≡ row_by P (ask c t k b) s → r ≡ 0 → Asked k b
  unfolding rows_by
  ask_asked c t k b e z =
      let h = call_passed P s (ask c t k b) e z in
      let range = (passed15 (plan_in P) b).0 h.1.1.1.0 in
      record { node = (passed13 (plan_in P) k).0 h.1.1.0; bits = omega (arith, longest-up (plan_in P).framing) }
