-- The rows of a reservation by a sum of all loads are its rows, where the sum is that of the table: so one sum serves many offers.
use Prim.Native.Nat.{ℕ, ◌≤◌}
use mathlib.Core.Path.{◌≡◌, refl, sym, ◌∙◌}
use mathlib.Core.List.{List, [], ◌∷◌, ◌++◌}
use native.Mathlib.Omega.{arith}
use borrow.Author.Tests.{eqb-true, eqb-false}
use lib.Dec.{eqb}
use Rattle.std.specs.Prelude.{if◌then◌else◌}
use Rattle.rules.specs.Core.{Share}
use Rattle.rules.specs.Call.{Call, reserve, until}
use Rattle.rules.specs.Rows.{Row, loads, row17}
use Rattle.rules.proofs.Laws.Passes.{Which, which, yes', no'}
use Rattle.cells.specs.Decode.{plan_in, core_of}
use Rattle.cells.specs.Calls.{row_by}
use Rattle.cells.proofs.RowNumbers.{row_number}
use Rattle.rows.proofs.FirstRow.{row_of, first_at_most}
use Rattle.admission.specs.Share.{limit_rows, row17_with, share_row_by, share_row_with}
use Rattle.admission.proofs.ReserveRows.{limits_kept, limits-stop, limits_pass, reserve_stops, reserve_goes_on}
use Rattle.admission.proofs.Shares.{row17_with_lem}

-- a row's number is 17 at most
pub row_small : (P s : List ℕ) (call : Call) → row_by P call s ≤ 17
row_small P s call = go (which (eqb (row_by P call s) 0))
  where
    go : Which (eqb (row_by P call s) 0) → row_by P call s ≤ 17
    go (yes' z) = omega (arith, eqb-true (row_by P call s) 0 z)
    go (no' z) = (row_number P s call z).up

module _ (P : List ℕ) (all k n b : ℕ) (s : List ℕ) where
  abbrev offer : Share
  offer = record { packets = n; bits = b }

  abbrev by-sum : Row
  by-sum = row17_with (plan_in P) (core_of (plan_in P) s) all k offer

  abbrev by-table : Row
  by-table = row17 (plan_in P) (core_of (plan_in P) s) k offer

  pub share_row_small : share_row_with P all k n b s ≤ 17
  unfolding share_row_with
  share_row_small = first_at_most 17 (limit_rows (plan_in P) k n b ++ by-sum ∷ []) (omega arith)

  module _ (e : all ≡ loads (plan_in P) (core_of (plan_in P) s).latest) where
    pub with_sum : share_row_with P all k n b s ≡ share_row_by P k n b s
    unfolding share_row_with share_row_by
    with_sum = go (which (eqb (row_of (limit_rows (plan_in P) k n b)) 0))
      where
        same : row_of (limit_rows (plan_in P) k n b) ≡ 0 → by-sum.applies ≡ by-table.applies
        same z = row17_with_lem (plan_in P) s all k (limits_kept P k n b z).node offer e

        go : Which (eqb (row_of (limit_rows (plan_in P) k n b)) 0)
            → row_of (limit_rows (plan_in P) k n b ++ by-sum ∷ []) ≡ row_of (limit_rows (plan_in P) k n b ++ by-table ∷ [])
        go (yes' z) =
            let passed = eqb-true (row_of (limit_rows (plan_in P) k n b)) 0 z in
            sym (limits_pass P k n b refl by-sum passed by-table.applies (sym (same passed)))
            ∙ limits_pass P k n b refl by-table passed by-table.applies refl
        go (no' z) =
            let stopped = eqb-false (row_of (limit_rows (plan_in P) k n b)) 0 z in
            sym (limits-stop P k n b refl by-sum stopped) ∙ limits-stop P k n b refl by-table stopped

    -- with the row of the time before it, it is the row of the single reserve
    pub as_single : (t : ℕ) {late : ℕ} → late ≡ row_by P (until t) s
        → (if eqb late 0 then share_row_with P all k n b s else late) ≡ row_by P (reserve t k n b) s
    as_single t {late = late} f = go (which (eqb late 0))
      where
        go : Which (eqb late 0) → (if eqb late 0 then share_row_with P all k n b s else late) ≡ row_by P (reserve t k n b) s
        go (yes' z) = rw z (reserve_goes_on P s t k n b f (eqb-true late 0 z) with_sum)
        go (no' z) = rw z (reserve_stops P s t k n b f (eqb-false late 0 z))
