-- A reserve has the rows of an until and those of its reservation, and what it keeps if none of them refuses it.
use Prim.Native.Nat.{ℕ, ◌≤◌, ◌<◌}
use mathlib.Core.Path.{◌≡◌, refl, sym, ◌∙◌}
use mathlib.Core.Bool.{Bool, true, false}
use mathlib.Core.List.{List, [], ◌∷◌, ◌++◌}
use native.Mathlib.Omega.{arith}
use Rattle.std.specs.Prelude.{if◌then◌else◌}
use Rattle.rules.specs.Plan.{Plan}
use Rattle.rules.specs.Drawn.{Within}
use Rattle.rules.specs.Call.{reserve, until}
use Rattle.rules.specs.Rows.{Row, Verdict, accept, refuse, first_row}
use Rattle.rules.specs.Promises.{InRange, given_up, packets}
use Rattle.rules.proofs.Laws.Lengths.{longest-up}
use Rattle.rules.proofs.Core.CallCases.{Clear, clear}
use Rattle.rules.proofs.Core.RefusalNumbers.{CallNumber, first-has}
use Rattle.rules.proofs.Core.RowsPassed.{passed13, passed14, passed15r}
use Rattle.cells.specs.Layout.{half}
use Rattle.cells.specs.Decode.{plan_in}
use Rattle.cells.specs.Calls.{number_of, rows_by, row_by}
use Rattle.rows.proofs.FirstRow.{row_of, stops, goes_on}
use Rattle.rows.proofs.CallRows.{call_passed, longer_stops, longer_goes_on}
use Rattle.admission.specs.Share.{limit_rows, share_rows, share_row_by}

-- row 15 of a reserve
pub in_range_lem : {p : Plan} {n b : ℕ} → InRange p n b → b < half
in_range_lem given_up = omega arith
in_range_lem {p} (packets n b some low up) = omega (arith, longest-up p.framing)

-- its node is one of the plan, and its figures fit a half of a cell each
pub record Reserved (P : List ℕ) (k n b : ℕ) : Type 0 where
  pub node : Within (plan_in P).nodes k
  pub packets : n ≤ 64
  pub bits : b < half

module _ (P : List ℕ) (k n b : ℕ) where
  abbrev limits : List Row
  limits = limit_rows (plan_in P) k n b

  -- where their number is 0 none of the first three rows applies
  limits_clear : row_of limits ≡ 0 → Clear limits
  limits_clear z = clear limits (go (first_row limits) refl z)
    where
      go : (v : Verdict) → first_row limits ≡ v → number_of v ≡ 0 → first_row limits ≡ accept
      go accept e z = e
      go (refuse m) e z = absurd (omega (arith, first-has CallNumber limits (omega arith) m e))

  pub limits_kept : row_of limits ≡ 0 → Reserved P k n b
  limits_kept z =
      let h = limits_clear z in
      record {
        node = (passed13 (plan_in P) k).0 h.0;
        packets = (passed14 n).0 h.1.0;
        bits = in_range_lem ((passed15r (plan_in P) n b).0 h.1.1.0);
      }

  -- a fourth row behind them: one of the three stops, or the fourth decides
  module _ {r : ℕ} (e : r ≡ row_of limits) (last : Row) where
    pub limits-stop : (r ≡ 0 → ⊥) → r ≡ row_of (limits ++ last ∷ [])
    limits-stop h = e ∙ stops limits (last ∷ []) (λ z. h (e ∙ z))

    pub limits_pass : r ≡ 0 → (full : Bool) → full ≡ last.applies → (if full then last.number else 0) ≡ row_of (limits ++ last ∷ [])
    limits_pass z full f = rw f (if_number last.applies) ∙ goes_on limits (last ∷ []) (limits_clear (sym e ∙ z))
      where
        if_number : (full : Bool) → (if full then last.number else 0) ≡ number_of (if full then refuse last.number else accept)
        if_number true = refl
        if_number false = refl

module _ (P s : List ℕ) (t k n b : ℕ) where
  module _ {r : ℕ} (e : r ≡ row_by P (until t) s) where
    pub reserve_stops : (r ≡ 0 → ⊥) → r ≡ row_by P (reserve t k n b) s
    unfolding rows_by
    reserve_stops = longer_stops P s (until t) e (reserve t k n b) (share_rows (plan_in P) k n b s) refl

    pub reserve_goes_on : r ≡ 0 → {m : ℕ} → m ≡ share_row_by P k n b s → m ≡ row_by P (reserve t k n b) s
    unfolding rows_by share_row_by
    reserve_goes_on = longer_goes_on P s (until t) e (reserve t k n b) (share_rows (plan_in P) k n b s) refl

  pub reserve_reserved : {r : ℕ} → r ≡ row_by P (reserve t k n b) s → r ≡ 0 → Reserved P k n b
  unfolding rows_by
  reserve_reserved e z =
      let h = call_passed P s (reserve t k n b) e z in
      limits_kept P k n b (sym (goes_on (limit_rows (plan_in P) k n b) [] (h.1.1.0, (h.1.1.1.0, (h.1.1.1.1.0, tt)))))
