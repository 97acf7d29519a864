-- A call beside the hub whose rows are `until`'s, 11 and 12, and then its own is accepted only where `until` is.
use Prim.Native.Nat.{ℕ}
use mathlib.Core.Path.{◌≡◌, refl, ap}
use mathlib.Core.List.{List, [], ◌∷◌, ◌++◌}
use Rattle.rules.specs.Call.{until}
use Rattle.rules.specs.Rows.{Row, accept, refuse, first_row}
use Rattle.rules.proofs.Laws.Passes.{Which, which, yes', no'}
use Rattle.rules.proofs.Laws.Clash.{clash}
use Rattle.cells.specs.Decode.{plan_in}
use Rattle.cells.specs.Calls.{rows_by, number_of, row_by}

-- where no row applies, none of the first ones does
first_ones : (rows own : List Row) → first_row (rows ++ own) ≡ accept → first_row rows ≡ accept
first_ones [] own e = refl
first_ones (r ∷ rows) own e = go (which r.applies) (first_ones rows own)
  where
    go : Which r.applies → (first_row (rows ++ own) ≡ accept → first_row rows ≡ accept) → first_row (r ∷ rows) ≡ accept
    go (yes' a) more = let z : refuse r.number ≡ accept = rw a at e in clash (cc)
    go (no' a) more = rw a (more (rw a at e))

pub until-passed : (P s : List ℕ) (t : ℕ) (own : List Row) → first_row (rows_by (plan_in P) s (until t) ++ own) ≡ accept → row_by P (until t) s ≡ 0
unfolding row_by
until-passed P s t own e = ap number_of (first_ones (rows_by (plan_in P) s (until t)) own e)
