-- The sum of all loads: its steps, a bound, and that within the nodes the latest reservations are the cells'.
use Prim.Native.Nat.{ℕ, ◌+◌, ◌*◌, ◌/◌, ◌%◌, ◌≤◌, ◌<◌}
use mathlib.Core.Path.{◌≡◌, refl, sym, ap, ◌∙◌}
use mathlib.Core.List.{List}
use native.Mathlib.Omega.{arith}
use native.Mathlib.Nat.{mul-le-mul}
use Rattle.std.proofs.Common.{add-one}
use lib.ListN.{get_or}
use borrow.Author.Tests.{le-leb}
use Rattle.rules.specs.Choice.{sum}
use Rattle.rules.specs.Rows.{load, loads}
use Rattle.rules.proofs.Laws.Passes.{sum_same}
use Rattle.plan.specs.Tables.{overhead_cell, plan_of}
use Rattle.cells.specs.Layout.{half, share_of, latest_cell}
use Rattle.cells.specs.Decode.{plan_in, core_of}

-- each load is below 2^50
pub load_small :
    (overhead share : ℕ) → overhead < 4294967296 → share < 4294967296 → share / half * (share % half + overhead) ≤ 1125899906842624
load_small overhead share o s =
    let least : share / half ≤ 65535 = omega arith in
    let other : share % half + overhead ≤ 4295032830 = omega arith in
    omega (arith, mul-le-mul least other)

-- a load of cells of two tables, wherever they stand
pub cell_small : (P s : List ℕ) (i at r : ℕ) → ((j : ℕ) → get_or P j 0 < 4294967296) → ((j : ℕ) → get_or s j 0 < 4294967296)
    → r ≡ get_or s at 0 / half * (get_or s at 0 % half + get_or P i 0) → r ≤ 1125899906842624
cell_small P s i at r p f e = omega (arith, e, load_small (get_or P i 0) (get_or s at 0) (p i) (f at))

sum_more : (n : ℕ) (f : ℕ → ℕ) → sum n f + f (n + 1) ≡ sum (n + 1) f
unfolding sum
sum_more n f = rw add-one

-- a node's load by its cell
abbrev pub cell_load : List ℕ → List ℕ → ℕ → ℕ
cell_load P s k = load (plan_in P) (share_of (get_or s (latest_cell k) 0))

module _ (P s : List ℕ) (n : ℕ) where
  pub no_load : 0 ≡ sum 0 (cell_load P s)
  unfolding sum
  no_load = refl

  -- node n's load goes onto those of the nodes below it
  pub one_load_more :
      (others own at : ℕ) →
      others ≡ sum n (cell_load P s) →
      at ≡ latest_cell (n + 1) →
      own ≡ get_or s at 0 / half * (get_or s at 0 % half + get_or P overhead_cell 0) →
      others + own ≡ sum (n + 1) (cell_load P s)
  unfolding plan_of
  one_load_more others own at l i o =
      let e : own ≡ cell_load P s (n + 1) = rw i at o in
      omega (arith, sum_more n (cell_load P s))

  -- within the nodes the guard of `latest` is met
  pub latest_loads : (r : ℕ) → n ≡ (plan_in P).nodes → r ≡ sum n (cell_load P s) → r ≡ loads (plan_in P) (core_of (plan_in P) s).latest
  unfolding core_of
  latest_loads r e h =
      h
      ∙ ap (λ (m : ℕ). sum m (cell_load P s)) e
      ∙ sum_same (plan_in P).nodes _ _ (λ k w. sym (simp (le-leb 1 k w.low, le-leb k (plan_in P).nodes w.up)))
