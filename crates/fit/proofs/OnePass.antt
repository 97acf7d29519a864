-- One pass over the nodes finds the cheapest release: what the next node's cell makes of the best one so far.
use Prim.Native.Nat.{ℕ, ◌+◌, ◌*◌, ◌/◌, ◌%◌, ◌<◌}
use mathlib.Core.Path.{◌≡◌, refl, sym, ap, ◌∙◌}
use mathlib.Core.Bool.{Bool, not, ◌&&◌, ◌||◌}
use mathlib.Core.List.{List}
use native.Mathlib.Omega.{arith}
use native.Mathlib.Numerals.{add-one}
use lib.Dec.{eqb, ltb, leb}
use lib.ListN.{get_or}
use Rattle.std.specs.Prelude.{if◌then◌else◌}
use Rattle.rules.specs.Plan.{Plan}
use Rattle.rules.specs.Core.{Core, Share}
use Rattle.rules.specs.Rows.{load}
use Rattle.plan.specs.Tables.{overhead_cell, plan_of}
use Rattle.cells.specs.Layout.{half, latest_cell, share_of}
use Rattle.cells.specs.Decode.{plan_in, core_of}
use Rattle.admission.proofs.Shares.{latest_cell_lem}
use Rattle.fit.specs.Fit.{cheapest, cost, suffices}

cheapest-next : (f : ℕ → Bool) (c : ℕ → ℕ) (m : ℕ)
    → (if f (m + 1) && (eqb (cheapest f c m) 0 || ltb (c (m + 1)) (c (cheapest f c m))) then m + 1 else cheapest f c m) ≡ cheapest f c (m + 1)
unfolding cheapest
cheapest-next f c m = rw (add-one m)

module _ (P s : List ℕ) (room k needed : ℕ) where
  abbrev p : Plan
  p = plan_in P

  abbrev core : Core
  core = core_of p s

  -- the best one of nodes 1 to j
  abbrev pub so_far : ℕ → ℕ
  so_far j = cheapest (suffices p core room k needed) (cost p core) j

  abbrev pub costs : ℕ → ℕ
  costs = cost p core

  pub none_yet : 0 ≡ so_far 0
  unfolding cheapest
  none_yet = refl

  pub no_cost : 0 ≡ costs 0
  unfolding core_of
  no_cost = omega arith

  -- what is asked of node j + 1, by its cell
  abbrev pub asked : ℕ → ℕ → ℕ → ℕ → Bool
  asked j share best least =
      let own = share / half * (share % half + get_or P overhead_cell 0) in
      (not (eqb j k) && (not (eqb (share / half) 0) && leb needed (room + own))) && (eqb best 0 || ltb own least)

  module _ (j : ℕ) (l : j < p.nodes) where
    latest_is : core.latest (j + 1) ≡ share_of (get_or s (648 + j) 0)
    latest_is =
        let at : latest_cell (j + 1) ≡ 648 + j = omega arith in
        latest_cell_lem p s (j + 1) (record { low = omega arith; up = omega arith }) ∙ ap (λ (i : ℕ). share_of (get_or s i 0)) at

    abbrev share : ℕ
    share = get_or s (648 + j) 0

    pub cost_is : share / half * (share % half + get_or P overhead_cell 0) ≡ costs (j + 1)
    unfolding plan_of
    cost_is = ap (load p) (sym latest_is)

    -- what node j + 1 makes of the best one so far and its cost, by its reservation
    abbrev next : Share → ℕ → ℕ → ℕ
    next r best least =
        if (not (eqb (j + 1) k) && (not (eqb r.packets 0) && leb needed (room + load p r))) && (eqb best 0 || ltb (load p r) least) then j + 1 else best

    pub one_more : {best least : ℕ} → best ≡ so_far j → least ≡ costs best
        → (if asked (j + 1) share best least then j + 1 else best) ≡ so_far (j + 1)
    unfolding plan_of
    one_more {best} {least} e f =
        ap (λ (r : Share). next r best least) (sym latest_is)
        ∙ ap (λ (b : ℕ). next (core.latest (j + 1)) b least) e
        ∙ ap (λ (c : ℕ). next (core.latest (j + 1)) (so_far j) c) (f ∙ ap costs e)
        ∙ cheapest-next (suffices p core room k needed) costs j
