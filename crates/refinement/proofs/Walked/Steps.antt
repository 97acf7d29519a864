-- One look of the walk over the cells: what it comes to, by what the hub's mask shows.
use Rattle.std.specs.Prelude.{Option, Some, None}
use Prim.Native.Nat.{ℕ, suc, ◌+◌, ◌/◌, ◌≤◌}
use mathlib.Core.Path.{◌≡◌}
use mathlib.Core.Bool.{Bool, true, false}
use mathlib.Core.List.{List}
use lib.Dec.{eqb}
use lib.ListN.{get_or, set}
use borrow.Author.Tests.{le-ltb, eq-eqb, ne_eqb}
use Rattle.rules.specs.Plan.{node, hub}
use Rattle.rules.specs.Drawn.{Within}
use Rattle.ports.specs.Mask.{shows}
use Rattle.ports.specs.Search.{lowest_from}
use Rattle.plan.specs.Tables.{plan_of}
use Rattle.cells.specs.Layout.{mask_cell, pointer_cell, if_hub, unmarked_code, marked_code}
use Rattle.cells.specs.Decode.{plan_in}
use Rattle.cells.specs.Turns.{down_by, take_by, up_by, hand_up_by, found_by, look_by, after_look, walk_by}

pub if_hub_lem : {A : Type 0} (g : ℕ) (a b : A) → Within 32 g → if_hub g a b ≡ a
if_hub_lem g a b w = rw (le-ltb g 1 w.low, le-ltb 32 g w.up)

module _ (P : List ℕ) (is_high : Bool) (n g m : ℕ) (s : List ℕ) (w : Within 32 g) where
  -- the hub's mask shows this at or after its pointer
  abbrev Lowest : Option ℕ → Type 0
  Lowest r = lowest_from (shows (get_or s (mask_cell is_high g) 0)) (get_or s (pointer_cell is_high g) 0 / 2) ≡ r

  -- the pointer is port q, marked
  abbrev marked : ℕ → List ℕ
  marked q = set s (pointer_cell is_high g) (marked_code q)

  pub by_node : (q k : ℕ) → Lowest (Some q) → (plan_in P).port g q ≡ node k
      → walk_by P is_high (suc n) g m s
      ≡ record { turn = record { node = k; hub = g; moves = m }; cells = set s (pointer_cell is_high g) (unmarked_code (q + 1)) }
  unfolding walk_by after_look look_by found_by take_by plan_of
  by_node q k e i = rw (le-ltb g 1 w.low, le-ltb 32 g w.up, e, i)

  pub by_afresh : (q h : ℕ) → Lowest (Some q) → (plan_in P).port g q ≡ hub h → h ≤ 32 → eqb (get_or s (pointer_cell is_high g) 0) (marked_code q) ≡ false
      → walk_by P is_high (suc n) g m s ≡ walk_by P is_high n h (m + 1) (set (marked q) (pointer_cell is_high h) (unmarked_code 1))
  unfolding walk_by after_look look_by found_by take_by down_by plan_of
  by_afresh q h e i few o = rw (le-ltb g 1 w.low, le-ltb 32 g w.up, e, i, le-ltb 32 h few, o)

  pub by_resume : (q h : ℕ) → Lowest (Some q) → (plan_in P).port g q ≡ hub h → h ≤ 32 → eqb (get_or s (pointer_cell is_high g) 0) (marked_code q) ≡ true
      → walk_by P is_high (suc n) g m s ≡ walk_by P is_high n h (m + 1) (marked q)
  unfolding walk_by after_look look_by found_by take_by down_by plan_of
  by_resume q h e i few o = rw (le-ltb g 1 w.low, le-ltb 32 g w.up, e, i, le-ltb 32 h few, o)

  pub by_round : Lowest None → g ≡ 1
      → walk_by P is_high (suc n) g m s ≡ walk_by P is_high n 1 m (set s (pointer_cell is_high 1) (unmarked_code 1))
  unfolding walk_by after_look look_by found_by hand_up_by
  by_round e r = rw (le-ltb g 1 w.low, le-ltb 32 g w.up, e, eq-eqb g 1 r)

  pub by-up : Lowest None → (g ≡ 1 → ⊥) → Within 32 ((plan_in P).parent g) → (plan_in P).place g ≤ 32
      → walk_by P is_high (suc n) g m s
      ≡ walk_by P is_high n ((plan_in P).parent g) (m + 1) (set s (pointer_cell is_high ((plan_in P).parent g)) (unmarked_code ((plan_in P).place g + 1)))
  unfolding walk_by after_look look_by found_by hand_up_by up_by plan_of
  by-up e r u few =
      rw (
        le-ltb g 1 w.low,
        le-ltb 32 g w.up,
        e,
        ne_eqb g 1 r,
        le-ltb ((plan_in P).parent g) 1 u.low,
        le-ltb 32 ((plan_in P).parent g) u.up,
        le-ltb 32 ((plan_in P).place g) few,
      )
