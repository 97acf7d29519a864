-- A frame's start, one law a way through the tests: of nodes n to 1, of all with the masks, and as the clock comes to a time.
use Prim.Native.Nat.{ℕ, zero, suc, ◌-◌}
use mathlib.Core.Path.{◌≡◌, refl, ap, ◌∙◌}
use mathlib.Core.Bool.{true, false}
use mathlib.Core.List.{List}
use native.Mathlib.Numerals.{unary_clauses}
use lib.ListN.{get_or, set}
use Rattle.rules.specs.Core.{reclassed}
use Rattle.cells.specs.Layout.{clock_cell, put_time, request_cell, force_cell, latest_cell, granted_cell, request_of, request_code, share_of}
use Rattle.cells.specs.Decode.{plan_in}
use Rattle.cells.specs.Build.{build_masks}
use Rattle.cells.specs.Waits.{turn_all, start_by}
use Rattle.cells.specs.Frames.{start_cells, start_nodes, start_frame, new_frame, advance_by}

pub starts_none : (s : List ℕ) (n : ℕ) → n ≡ 0 → s ≡ start_nodes n s
unfolding start_nodes
starts_none s n e = rw e

starts_more : (s : List ℕ) (n : ℕ) → (n ≡ 0 → ⊥) → start_nodes (n - 1) (start_cells n s) ≡ start_nodes n s
unfolding start_nodes
starts_more s zero h = absurd (h refl)
starts_more s (suc n) h = simp unary_clauses

-- x is what becomes of node n's request
pub starts_some : (s : List ℕ) (n x : ℕ) → (n ≡ 0 → ⊥)
    → x ≡ request_code (reclassed (share_of (get_or s (latest_cell n) 0)) (request_of (get_or s (request_cell n) 0)))
    → start_nodes (n - 1) (set (set (set s (request_cell n) x) (force_cell n) (get_or s (latest_cell n) 0)) (granted_cell n) 0) ≡ start_nodes n s
unfolding start_cells
starts_some s n x h e =
    ap (λ (y : ℕ). start_nodes (n - 1) (set (set (set s (request_cell n) y) (force_cell n) (get_or s (latest_cell n) 0)) (granted_cell n) 0)) e
    ∙ starts_more s n h

pub starts_all : (P s r z : List ℕ) → r ≡ start_nodes (plan_in P).nodes s → z ≡ build_masks P r → z ≡ start_frame P s
unfolding start_frame
starts_all P s r z e i = i ∙ ap (build_masks P) e

-- behind the recorded times of the requests that it makes normal
pub starts_turned : (P s : List ℕ) (start : ℕ) (r z : List ℕ) → start ≡ start_by P s → r ≡ turn_all P start s → z ≡ start_frame P r
    → z ≡ start_frame P (turn_all P (start_by P s) s)
starts_turned P s start r z a e i = i ∙ ap (start_frame P) (e ∙ ap (λ (x : ℕ). turn_all P x s) a)

-- the clock comes to t, by whether a frame starts on the way
module _ (P s : List ℕ) (t : ℕ) where
  pub comes_with_start :
      (u : List ℕ) → new_frame (plan_in P) t s ≡ true → u ≡ start_frame P (turn_all P (start_by P s) s) → put_time clock_cell t u ≡ advance_by P t s
  unfolding advance_by
  comes_with_start u n e = rw (e, n)

  pub comes_alone : (u : List ℕ) → new_frame (plan_in P) t s ≡ false → u ≡ s → put_time clock_cell t u ≡ advance_by P t s
  unfolding advance_by
  comes_alone u n e = rw (e, n)
