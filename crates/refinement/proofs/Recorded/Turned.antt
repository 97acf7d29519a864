-- Once the clock has come to t, the recorded times are those of `rules`: a request that a frame's start makes normal gets that start.
use Prim.Native.Nat.{ℕ, zero, suc, ◌+◌, ◌*◌, ◌/◌, ◌%◌, ◌≤◌}
use mathlib.Core.Path.{◌≡◌, refl, sym, ap, ap₂, subst, ◌∙◌}
use mathlib.Core.Bool.{Bool, true, false}
use mathlib.Core.List.{List}
use native.Mathlib.Omega.{arith}
use native.Mathlib.Nat.{min-le_right}
use borrow.Author.Tests.{eqb-true, eqb-false}
use lib.Dec.{eqb}
use lib.ListN.{length, get_or, set, length-set}
use lib.Seq.{get_or-set_same, get_or-set_other}
use Rattle.std.specs.Prelude.{if◌then◌else◌}
use Rattle.rules.specs.Plan.{Plan}
use Rattle.rules.specs.Drawn.{Within}
use Rattle.rules.specs.Waits.{turns_normal, come_to}
use Rattle.rules.proofs.Laws.Passes.{Which, which, yes', no'}
use Rattle.plan.specs.Tables.{plan_of}
use Rattle.cells.specs.Layout.{cells, two_32, request_cell, latest_cell, since_cell, since_high_cell, request_of, share_of}
use Rattle.cells.specs.Decode.{plan_in, is_node, core_of}
use Rattle.cells.specs.Waits.{since_at, times_of, put_since, turn_cells, turn_nodes, turn_all, start_by}
use Rattle.cells.specs.Frames.{new_frame, advance_by}
use Rattle.refinement.specs.Waits.{OtherTimes}
use Rattle.refinement.proofs.Changed.{node_within}
use Rattle.refinement.proofs.OtherTimes.{turn_other}
use Rattle.refinement.proofs.Recorded.Spared.{times-same, turned_by, advance_spares}

-- ---- one node's two cells

-- a time in two cells is read again
pub both_cells : (t : ℕ) → t % two_32 + t / two_32 * two_32 ≡ t
both_cells t = omega arith

pub since_own : (k low high : ℕ) (s : List ℕ) → length s ≡ cells → Within 256 k → since_at k (put_since k low high s) ≡ low + high * two_32
unfolding put_since
since_own k low high s size w =
    ap₂ (λ (x y : ℕ). x + y * two_32)
    (get_or-set_other (set s (since_cell k) low) (since_high_cell k) (since_cell k) high 0 (λ e. omega arith)
    ∙ get_or-set_same s (since_cell k) low 0 (omega (arith, w.up)))
    (get_or-set_same (set s (since_cell k) low) (since_high_cell k) high 0 (simp length-set (omega (arith, size, w.up))))

pub since_apart : (j k low high : ℕ) (s : List ℕ) → Within 256 j → Within 256 k → (j ≡ k → ⊥) → since_at j (put_since k low high s) ≡ since_at j s
unfolding put_since
since_apart j k low high s v w d =
    ap₂ (λ (x y : ℕ). x + y * two_32)
    (get_or-set_other (set s (since_cell k) low) (since_high_cell k) (since_cell j) high 0 (λ e. omega (arith, v.up))
    ∙ get_or-set_other s (since_cell k) (since_cell j) low 0 (λ e. d (omega (arith, v.low, w.low))))
    (get_or-set_other (set s (since_cell k) low) (since_high_cell k) (since_high_cell j) high 0 (λ e. d (omega (arith, v.low, w.low)))
    ∙ get_or-set_other s (since_cell k) (since_high_cell j) low 0 (λ e. omega (arith, w.up)))

-- ---- nodes n to 1

-- node k's request turns normal at a frame's start
abbrev turns_at : ℕ → List ℕ → Bool
turns_at k s = turns_normal (share_of (get_or s (latest_cell k) 0)) (request_of (get_or s (request_cell k) 0))

turns_same : (k : ℕ) (s r : List ℕ) → Within 256 k → OtherTimes s r → turns_at k r ≡ turns_at k s
turns_same k s r w o =
    ap₂ (λ (x y : ℕ). turns_normal (share_of x) (request_of y)) (o.same (latest_cell k) (omega (arith, w.up))) (o.same (request_cell k) (omega (arith, w.up)))

module _ (low high : ℕ) where
  -- node k's recorded time behind a start at the time of these two cells
  abbrev turned_since : ℕ → List ℕ → ℕ
  turned_since k s = if turns_at k s then low + high * two_32 else since_at k s

  turn_own : (k : ℕ) (s : List ℕ) → length s ≡ cells → Within 256 k → since_at k (turn_cells low high k s) ≡ turned_since k s
  unfolding turn_cells
  turn_own k s size w = since_own k _ _ s size w ∙ go (turns_at k s)
    where
      go : (b : Bool)
          → (if b then low else get_or s (since_cell k) 0) + (if b then high else get_or s (since_high_cell k) 0) * two_32
          ≡ (if b then low + high * two_32 else since_at k s)
      go true = refl
      go false = refl

  turn_apart : (j k : ℕ) (s : List ℕ) → Within 256 j → Within 256 k → (j ≡ k → ⊥) → since_at j (turn_cells low high k s) ≡ since_at j s
  unfolding turn_cells
  turn_apart j k s v w d = since_apart j k _ _ s v w d

  nodes_apart : (n : ℕ) (s : List ℕ) (k : ℕ) → Within 256 k → suc n ≤ k → since_at k (turn_nodes low high n s) ≡ since_at k s
  unfolding turn_nodes
  nodes_apart zero s k w l = refl
  nodes_apart (suc n) s k w l =
      nodes_apart n (turn_cells low high (suc n) s) k w (omega arith)
      ∙ turn_apart k (suc n) s w (record { low = omega arith; up = omega (arith, w.up) }) (λ e. omega arith)

  nodes_turned : (n : ℕ) → n ≤ 256 → (s : List ℕ) → length s ≡ cells → (k : ℕ) → Within n k → since_at k (turn_nodes low high n s) ≡ turned_since k s
  unfolding turn_nodes
  nodes_turned zero u s size k w = absurd (omega (arith, w.low, w.up))
  nodes_turned (suc n) u s size k w =
      go (nodes_turned n (omega arith) r ((turn_other low high (suc n) s).size ∙ size) k) (which (eqb k (suc n)))
    where
      r : List ℕ
      r = turn_cells low high (suc n) s

      last : Within 256 (suc n)
      last = record { low = omega arith; up = u }

      own : Within 256 k
      own = record { low = w.low; up = omega (arith, w.up) }

      go : (Within n k → since_at k (turn_nodes low high n r) ≡ turned_since k r) → Which (eqb k (suc n))
          → since_at k (turn_nodes low high n r) ≡ turned_since k s
      go earlier (yes' e) =
          subst (λ (j : ℕ). since_at j (turn_nodes low high n r) ≡ turned_since j s) (sym (eqb-true k (suc n) e))
          (nodes_apart n r (suc n) last (omega arith) ∙ turn_own (suc n) s size last)
      go earlier (no' e) =
          let d = eqb-false k (suc n) e in
          earlier (record { low = w.low; up = omega (arith, w.up) })
          ∙ ap₂ (λ (b : Bool) (x : ℕ). if b then low + high * two_32 else x) (turns_same k s r own (turn_other low high (suc n) s))
          (turn_apart k (suc n) s own last d)

-- ---- the clock

all_turned : (P : List ℕ) (start : ℕ) (s : List ℕ) → length s ≡ cells → (k : ℕ) → Within (plan_in P).nodes k
    → since_at k (turn_all P start s) ≡ (if turns_at k s then start else since_at k s)
unfolding turn_all
all_turned P start s size k w =
    nodes_turned (start % two_32) (start / two_32) (plan_in P).nodes (min-le_right (plan_of P).nodes 256) s size k w
    ∙ ap (λ (x : ℕ). if turns_at k s then x else since_at k s) (both_cells start)

module _ (P : List ℕ) (s : List ℕ) (size : length s ≡ cells) (t : ℕ) where
  abbrev p : Plan
  p = plan_in P

  turned : (k : ℕ) → times_of p (turned_by P t s) k ≡ come_to p t (core_of p s) (times_of p s) k
  unfolding times_of come_to core_of
  turned k = go (which (new_frame p t s)) (which (is_node p k))
    where
      go : Which (new_frame p t s) → Which (is_node p k) → times_of p (turned_by P t s) k ≡ come_to p t (core_of p s) (times_of p s) k
      go (yes' e) (yes' n) = rw (e, n) (all_turned P (start_by P s) s size k (node_within p k n))
      go (yes' e) (no' n) = rw (e, n)
      go (no' e) n = rw e

  pub come_tied : times_of p (advance_by P t s) ≡ come_to p t (core_of p s) (times_of p s)
  come_tied = times-same p (advance_spares P t s) ∙ (λ i k. turned k i)
