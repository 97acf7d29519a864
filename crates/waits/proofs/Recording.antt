-- The recorded times, one law a way through the tests.
use Prim.Native.Nat.{ℕ, zero, suc, ◌+◌, ◌-◌, ◌/◌, ◌%◌, ◌≤◌, ◌<◌}
use mathlib.Core.Path.{◌≡◌, refl, ap, ◌∙◌}
use mathlib.Core.Bool.{Bool, true, false}
use mathlib.Core.List.{List}
use native.Mathlib.Omega.{arith}
use native.Mathlib.Numerals.{unary_clauses}
use lib.Dec.{ltb, leb}
use lib.ListN.{get_or, set}
use borrow.Author.Tests.{lt-ltb, le-ltb, leb-true, leb-false, ltb-true, ltb-false, eq-eqb, ne_eqb}
use Rattle.std.specs.Prelude.{if◌then◌else◌}
use Rattle.rules.specs.Plan.{most_nodes}
use Rattle.rules.specs.Waits.{turns_normal}
use Rattle.cells.specs.Layout.{two_32, request_cell, latest_cell, since_cell, since_high_cell, request_of, share_of}
use Rattle.cells.specs.Decode.{plan_in}
use Rattle.cells.specs.Masks.{stands_in}
use Rattle.cells.specs.Waits.{since_at, put_since, turn_cells, turn_nodes, turn_all, record_since, wait_at}
use Rattle.cells.proofs.Within.{of_node, no_node}

-- whether a frame's start makes a request normal, by its cell and the reservation's
abbrev pub bits_above : ℕ → ℕ → ℕ
bits_above x least = if ltb x least then 0 else x % 65536 + 1

module _ (share x : ℕ) where
  abbrev becomes_normal : Bool
  becomes_normal = turns_normal (share_of share) (request_of x)

  not_high : x < 131072 → ltb (bits_above share 65536) (bits_above x 131072) ≡ becomes_normal
  not_high h = go (leb 65536 x) refl
    where
      none_above : ltb (bits_above share 65536) (bits_above x 131072) ≡ false
      none_above = rw (lt-ltb x 131072 h) (le-ltb (bits_above share 65536) 0 (omega arith))

      go : (b : Bool) → leb 65536 x ≡ b → ltb (bits_above share 65536) (bits_above x 131072) ≡ becomes_normal
      go true e = none_above ∙ simp (le-ltb x 65536 (leb-true 65536 x e), lt-ltb x 131072 h)
      go false e = none_above ∙ simp (lt-ltb x 65536 (leb-false 65536 x e))

  unreserved : 131072 ≤ x → share < 65536 → ltb (bits_above share 65536) (bits_above x 131072) ≡ becomes_normal
  unreserved h r =
      let some : ltb (bits_above share 65536) (bits_above x 131072) ≡ true =
      rw (lt-ltb share 65536 r, le-ltb x 131072 h) (lt-ltb 0 (x % 65536 + 1) (omega arith)) in
      some ∙ simp (le-ltb x 65536 (omega arith), le-ltb x 131072 h, eq-eqb (share / 65536) 0 (omega arith))

  by_length : 131072 ≤ x → 65536 ≤ share → ltb (bits_above share 65536) (bits_above x 131072) ≡ becomes_normal
  by_length h r = go (ltb (share % 65536) (x % 65536)) refl
    where
      one_more : ltb (bits_above share 65536) (bits_above x 131072) ≡ ltb (share % 65536 + 1) (x % 65536 + 1)
      one_more = rw (le-ltb share 65536 r, le-ltb x 131072 h)

      go : (b : Bool) → ltb (share % 65536) (x % 65536) ≡ b → ltb (bits_above share 65536) (bits_above x 131072) ≡ becomes_normal
      go true e =
          one_more ∙ lt-ltb (share % 65536 + 1) (x % 65536 + 1) (omega (arith, ltb-true (share % 65536) (x % 65536) e))
          ∙ simp (le-ltb x 65536 (omega arith), le-ltb x 131072 h, ne_eqb (share / 65536) 0 (λ z. omega arith), e)
      go false e =
          one_more ∙ le-ltb (share % 65536 + 1) (x % 65536 + 1) (omega (arith, ltb-false (share % 65536) (x % 65536) e))
          ∙ simp (le-ltb x 65536 (omega arith), le-ltb x 131072 h, ne_eqb (share / 65536) 0 (λ z. omega arith), e)

  turns_normal_lem : ltb (bits_above share 65536) (bits_above x 131072) ≡ becomes_normal
  turns_normal_lem = go (leb 131072 x) (leb 65536 share) refl refl
    where
      go : (a b : Bool) → leb 131072 x ≡ a → leb 65536 share ≡ b → ltb (bits_above share 65536) (bits_above x 131072) ≡ becomes_normal
      go false b e f = not_high (leb-false 131072 x e)
      go true false e f = unreserved (leb-true 131072 x e) (leb-false 65536 share f)
      go true true e f = by_length (leb-true 131072 x e) (leb-true 65536 share f)

-- nodes n to 1, as a frame starts at a time of two halves
module _ (low high : ℕ) where
  pub turned_none : (s : List ℕ) (n : ℕ) → n ≡ 0 → s ≡ turn_nodes low high n s
  unfolding turn_nodes
  turned_none s n e = rw e

  turned_more : (s : List ℕ) (n : ℕ) → (n ≡ 0 → ⊥) → turn_nodes low high (n - 1) (turn_cells low high n s) ≡ turn_nodes low high n s
  unfolding turn_nodes
  turned_more s zero h = absurd (h refl)
  turned_more s (suc n) h = simp unary_clauses

  pub turned_some : (s : List ℕ) (n most own x y : ℕ) → (n ≡ 0 → ⊥)
      → most ≡ bits_above (get_or s (latest_cell n) 0) 65536 → own ≡ bits_above (get_or s (request_cell n) 0) 131072
      → x ≡ (if ltb most own then low else get_or s (since_cell n) 0) → y ≡ (if ltb most own then high else get_or s (since_high_cell n) 0)
      → turn_nodes low high (n - 1) (set (set s (since_cell n) x) (since_high_cell n) y) ≡ turn_nodes low high n s
  unfolding turn_cells put_since
  turned_some s n most own x y some m o l h = ap (turn_nodes low high (n - 1)) here ∙ turned_more s n some
    where
      here : set (set s (since_cell n) x) (since_high_cell n) y ≡ turn_cells low high n s
      here = rw (l, h, m, o, turns_normal_lem (get_or s (latest_cell n) 0) (get_or s (request_cell n) 0))

  pub turned_all : (P s : List ℕ) (start : ℕ) → low ≡ start % two_32 → high ≡ start / two_32
      → turn_nodes low high (plan_in P).nodes s ≡ turn_all P start s
  unfolding turn_all
  turned_all P s start l h = rw (l, h)

-- a request of node k is put up at t
module _ (k x t : ℕ) (s : List ℕ) where
  pub no_request : ¬ ((1 ≤ k) × (k ≤ most_nodes)) → s ≡ record_since k x t s
  unfolding record_since
  no_request other = no_node k _ s other

  module _ (low : 1 ≤ k) (up : k ≤ most_nodes) where
    pub time_kept : stands_in (leb 131072 x) (get_or s (request_cell k) 0) ≡ true → s ≡ record_since k x t s
    unfolding record_since
    time_kept e = rw (le-ltb k 1 low, le-ltb most_nodes k up, e)

    pub time_new : stands_in (leb 131072 x) (get_or s (request_cell k) 0) ≡ false
        → set (set s (since_cell k) (t % two_32)) (since_high_cell k) (t / two_32) ≡ record_since k x t s
    unfolding record_since put_since
    time_new e = rw (le-ltb k 1 low, le-ltb most_nodes k up, e)

-- the wait of node k at d
module _ (d k : ℕ) (s : List ℕ) where
  pub no_wait : ¬ ((1 ≤ k) × (k ≤ most_nodes)) → 0 ≡ wait_at d k s
  unfolding wait_at
  no_wait other = no_node k _ 0 other

  pub waits : 1 ≤ k → k ≤ most_nodes → d - since_at k s ≡ wait_at d k s
  unfolding wait_at
  waits low up = of_node k _ 0 low up
