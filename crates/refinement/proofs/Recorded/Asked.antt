-- A request that is put up: the cells' recorded time of its node is that of `rules`, and no other changes.
use Prim.Native.Nat.{ℕ, ◌+◌, ◌/◌, ◌%◌, ◌≤◌, ◌<◌}
use mathlib.Core.Path.{◌≡◌, sym, ap, ap₂, ◌∙◌}
use mathlib.Core.Bool.{Bool}
use mathlib.Core.List.{List}
use native.Mathlib.Omega.{arith}
use borrow.Author.Tests.{le-ltb, le-leb, lt-leb}
use lib.Dec.{leb}
use lib.ListN.{length, get_or}
use Rattle.std.specs.Prelude.{if◌then◌else◌}
use Rattle.rules.specs.Choice.{put}
use Rattle.rules.specs.Plan.{Plan}
use Rattle.rules.specs.Drawn.{Within}
use Rattle.rules.specs.Call.{Class, normal, high}
use Rattle.rules.specs.Core.{Request, Share, none, nothing_reserved, standing, is_class}
use Rattle.rules.specs.Rows.{put_up}
use Rattle.rules.proofs.Laws.Passes.{Which, which, yes', no', put_same, put_other}
use Rattle.cells.specs.Layout.{cells, two_32, request_cell, force_cell, class_of, request_of, request_code, share_of}
use Rattle.cells.specs.Decode.{is_node, core_of}
use Rattle.cells.specs.Masks.{stands_in}
use Rattle.cells.specs.Waits.{since_at, times_of, put_since, record_since}
use Rattle.cells.specs.Calls.{put_up_code}
use Rattle.refinement.proofs.Same.{agree}
use Rattle.refinement.proofs.Changed.{node_within}
use Rattle.refinement.proofs.Requested.{own_field}
use Rattle.refinement.proofs.Recorded.Turned.{both_cells, since_own, since_apart}

-- a request's cell tells its class
class_told : (d : Class) (b : ℕ) → b < 65536 → class_of (leb 131072 (request_code (standing d b))) ≡ d
class_told normal b u = rw (lt-leb 131072 (65536 + b) (omega arith))
class_told high b u = rw (le-leb 131072 (131072 + b) (omega arith))

module _ (p : Plan) (few : p.nodes ≤ 256) (s : List ℕ) (size : length s ≡ cells) (k : ℕ) (w : Within p.nodes k) where
  own : Within 256 k
  own = record { low = w.low; up = omega (arith, w.up) }

  pub time_own : (r : List ℕ) → times_of p r k ≡ since_at k r
  unfolding times_of
  time_own r = own_field p k w (λ x. x) 0 (since_at k r)

  module _ (x t : ℕ) where
    -- a request of its class stands already
    abbrev stood : Bool
    stood = stands_in (leb 131072 x) (get_or s (request_cell k) 0)

    record_own : since_at k (record_since k x t s) ≡ (if stood then since_at k s else t)
    unfolding record_since
    record_own = rw (le-ltb k 1 own.low, le-ltb 256 k own.up) (go (which stood))
      where
        go : Which stood → since_at k (if stood then s else put_since k (t % two_32) (t / two_32) s) ≡ (if stood then since_at k s else t)
        go (yes' e) = rw e
        go (no' e) = rw e (since_own k (t % two_32) (t / two_32) s size own ∙ both_cells t)

    record_apart : (j : ℕ) → Within 256 j → (j ≡ k → ⊥) → since_at j (record_since k x t s) ≡ since_at j s
    unfolding record_since
    record_apart j v d = rw (le-ltb k 1 own.low, le-ltb 256 k own.up) (go (which stood))
      where
        go : Which stood → since_at j (if stood then s else put_since k (t % two_32) (t / two_32) s) ≡ since_at j s
        go (yes' e) = rw e
        go (no' e) = rw e (since_apart j k (t % two_32) (t / two_32) s v own d)

    others : (j : ℕ) → (j ≡ k → ⊥) → times_of p (record_since k x t s) j ≡ times_of p s j
    unfolding times_of
    others j d = go (which (is_node p j))
      where
        go : Which (is_node p j) → times_of p (record_since k x t s) j ≡ times_of p s j
        go (yes' e) = let v = node_within p j e in rw (e, record_apart j (record { low = v.low; up = omega (arith, v.up) }) d)
        go (no' e) = rw e

  -- the class by the reservation in force
  module _ (c : Class) (b t : ℕ) (u : b < 65536) where
    abbrev kept : ℕ
    kept = if is_class (put_up ((core_of p s).force k) c) ((core_of p s).request k) then times_of p s k else t

    same_class : stood (put_up_code c k b s) t ≡ is_class (put_up ((core_of p s).force k) c) ((core_of p s).request k)
    unfolding core_of
    same_class =
        ap (λ (d : Class). is_class d (request_of (get_or s (request_cell k) 0))) (class_told (put_up (share_of (get_or s (force_cell k) 0)) c) b u)
        ∙ ap₂ (λ (r : Share) (q : Request). is_class (put_up r c) q) (sym (own_field p k w share_of nothing_reserved (get_or s (force_cell k) 0)))
        (sym (own_field p k w request_of none (get_or s (request_cell k) 0)))

    pub record_tied : times_of p (record_since k (put_up_code c k b s) t s) ≡ put (times_of p s) k kept
    record_tied i j =
        agree k
        (time_own (record_since k (put_up_code c k b s) t s) ∙ record_own (put_up_code c k b s) t
        ∙ ap₂ (λ (q : Bool) (n : ℕ). if q then n else t) same_class (sym (time_own s)) ∙ sym (put_same (times_of p s) k kept))
        (λ h d. others (put_up_code c k b s) t h d ∙ sym (put_other (times_of p s) k kept h d)) j i
