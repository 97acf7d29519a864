-- Row 16, by the cell of the reservation in force at a time.
use Prim.Native.Nat.{ℕ, ◌/◌, ◌%◌}
use mathlib.Core.Path.{◌≡◌}
use mathlib.Core.Bool.{Bool, true}
use mathlib.Core.List.{List}
use lib.Dec.{ltb, eqb}
use lib.ListN.{get_or}
use borrow.Author.Tests.{le-leb}
use Rattle.std.specs.Prelude.{if◌then◌else◌}
use Rattle.rules.specs.Plan.{Plan}
use Rattle.rules.specs.Drawn.{Within}
use Rattle.rules.specs.Core.{advance}
use Rattle.rules.specs.Rows.{row16}
use Rattle.rules.proofs.Laws.Passes.{Which, which, yes', no'}
use Rattle.cells.specs.Layout.{half, class_of, force_cell, latest_cell, share_of}
use Rattle.cells.specs.Decode.{is_node, core_of}
use Rattle.cells.specs.Frames.{new_frame}

pub is_node_lem : (p : Plan) (k : ℕ) → Within p.nodes k → is_node p k ≡ true
is_node_lem p k w = rw (le-leb 1 k w.low, le-leb k p.nodes w.up)

module _ (p : Plan) (s : List ℕ) (k : ℕ) (w : Within p.nodes k) where
  -- the cell of node k's reservation in force at t
  abbrev pub force_at : ℕ → ℕ
  force_at t = if new_frame p t s then get_or s (latest_cell k) 0 else get_or s (force_cell k) 0

  pub in_force : (t : ℕ) → (advance p t (core_of p s)).force k ≡ share_of (force_at t)
  unfolding advance core_of
  in_force t = go (which (new_frame p t s))
    where
      go : Which (new_frame p t s) → (advance p t (core_of p s)).force k ≡ share_of (force_at t)
      go (yes' e) = rw (e, is_node_lem p k w)
      go (no' e) = rw (e, is_node_lem p k w)

  pub row16_cell : (is_high : Bool) (t b x : ℕ) → is_high ≡ true → x ≡ force_at t
      → (if eqb (x / half) 0 then p.strict else ltb (x % half) b) ≡ (row16 p (core_of p s) (class_of is_high) t k b).applies
  row16_cell is_high t b x h e = rw (h, in_force t, e)
