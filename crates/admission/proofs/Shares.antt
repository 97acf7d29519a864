-- Reservations in cells, and what the frame holds with one of them changed.
use Prim.Native.Nat.{ℕ, ◌+◌, ◌*◌, ◌/◌, ◌%◌, ◌<◌}
use mathlib.Core.Path.{◌≡◌, refl, sym, ap, ◌∙◌}
use mathlib.Core.Bool.{Bool, true, false}
use mathlib.Core.List.{List}
use native.Mathlib.Omega.{arith}
use lib.Dec.{ltb, eqb}
use lib.ListN.{get_or}
use borrow.Author.Tests.{lt-ltb, le-ltb, ltb-true, ltb-false}
use Rattle.std.specs.Prelude.{if◌then◌else◌}
use Rattle.rules.specs.Choice.{put}
use Rattle.rules.specs.Plan.{Plan}
use Rattle.rules.specs.Drawn.{Within}
use Rattle.rules.specs.Core.{Share}
use Rattle.rules.specs.Rows.{load, loads, row17}
use Rattle.rules.proofs.Laws.Passes.{Which, which, yes', no', sum_same, sum-put}
use Rattle.cells.specs.Layout.{half, latest_cell, share_of, share_code}
use Rattle.cells.specs.Decode.{core_of}
use Rattle.rows.proofs.InForce.{is_node_lem}
use Rattle.admission.specs.Share.{row17_with}

pub share_coded : (n b : ℕ) → b < half → share_of (share_code n b) ≡ record { packets = n; bits = b }
share_coded n b h =
    let d : (n * half + b) / half ≡ n = omega arith in
    let m : (n * half + b) % half ≡ b = omega arith in
    rw (d, m)

pub latest_cell_lem : (p : Plan) (s : List ℕ) (k : ℕ) → Within p.nodes k → (core_of p s).latest k ≡ share_of (get_or s (latest_cell k) 0)
unfolding core_of
latest_cell_lem p s k w = rw (is_node_lem p k w)

-- the load of a choice
load_if : (p : Plan) (c : Bool) (r q : Share) → load p (if c then r else q) ≡ (if c then load p r else load p q)
load_if p true r q = refl
load_if p false r q = refl

pub loads-put : (p : Plan) (f : ℕ → Share) (k : ℕ) (r : Share) → Within p.nodes k
    → loads p (put f k r) + load p (f k) ≡ loads p f + load p r
loads-put p f k r w =
    let same = sum_same p.nodes (λ j. load p (put f k r j)) (put (λ j. load p (f j)) k (load p r)) (λ j v. load_if p (eqb j k) r (f j)) in
    let changed = sum-put p.nodes (λ j. load p (f j)) k (load p r) w in
    omega arith

-- both sides of a test with as much more
less-more : (a b c d : ℕ) → a + d ≡ b + c → (T D : ℕ) → ltb (T + d) (D + (b + c)) ≡ ltb T (D + a)
less-more a b c d e T D = go (which (ltb T (D + a)))
  where
    go : Which (ltb T (D + a)) → ltb (T + d) (D + (b + c)) ≡ ltb T (D + a)
    go (yes' h) = lt-ltb (T + d) (D + (b + c)) (omega (arith, ltb-true T (D + a) h)) ∙ sym h
    go (no' h) = le-ltb (T + d) (D + (b + c)) (omega (arith, ltb-false T (D + a) h)) ∙ sym h

module _ (p : Plan) (s : List ℕ) (all k : ℕ) (w : Within p.nodes k) where
  -- 17 by the sum of all loads is row 17, where the sum is that of the table
  pub row17_with_lem : (r : Share) → all ≡ loads p (core_of p s).latest → (row17_with p (core_of p s) all k r).applies ≡ (row17 p (core_of p s) k r).applies
  row17_with_lem r e =
      less-more (loads p (put (core_of p s).latest k r)) all (load p r) (load p ((core_of p s).latest k))
      (loads-put p (core_of p s).latest k r w ∙ ap (λ (n : ℕ). n + load p r) (sym e)) p.frame p.interrupt

  -- and by the cell of node k's latest accepted reservation and that of the new one
  pub row17-cells : (n b : ℕ) → b < half
      → ltb (p.frame + load p (share_of (get_or s (latest_cell k) 0))) (p.interrupt + (all + load p (share_of (share_code n b))))
      ≡ (row17_with p (core_of p s) all k (record { packets = n; bits = b })).applies
  row17-cells n b h =
      ap (λ (r : Share). ltb (p.frame + load p (share_of (get_or s (latest_cell k) 0))) (p.interrupt + (all + load p r))) (share_coded n b h)
      ∙ ap (λ (r : Share). ltb (p.frame + load p r) (p.interrupt + (all + load p (record { packets = n; bits = b })))) (sym (latest_cell_lem p s k w))
