-- The mask cells that a change at one node writes, and those that a frame's start writes.
use Prim.Native.Nat.{ℕ, zero, suc, ◌+◌, ◌-◌, ◌*◌, ◌≤◌}
use mathlib.Core.Path.{◌≡◌, refl, sym, ap, ◌∙◌}
use mathlib.Core.Bool.{Bool, true, false, ◌||◌}
use mathlib.Core.List.{List}
use mathlib.Core.Logic.{⊎_elim}
use native.Mathlib.Omega.{arith}
use native.Mathlib.Nat.{eq-or-lt_of_le, min-le_left}
use lib.Dec.{ltb}
use lib.ListN.{get_or, set}
use borrow.Author.Tests.{le-ltb}
use Rattle.std.specs.Prelude.{if◌then◌else◌}
use Rattle.rules.specs.Plan.{Plan, most_levels, most_hubs, levels}
use Rattle.rules.specs.Drawn.{Drawn, Within}
use Rattle.rules.proofs.Laws.Passes.{Which, which, yes', no', true-false}
use Rattle.rules.proofs.Control.Cover.{hangs}
use Rattle.rules.proofs.Control.Levels.{level_up}
use Rattle.rules.proofs.Control.Nearest.{level_low}
use Rattle.ports.specs.Ports.{any_port}
use Rattle.ports.specs.Mask.{shows}
use Rattle.plan_tree.specs.Tables as plan
use Rattle.plan.specs.Tables.{plan_of}
use Rattle.cells.specs.Layout.{standing_cell, mask_cell, request_cell, force_cell, granted_cell}
use Rattle.cells.specs.Decode.{plan_in}
use Rattle.cells.specs.Masks.{stands_in, counts_by, mask_with, alike, mend_class, standing_after, granted_more}
use Rattle.cells.specs.Build.{hubs_in}
use Rattle.cells.specs.Written.{mend_writes, mend_bit_writes, mend_class_writes, put_request_writes, grant_node_writes, clear_writes, show_port_writes, show_nodes_writes, show_hub_writes, show_hubs_writes, build_writes}
use Rattle.refinement.specs.Kept.{Ready}
use Rattle.refinement.specs.Written.{most_at_start}

-- a hub's mask is one cell
port_few : (g : ℕ) → show_port_writes g ≤ 1
port_few g = go (which (ltb g 1)) (which (ltb 32 g))
  where
    go : Which (ltb g 1) → Which (ltb 32 g) → show_port_writes g ≤ 1
    go (yes' e) t = rw e (omega arith)
    go (no' e) (yes' h) = rw (e, h) (omega arith)
    go (no' e) (no' h) = rw (e, h) (omega arith)

-- a request's cell stands in one class at most
one_class : (x : ℕ) → stands_in true x ≡ true → stands_in false x ≡ false
one_class x e = go (which (ltb x 65536)) (which (ltb x 131072))
  where
    go : Which (ltb x 65536) → Which (ltb x 131072) → stands_in false x ≡ false
    go (yes' l) t = rw l
    go (no' l) (yes' h) = absurd (true-false e (rw (l, h)))
    go (no' l) (no' h) = rw (l, h)

module _ (P : List ℕ) (R : Ready P) where
  abbrev p : Plan
  p = plan_in P

  abbrev D : Drawn p
  D = R.drawn

  -- nothing is mended above the root
  mend_none : (is_high : Bool) (levels q : ℕ) (b : Bool) (s : List ℕ) → mend_writes P is_high levels 0 q b s ≡ 0
  unfolding mend_writes
  mend_none is_high zero q b s = refl
  mend_none is_high (suc levels) q b s = refl

  FewAt : Bool → ℕ → Type 0
  FewAt is_high levels = (g q : ℕ) (b : Bool) (s : List ℕ) → Within p.hubs g → mend_writes P is_high levels g q b s ≤ p.level g

  -- the climb goes up one level with each mask
  one_up : (is_high : Bool) (levels g q : ℕ) (b : Bool) (s : List ℕ) → Within p.hubs g → FewAt is_high levels
      → mend_writes P is_high levels (p.parent g) q b s + 1 ≤ p.level g
  unfolding FewAt plan_of
  one_up is_high levels g q b s w onward =
      ⊎_elim at_root (λ l. omega (arith, onward (p.parent g) q b s (D.hung_parent g l w.up), (hangs p D g l w.up).hung.level))
      (eq-or-lt_of_le w.low)
    where
      low : 1 ≤ p.level g
      low = level_low p D g w

      at_root : 1 ≡ g → mend_writes P is_high levels (p.parent g) q b s + 1 ≤ p.level g
      at_root e =
          let none : p.parent g ≡ 0 = ap p.parent (sym e) ∙ R.root_parent in
          rw (none, mend_none is_high levels q b s) low

  mend_few : (is_high : Bool) (levels : ℕ) → FewAt is_high levels
  unfolding FewAt mend_writes plan_of
  mend_few is_high zero g q b s w = omega arith
  mend_few is_high (suc levels) g q b s w =
      rw (le-ltb g 1 w.low, le-ltb 32 g (omega (arith, w.up, D.few_hubs)))
      (go (which (alike old mask)) (one_up is_high levels g (p.place g) (any_port (shows mask)) (set s (mask_cell is_high g) mask) w (mend_few is_high levels)))
    where
      old : ℕ
      old = get_or s (mask_cell is_high g) 0

      mask : ℕ
      mask = mask_with old q b

      go : {n : ℕ} → Which (alike old mask) → n ≤ p.level g → (if alike old mask then 1 else n) ≤ p.level g
      go (yes' e) l = rw e (omega (arith, level_low p D g w))
      go (no' e) l = rw e l

  -- a change at node k
  module _ (k : ℕ) (w : Within p.nodes k) where
    class_few : (is_high : Bool) (old x : ℕ) (s : List ℕ) → mend_class_writes P is_high k old x s ≤ levels p
    unfolding mend_class_writes mend_bit_writes FewAt
    class_few is_high old x s = go (which (stands_in is_high x || stands_in is_high old))
      where
        go : Which (stands_in is_high x || stands_in is_high old)
            → (if stands_in is_high x || stands_in is_high old then mend_bit_writes P is_high k x s else 0) ≤ levels p
        go (yes' e) =
            rw e
            (omega (
              arith,
              level_up p D (plan.hub_of_node P k) (R.node_port k w).hub,
              mend_few is_high most_levels (plan.hub_of_node P k) (plan.port_of_node P k)
                  (counts_by is_high x (get_or s (granted_cell k) 0) (get_or s (force_cell k) 0)) s (R.node_port k w).hub,
            ))
        go (no' e) = rw e (omega arith)

    -- of any request that comes
    pub request_few : (x : ℕ) (s : List ℕ) → put_request_writes P k x s ≤ 2 * levels p
    unfolding put_request_writes
    request_few x s =
        let old = get_or s (request_cell k) 0 in
        let left = set (set s standing_cell (standing_after (get_or s standing_cell 0) old x)) (request_cell k) x in
        rw (le-ltb k 1 w.low, le-ltb 256 k (omega (arith, w.up, D.few_nodes)))
        (omega (arith, class_few true old x (mend_class P false k old x left), class_few false old x left))

    -- nothing is mended in a class that the removed request didn't stand in
    other_class : (is_high : Bool) (old : ℕ) (s : List ℕ) → stands_in is_high old ≡ false → mend_class_writes P is_high k old 0 s ≡ 0
    unfolding mend_class_writes
    other_class true old s e = rw e
    other_class false old s e = rw e

    pub removal_few : (s : List ℕ) → put_request_writes P k 0 s ≤ levels p
    unfolding put_request_writes
    removal_few s =
        rw (le-ltb k 1 w.low, le-ltb 256 k (omega (arith, w.up, D.few_nodes))) (go (which (stands_in true old)))
      where
        old : ℕ
        old = get_or s (request_cell k) 0

        left : List ℕ
        left = set (set s standing_cell (standing_after (get_or s standing_cell 0) old 0)) (request_cell k) 0

        go : Which (stands_in true old) → mend_class_writes P true k old 0 (mend_class P false k old 0 left) + mend_class_writes P false k old 0 left ≤ levels p
        go (yes' e) = omega (arith, class_few true old 0 (mend_class P false k old 0 left), other_class false old left (one_class old e))
        go (no' e) = omega (arith, other_class true old (mend_class P false k old 0 left) e, class_few false old 0 left)

    pub grant_few : (is_high : Bool) (s : List ℕ) → grant_node_writes P is_high k s ≤ levels p
    unfolding grant_node_writes
    grant_few is_high s =
        rw (le-ltb k 1 w.low, le-ltb 256 k (omega (arith, w.up, D.few_nodes)))
        (removal_few (set s (granted_cell k) (granted_more is_high (get_or s (granted_cell k) 0))))

  -- a frame's start
  clear_is : (n : ℕ) → clear_writes n ≡ 2 * n
  unfolding clear_writes
  clear_is zero = refl
  clear_is (suc n) = omega (arith, clear_is n)

  nodes_few : (n : ℕ) → show_nodes_writes P n ≤ n
  unfolding show_nodes_writes
  nodes_few zero = omega arith
  nodes_few (suc n) = omega (arith, nodes_few n, port_few (plan.hub_of_node P (suc n)))

  -- the root has no parent
  hubs_few : (n : ℕ) → show_hubs_writes P n ≤ 2 * (n - 1)
  unfolding show_hubs_writes show_hub_writes
  hubs_few zero = omega arith
  hubs_few (suc zero) = rw R.root_parent (omega arith)
  hubs_few (suc (suc n)) = omega (arith, hubs_few (suc n), port_few (get_or P (plan.parent_cell (suc (suc n))) 0))

  pub build_few : build_writes P ≤ most_at_start p
  unfolding build_writes
  build_few = omega (arith, min-le_left p.hubs most_hubs, hubs_few (hubs_in P), nodes_few p.nodes, clear_is (hubs_in P))
