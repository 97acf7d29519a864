-- "A hub sees of each port only which classes count there": the masks are
-- kept, and a change at a node mends them from its hub up to the first
-- hub that shows something as before, or nothing as before.
use Rattle.std.specs.Prelude.{ℕ, zero, suc, ◌+◌, ◌-◌, Bool, true, false, ◌&&◌, ◌||◌, List, ltb, leb, get_or, set, if◌then◌else◌}
use Rattle.std.specs.Bool.{beq}
use Rattle.rules.specs.Plan.{most_levels}
use Rattle.rules.specs.Core.{is_class}
use Rattle.ports.specs.Ports.{put_port, any_port}
use Rattle.ports.specs.Mask.{shows, mask_of}
use Rattle.plan_tree.specs.Tables as plan
use Rattle.cells.specs.Layout.{standing_cell, mask_cell, request_cell, force_cell, granted_cell, class_of, if_hub, if_node, request_of, share_of}

-- a request's cell stands for a request of a class
abbrev pub stands_in : Bool → ℕ → Bool
stands_in is_high x = is_class (class_of is_high) (request_of x)

-- what a node's cells say of whether its request counts in a class: request, high grants in the frame, and reservation in force
abbrev pub counts_by : Bool → ℕ → ℕ → ℕ → Bool
counts_by false x granted force = stands_in false x
counts_by true x granted force = stands_in true x && ltb granted (share_of force).packets

abbrev pub counts_at : Bool → ℕ → List ℕ → Bool
counts_at is_high k s = counts_by is_high (get_or s (request_cell k) 0) (get_or s (granted_cell k) 0) (get_or s (force_cell k) 0)

-- the mask with one port's bit put
abbrev pub mask_with : ℕ → ℕ → Bool → ℕ
mask_with mask q b = mask_of (put_port (shows mask) q b)

-- both masks show some port, or neither does: a hub's parent sees the same of it
abbrev pub alike : ℕ → ℕ → Bool
alike old mask = beq (any_port (shows old)) (any_port (shows mask))

module _ (P : List ℕ) (is_high : Bool) where
  -- port q of hub g shows b: its bit is put. Where the hub shows something now and didn't before, or the other way
  -- round, its own bit in its parent is put too; else the parent's is right already. Up to the root, which has no parent
  unfoldable pub mend : ℕ → ℕ → ℕ → Bool → List ℕ → List ℕ
  mend zero g q b s = s
  mend (suc levels) g q b s =
      let old = get_or s (mask_cell is_high g) 0 in
      let mask = mask_with old q b in
      let left = set s (mask_cell is_high g) mask in
      if_hub g
      (if alike old mask then left
      else mend levels (get_or P (plan.parent_cell g) 0) (get_or P (plan.place_cell g) 0) (any_port (shows mask)) left)
      s

-- node k's bit in a class, by its request x, its high grants in the frame and its reservation in force
unfoldable pub mend_bit : List ℕ → Bool → ℕ → ℕ → List ℕ → List ℕ
mend_bit P is_high k x s =
    mend P is_high most_levels (plan.hub_of_node P k) (plan.port_of_node P k)
    (counts_by is_high x (get_or s (granted_cell k) 0) (get_or s (force_cell k) 0)) s

-- the same where x comes in place of `old`: only in a class that one of the two stands in. In another nothing counted, and nothing counts
unfoldable pub mend_class : List ℕ → Bool → ℕ → ℕ → ℕ → List ℕ → List ℕ
mend_class P is_high k old x s = if stands_in is_high x || stands_in is_high old then mend_bit P is_high k x s else s

-- a request's cell stands for a request
abbrev pub stands : ℕ → Bool
stands x = leb 65536 x

-- the number of standing requests where one cell changes from `old` to `new`; it is at most the number of nodes
abbrev pub standing_after : ℕ → ℕ → ℕ → ℕ
standing_after n old new =
    if stands old then (if stands new then n else n - 1)
    else (if stands new then (if ltb n 256 then n + 1 else n) else n)

-- node k's request becomes x
unfoldable pub put_request : List ℕ → ℕ → ℕ → List ℕ → List ℕ
put_request P k x s =
    let old = get_or s (request_cell k) 0 in
    let left = set (set s standing_cell (standing_after (get_or s standing_cell 0) old x)) (request_cell k) x in
    if_node k (mend_class P true k old x (mend_class P false k old x left)) s

-- one high grant more; a count that no reservation allows stays
abbrev pub granted_more : Bool → ℕ → ℕ
granted_more false n = n
granted_more true n = if ltb n 65535 then n + 1 else n

-- node k is granted in a class: its request is removed
unfoldable pub grant_node : List ℕ → Bool → ℕ → List ℕ → List ℕ
grant_node P is_high k s =
    if_node k (put_request P k 0 (set s (granted_cell k) (granted_more is_high (get_or s (granted_cell k) 0)))) s
