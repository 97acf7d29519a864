-- What holds of a cascade's cells at every place of a run, beside the hub that
-- they are: the masks are right, and so is the number of standing requests.
use Rattle.std.specs.Prelude.{ℕ, ◌≤◌, ◌≡◌, Bool, true, ◌&&◌, List, leb, length, get_or}
use Rattle.rules.specs.Choice.{sum}
use Rattle.rules.specs.Plan.{Plan, node}
use Rattle.rules.specs.Drawn.{Drawn, Within}
use Rattle.rules.specs.Core.{counts_in}
use Rattle.rules.specs.Control.{shows}
use Rattle.ports.specs.Mask.{mask_of, digit}
use Rattle.plan_tree.specs.Tables as plan
use Rattle.plan_tree.specs.Tables.{hub_of_node, port_of_node}
use Rattle.plan_theory.specs.Taken.{Holds}
use Rattle.cells.specs.Layout.{cells, standing_cell, holder_cell, class_cell, mask_cell, pointer_cell, request_cell, class_of}
use Rattle.cells.specs.Decode.{plan_in, core_of}
use Rattle.cells.specs.Masks.{stands_in, stands}

-- what the theorems ask of a plan's cells: they are a drawn plan's, the root
-- has no parent, and a node's own cells name the one port that holds it
pub record Ready (P : List ℕ) : Type 0 where
  pub drawn : Drawn (plan_in P)
  pub root_parent : get_or P (plan.parent_cell 1) 0 ≡ 0
  pub node_port : (k : ℕ) → Within (plan_in P).nodes k → Holds (plan_in P) (node k) (hub_of_node P k) (port_of_node P k)
  pub one_port : (k g q : ℕ) → Holds (plan_in P) (node k) g q → (hub_of_node P k ≡ g) × (port_of_node P k ≡ q)

-- which nodes count in a class
abbrev pub counts_of : Plan → Bool → List ℕ → ℕ → Bool
counts_of p is_high s = counts_in (class_of is_high) (core_of p s)

-- what hub g sees at its ports; there is nothing behind the last one
abbrev pub seen_at : Plan → (ℕ → Bool) → ℕ → ℕ → Bool
seen_at p f g q = leb q (p.ports g) && shows p f g q

-- each hub's mask of a class shows what the hub sees
abbrev pub MasksRight : Plan → Bool → (ℕ → Bool) → List ℕ → Type 0
MasksRight p is_high f s = (g : ℕ) → Within p.hubs g → get_or s (mask_cell is_high g) 0 ≡ mask_of (seen_at p f g)

-- how many of nodes 1 to n have a standing request
abbrev pub standing_in : ℕ → List ℕ → ℕ
standing_in n s = sum n (λ k. digit (stands (get_or s (request_cell k) 0)))

-- a pointer's cell names port 1 to 33, one past the last of 32
pub record Pointing (x : ℕ) : Type 0 where
  pub low : 2 ≤ x
  pub up : x ≤ 67

pub record Kept (p : Plan) (s : List ℕ) : Type 0 where
  pub size : length s ≡ cells
  pub masks : (is_high : Bool) → MasksRight p is_high (counts_of p is_high s) s
  pub standing : get_or s standing_cell 0 ≡ standing_in p.nodes s
  pub holder : Within p.hubs (get_or s holder_cell 0)
  pub class : get_or s class_cell 0 ≤ 1
  pub pointers : (is_high : Bool) (g : ℕ) → Within p.hubs g → Pointing (get_or s (pointer_cell is_high g) 0)

-- i is no mask's cell
abbrev pub NoMask : ℕ → Type 0
NoMask i = (is_high : Bool) (g : ℕ) → Within 32 g → i ≡ mask_cell is_high g → ⊥

-- the same cells but for the masks
abbrev pub SameButMasks : List ℕ → List ℕ → Type 0
SameButMasks s r = (i : ℕ) → NoMask i → get_or r i 0 ≡ get_or s i 0

-- the masks are right for what counts, but perhaps for node k: they are for what counted earlier, when its request was `old`
pub record RightBut (p : Plan) (k old : ℕ) (is_high : Bool) (s : List ℕ) : Type 0 where
  pub earlier : ℕ → Bool
  pub own : earlier k ≡ true → stands_in is_high old ≡ true
  pub others : (j : ℕ) → (j ≡ k → ⊥) → counts_of p is_high s j ≡ earlier j
  pub masks : MasksRight p is_high earlier s

-- the masks are mended: those of s, whose other cells stand in r too
pub record Mended (p : Plan) (s r : List ℕ) : Type 0 where
  pub size : length r ≡ cells
  pub same : SameButMasks s r
  pub masks : (is_high : Bool) → MasksRight p is_high (counts_of p is_high s) r
