-- Regions of cells, named by what their cells are not: the cells that a filling
-- may still touch. And which of them the cells of a hub and of a node lie in:
-- cells of different addresses are different, and all lie behind the figures.
use Prim.Native.Nat.{ℕ, ◌+◌, ◌≤◌, ◌<◌}
use mathlib.Core.Path.{◌≡◌}
use native.Mathlib.Omega.{arith}
use Rattle.plan_tree.specs.Tables.{hub_cell, port_cell, node_cell, ports_cell}

-- no cell of a hub behind H or of a node behind N
pub record Later (N H a : ℕ) : Type 0 where
  pub hubs : (g i : ℕ) → H < g → g ≤ 32 → i < 36 → a ≡ hub_cell g i → ⊥
  pub nodes : (k i : ℕ) → N < k → k ≤ 256 → i < 2 → a ≡ node_cell k i → ⊥

-- not the cell of hub g's number of ports, and none of its ports behind port q
pub record Own (g q a : ℕ) : Type 0 where
  pub count : a ≡ ports_cell g → ⊥
  pub ports : (r : ℕ) → q < r → r ≤ 32 → a ≡ port_cell g r → ⊥

-- no figure, and no cell of a hub before hub g
pub record Lower (g a : ℕ) : Type 0 where
  pub figures : 8 ≤ a
  pub hubs : (h i : ℕ) → 1 ≤ h → h < g → i < 36 → a ≡ hub_cell h i → ⊥

pub hub_later : (N H g i : ℕ) → 1 ≤ g → g ≤ H → g ≤ 32 → i < 36 → Later N H (hub_cell g i)
hub_later N H g i low up top j = record { hubs = λ h k b c d e. omega arith; nodes = λ m k b c d e. omega arith }

pub node_later : (N H k i : ℕ) → 1 ≤ k → k ≤ N → i < 2 → Later N H (node_cell k i)
node_later N H k i low up j = record { hubs = λ h m b c d e. omega arith; nodes = λ m n b c d e. omega arith }

pub port_own : (g q r : ℕ) → r ≤ q → 1 ≤ r → Own g q (port_cell g r)
port_own g q r up low = record { count = λ e. omega arith; ports = λ p b c e. omega arith }

pub head_own : (g q i : ℕ) → 1 ≤ i → i ≤ 3 → Own g q (hub_cell g i)
head_own g q i low up = record { count = λ e. omega arith; ports = λ p b c e. omega arith }

pub hub_own : (g q h i : ℕ) → 1 ≤ g → 1 ≤ h → (h ≡ g → ⊥) → i < 36 → Own g q (hub_cell h i)
hub_own g q h i low some d j = record { count = λ e. d (omega arith); ports = λ p b c e. d (omega arith) }

pub node_own : (g q k i : ℕ) → 1 ≤ g → g ≤ 32 → Own g q (node_cell k i)
node_own g q k i low up = record { count = λ e. omega arith; ports = λ p b c e. omega arith }

pub hub_lower : (g h i : ℕ) → g ≤ h → Lower g (hub_cell h i)
hub_lower g h i up = record { figures = omega arith; hubs = λ m j b c d e. omega arith }

pub node_lower : (g k i : ℕ) → g ≤ 32 → Lower g (node_cell k i)
node_lower g k i up = record { figures = omega arith; hubs = λ m j b c d e. omega arith }

-- what lies behind hub h lies behind each hub before it, and is none of that hub's own
pub lower_before : {g h a : ℕ} → g ≤ h → Lower h a → Lower g a
lower_before up f = record { figures = f.figures; hubs = λ m j b c. f.hubs m j b (omega arith) }

pub lower_own : {g h a : ℕ} (q : ℕ) → 1 ≤ g → g < h → Lower h a → Own g q a
lower_own {g} q low up f =
    record {
      count = f.hubs g 0 low up (omega arith);
      ports = λ r b c. f.hubs g (3 + r) low up (omega arith);
    }

-- a region only grows as the filling goes on
pub later_more : {N H M J a : ℕ} → Later N H a → N ≤ M → H ≤ J → Later M J a
later_more f m j =
    record {
      hubs = λ g i b. f.hubs g i (omega arith);
      nodes = λ k i b. f.nodes k i (omega arith);
    }

pub own_more : {g q a : ℕ} → Own g q a → Own g (q + 1) a
own_more f = record { count = f.count; ports = λ r b. f.ports r (omega arith) }

pub own_new : {N H a : ℕ} → Later N H a → H < 32 → Own (H + 1) 0 a
own_new {N} {H} f b =
    record {
      count = f.hubs (H + 1) 0 (omega arith) (omega arith) (omega arith);
      ports = λ r c d. f.hubs (H + 1) (3 + r) (omega arith) (omega arith) (omega arith);
    }
