-- A plan's tables as cells of 32 bits: where each hub's and each node's numbers stand, and what is stored as the tree is read.
use Rattle.std.specs.Prelude.{ℕ, ◌+◌, ◌-◌, ◌*◌, Bool, true, false, List, [], ◌∷◌, eqb, leb, get_or, set, replicate, if◌then◌else◌}
use Rattle.rules.specs.Plan as rules

-- Cells 0 to 7 are the figures', which `plan` names. Each hub has 36 cells: how many ports it has,
-- its parent, the port there, its level, and its 32 ports. Each node has 2: its hub and its port.
abbrev pub cells : ℕ
cells = 1672

abbrev pub hub_cell : ℕ → ℕ → ℕ
hub_cell g i = 8 + (g - 1) * 36 + i

abbrev pub ports_cell : ℕ → ℕ
ports_cell g = hub_cell g 0

abbrev pub parent_cell : ℕ → ℕ
parent_cell g = hub_cell g 1

abbrev pub place_cell : ℕ → ℕ
place_cell g = hub_cell g 2

abbrev pub level_cell : ℕ → ℕ
level_cell g = hub_cell g 3

abbrev pub port_cell : ℕ → ℕ → ℕ
port_cell g q = hub_cell g (3 + q)

abbrev pub node_cell : ℕ → ℕ → ℕ
node_cell k i = 1160 + (k - 1) * 2 + i

abbrev pub hub_of_node_cell : ℕ → ℕ
hub_of_node_cell k = node_cell k 0

abbrev pub port_of_node_cell : ℕ → ℕ
port_of_node_cell k = node_cell k 1

-- a port's cell: 0 is empty, 1 to 256 is that node, 256 + g is hub g
abbrev pub hub_code : ℕ
hub_code = 256

abbrev pub port_of : ℕ → rules.Port
port_of x = if eqb x 0 then rules.empty else (if leb x hub_code then rules.node x else rules.hub (x - hub_code))

abbrev pub no_table : List ℕ
no_table = replicate cells 0

-- port q of hub g is empty
unfoldable pub put_empty : ℕ → ℕ → List ℕ → List ℕ
put_empty g q s = set s (port_cell g q) 0

-- port q of hub g is node k
unfoldable pub put_node : ℕ → ℕ → ℕ → List ℕ → List ℕ
put_node g q k s = set (set (set s (port_cell g q) k) (hub_of_node_cell k) g) (port_of_node_cell k) q

-- port q of hub g is hub h, of a level
unfoldable pub put_hub : ℕ → ℕ → ℕ → ℕ → List ℕ → List ℕ
put_hub g q h level s =
    set (set (set (set s (port_cell g q) (hub_code + h)) (parent_cell h) g) (place_cell h) q) (level_cell h) level

-- hub g has q ports
unfoldable pub put_ports : ℕ → ℕ → List ℕ → List ℕ
put_ports g q s = set s (ports_cell g) q

-- the root is of level 1 and has no parent
unfoldable pub put_root : List ℕ → List ℕ
put_root s = set s (level_cell 1) 1

-- the hub and the port of node k
abbrev pub hub_of_node : List ℕ → ℕ → ℕ
hub_of_node s k = get_or s (hub_of_node_cell k) 0

abbrev pub port_of_node : List ℕ → ℕ → ℕ
port_of_node s k = get_or s (port_of_node_cell k) 0
