-- The masks built anew, with shifts and ors of what the ports show: they are cleared, then comes
-- a pass over the nodes for their requests, and a pass over the hubs for their summaries.
use Rattle.std.specs.Prelude.{ℕ, zero, suc, min, Bool, true, false, List, leb, get_or, set}
use Rattle.rules.specs.Plan.{most_hubs}
use Rattle.ports.specs.Ports.{with_port, any_port}
use Rattle.ports.specs.Mask.{shows, mask_of}
use Rattle.plan_tree.specs.Tables as plan
use Rattle.cells.specs.Layout.{mask_cell, request_cell, if_hub}
use Rattle.cells.specs.Decode.{plan_in}
use Rattle.cells.specs.Masks.{stands}

-- hubs n to 1 show nothing
unfoldable pub clear_masks : ℕ → List ℕ → List ℕ
clear_masks zero s = s
clear_masks (suc n) s = clear_masks n (set (set s (mask_cell false (suc n)) 0) (mask_cell true (suc n)) 0)

-- port q of hub g shows what it showed, or b
unfoldable pub show_port : Bool → ℕ → ℕ → Bool → List ℕ → List ℕ
show_port is_high g q b s =
    if_hub g (set s (mask_cell is_high g) (mask_of (with_port (shows (get_or s (mask_cell is_high g) 0)) q b))) s

-- node k's port shows its request, if one stands, in its class: at a frame's start each
-- one counts, a high one too, since n is at least 1 and no high grant is counted yet
unfoldable pub show_request : List ℕ → ℕ → List ℕ → List ℕ
show_request P k s =
    let x = get_or s (request_cell k) 0 in
    show_port (leb 131072 x) (plan.hub_of_node P k) (plan.port_of_node P k) (stands x) s

-- nodes n to 1
unfoldable pub show_nodes : List ℕ → ℕ → List ℕ → List ℕ
show_nodes P zero s = s
show_nodes P (suc n) s = show_nodes P n (show_request P (suc n) s)

-- whether hub g shows a port of the class
abbrev pub summary : Bool → ℕ → List ℕ → Bool
summary is_high g s = any_port (shows (get_or s (mask_cell is_high g) 0))

-- hub g's port in its parent shows each class of which g shows a port; the root has no parent
unfoldable pub show_hub : List ℕ → ℕ → List ℕ → List ℕ
show_hub P g s =
    let parent = get_or P (plan.parent_cell g) 0 in
    let place = get_or P (plan.place_cell g) 0 in
    show_port true parent place (summary true g s) (show_port false parent place (summary false g s) s)

-- hubs n to 1: a hub's number is above its parent's, so what a hub shows is whole before it is handed up
unfoldable pub show_hubs : List ℕ → ℕ → List ℕ → List ℕ
show_hubs P zero s = s
show_hubs P (suc n) s = show_hubs P n (show_hub P (suc n) s)

-- how many hubs there are: no more than the table has cells for
abbrev pub hubs_in : List ℕ → ℕ
hubs_in P = min (plan_in P).hubs most_hubs

unfoldable pub build_masks : List ℕ → List ℕ → List ℕ
build_masks P s = show_hubs P (hubs_in P) (show_nodes P (plan_in P).nodes (clear_masks (hubs_in P) s))
