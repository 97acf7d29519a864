-- The hub of `rules` that a plan's cells and a cascade's cells are.
use Rattle.std.specs.Prelude.{ℕ, ◌-◌, min, Bool, true, false, ◌&&◌, List, leb, eqb, get_or, if◌then◌else◌}
use Rattle.rules.specs.Plan.{Plan, most_nodes}
use Rattle.rules.specs.Call.{Class, normal, high}
use Rattle.rules.specs.Core.{Core, none, nothing_reserved, Line, resting, busy}
use Rattle.rules.specs.Machine.{Hub}
use Rattle.rules.specs.Control.{Control, at_port}
use Rattle.plan.specs.Tables.{plan_of}
use Rattle.cells.specs.Layout.{time_at, clock_cell, end_cell, busy_cell, holder_cell, class_cell, request_cell, force_cell, latest_cell, granted_cell, pointer_cell, class_of, request_of, share_of, pointer_of}

-- a plan with no more nodes than the table has cells for: of a plan that was taken, the plan itself
abbrev pub bounded : Plan → Plan
bounded p =
    record {
      frame = p.frame;
      overhead = p.overhead;
      interrupt = p.interrupt;
      framing = p.framing;
      strict = p.strict;
      nodes = min p.nodes most_nodes;
      hubs = p.hubs;
      ports = p.ports;
      port = p.port;
      parent = p.parent;
      place = p.place;
      level = p.level;
    }

abbrev pub plan_in : List ℕ → Plan
plan_in P = bounded (plan_of P)

abbrev pub is_node : Plan → ℕ → Bool
is_node p k = leb 1 k && leb k p.nodes

abbrev pub is_hub : Plan → ℕ → Bool
is_hub p g = leb 1 g && leb g p.hubs

abbrev pub line_of : List ℕ → Line
line_of s = if eqb (get_or s busy_cell 0) 0 then resting else busy (time_at s end_cell)

unfoldable pub core_of : Plan → List ℕ → Core
core_of p s =
    record {
      clock = time_at s clock_cell;
      line = line_of s;
      request = λ k. (if is_node p k then request_of (get_or s (request_cell k) 0) else none);
      force = λ k. (if is_node p k then share_of (get_or s (force_cell k) 0) else nothing_reserved);
      latest = λ k. (if is_node p k then share_of (get_or s (latest_cell k) 0) else nothing_reserved);
      granted = λ k. (if is_node p k then get_or s (granted_cell k) 0 else 0);
    }

abbrev pub is_class_high : Class → Bool
is_class_high normal = false
is_class_high high = true

unfoldable pub control_of : Plan → List ℕ → Control
control_of p s =
    record {
      holder = get_or s holder_cell 0;
      latest = class_of (eqb (get_or s class_cell 0) 1);
      pointer = λ c g. (if is_hub p g then pointer_of (get_or s (pointer_cell (is_class_high c) g) 0) else at_port 1);
    }

abbrev pub hub_of : Plan → List ℕ → Hub Control
hub_of p s = record { core = core_of p s; turn = control_of p s }
