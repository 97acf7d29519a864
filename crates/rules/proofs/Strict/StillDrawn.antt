-- A drawn plan is drawn with the line and without it: figures and drawing are the same, and only those are asked for.
use Prim.Native.Nat.{ℕ}
use mathlib.Core.Bool.{Bool}
use Rattle.rules.specs.Plan.{Plan, Port, node, empty, hub, with_strict}
use Rattle.rules.specs.Drawn.{Figures, Hung, Covers, Drawn}

module _ (b : Bool) (p : Plan) where
  still_hung : {g q h : ℕ} → Hung p g q h → Hung (with_strict b p) g q h
  still_hung at = record { number = at.number; below = at.below; parent = at.parent; place = at.place; level = at.level }

  still_covers : (above : ℕ → ℕ → ℕ) (g q : ℕ) (x : Port) → Covers p above g q x → Covers (with_strict b p) above g q x
  still_covers above g q (node k) c = c
  still_covers above g q empty c = c
  still_covers above g q (hub h) c = (still_hung c.0, c.1, c.2)

  still_figures : Figures p → Figures (with_strict b p)
  still_figures x =
      record {
        frame_low = x.frame_low;
        frame_up = x.frame_up;
        overhead_up = x.overhead_up;
        interrupt_low = x.interrupt_low;
        interrupt_up = x.interrupt_up;
      }

  pub still_drawn : Drawn p → Drawn (with_strict b p)
  still_drawn x =
      record {
        figures = still_figures x.figures;
        some_node = x.some_node;
        few_nodes = x.few_nodes;
        some_hub = x.some_hub;
        few_hubs = x.few_hubs;
        some_port = x.some_port;
        few_ports = x.few_ports;
        few_levels = x.few_levels;
        root_level = x.root_level;
        above = x.above;
        root_first = x.root_first;
        root_last = x.root_last;
        covers = λ g q v w. still_covers x.above g q (p.port g q) (x.covers g q v w);
        hung_parent = x.hung_parent;
        hung_place = x.hung_place;
        hung_port = x.hung_port;
      }
