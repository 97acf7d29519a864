-- The hub reader and the port reader, which call each other, with levels and lines left falling.
-- They read what `hub_lines` of `plan`'s Reading reads; that is proved there. `levels` is how many
-- levels may still stand below the hub being read, `left` bounds the lines that are left.
use Rattle.std.specs.Prelude.{ℕ, zero, suc, ◌+◌, ◌-◌, Bool, true, false, ◌||◌, List, [], ◌∷◌, eqb, leb, if◌then◌else◌}
use Rattle.rules.specs.Plan.{most_hubs, most_ports, most_nodes, most_levels}
use Rattle.text.specs.Line.{next_line}
use Rattle.text.specs.declared.Cursor.{Cursor}
use Rattle.text.specs.declared.Next.{Next}
use Rattle.plan_tree.specs.declared.Kind.{Kind}
use Rattle.plan_tree.specs.declared.Kind.TheVariants.{Close, Node, Empty, Hub, Other}
use Rattle.plan_tree.specs.declared.Place.{Place}
use Rattle.plan_tree.specs.Part.{Part, Read, Stopped, Found, Whole, Missing, found}
use Rattle.plan_tree.specs.Kind.{kind_of}
use Rattle.plan_tree.specs.Tables.{put_empty, put_node, put_hub, put_ports, put_root}

-- what a reader answers, and the tables that it leaves
pub record Answered : Type 0 where
  pub part : Part
  pub tables : List ℕ

abbrev pub stop : ℕ → ℕ → List ℕ → Answered
stop line number s = record { part = Stopped line number; tables = s }

abbrev pub read : Place → List ℕ → Answered
read x s = record { part = Read x; tables = s }

abbrev pub cursor : Place → Cursor
cursor x = record { at = x.at; number = x.number }

-- the place with its cursor moved
abbrev pub moved : Cursor → Place → Place
moved c x = record { at = c.at; number = c.number; nodes = x.nodes; hubs = x.hubs }

abbrev pub with_node : Place → Place
with_node x = record { at = x.at; number = x.number; nodes = x.nodes + 1; hubs = x.hubs }

abbrev pub with_hub : Place → Place
with_hub x = record { at = x.at; number = x.number; nodes = x.nodes; hubs = x.hubs + 1 }

-- port q + 1 of hub g is a node, or empty
abbrev pub node_port : ℕ → Place → ℕ → ℕ → List ℕ → Answered
node_port line x g q s =
    if leb most_ports q || leb most_nodes x.nodes then stop line 3 s
    else read (with_node x) (put_node g (q + 1) (x.nodes + 1) s)

abbrev pub empty_port : ℕ → Place → ℕ → ℕ → List ℕ → Answered
empty_port line x g q s = if leb most_ports q then stop line 3 s else read x (put_empty g (q + 1) s)

-- the line that closes hub g, which has q ports
abbrev pub closing : ℕ → Place → ℕ → ℕ → List ℕ → Answered
closing line x g q s = if eqb q 0 then stop line 3 s else read x (put_ports g q s)

-- the port reader: port q + 1 of hub g, by the kind of its line; `inner` reads the hub that it may hold
abbrev pub port_by : (Place → ℕ → ℕ → List ℕ → Answered) → Kind → ℕ → Place → ℕ → ℕ → ℕ → List ℕ → Answered
port_by inner Close line x g q levels s = stop line 1 s
port_by inner Node line x g q levels s = node_port line x g q s
port_by inner Empty line x g q levels s = empty_port line x g q s
port_by inner Hub line x g q levels s =
    if leb most_ports q || leb most_hubs x.hubs || eqb levels 0 then stop line 3 s
    else inner (with_hub x) (x.hubs + 1) (levels - 1) (put_hub g (q + 1) (x.hubs + 1) (most_levels + 1 - levels) s)
port_by inner Other line x g q levels s = stop line 1 s

-- the hub reader behind one port: the next one, unless the port reader stopped
abbrev pub behind_port : (Place → List ℕ → Answered) → Answered → Answered
behind_port more d = elim d.part [ Read x ↦ more x d.tables | Stopped line number ↦ d ]

abbrev pub is_close : Kind → Bool
is_close Close = true
is_close Node = false
is_close Empty = false
is_close Hub = false
is_close Other = false

abbrev pub on_kind : (Place → ℕ → ℕ → List ℕ → Answered) → (Place → List ℕ → Answered) → Kind → ℕ → Place → ℕ → ℕ → ℕ → List ℕ → Answered
on_kind inner more kind line x g q levels s =
    if is_close kind then closing line x g q s
    else behind_port more (port_by inner kind line x g q levels s)

abbrev pub on_line : (Place → ℕ → ℕ → List ℕ → Answered) → (Place → List ℕ → Answered) → Found → Place → ℕ → ℕ → ℕ → List ℕ → Answered
on_line inner more (Whole bytes number next) x g q levels s = on_kind inner more (kind_of bytes) number (moved next x) g q levels s
on_line inner more (Missing line number) x g q levels s = stop line number s

module _ (text : List ℕ) where
  abbrev pub on_next : (Place → ℕ → ℕ → List ℕ → Answered) → (Place → List ℕ → Answered) → Next → Place → ℕ → ℕ → ℕ → List ℕ → Answered
  on_next inner more next x g q levels s = on_line inner more (found text next) x g q levels s

  -- the ports of hub g behind port q, up to the line that closes it
  unfoldable pub hub_reader : ℕ → Place → ℕ → ℕ → ℕ → List ℕ → Answered
  hub_reader zero x g q levels s = stop x.number 1 s
  hub_reader (suc left) x g q levels s =
      on_next (λ y h below t. hub_reader left y h 0 below t) (λ y t. hub_reader left y g (q + 1) levels t)
      (next_line text (cursor x)) x g q levels s

  abbrev pub port_reader : ℕ → Kind → ℕ → Place → ℕ → ℕ → ℕ → List ℕ → Answered
  port_reader left kind line x g q levels s = port_by (λ y h below t. hub_reader left y h 0 below t) kind line x g q levels s

  -- the root hub, behind its `(hub`: it is hub 1, and 4 levels may stand below it
  abbrev pub root_reader : ℕ → Place → List ℕ → Answered
  root_reader left x s = hub_reader left x 1 0 4 (put_root s)
