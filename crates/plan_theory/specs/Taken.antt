-- What it means that a text is taken for a tree: the words of the theorems about reading.
use Rattle.std.specs.Prelude.{ℕ, ◌+◌, ◌<◌, ◌^◌, ◌≡◌, true, List, drop}
use Rattle.rules.specs.Plan as rules
use Rattle.rules.specs.Drawn.{Drawn, Within}
use Rattle.text.specs.Line.{Lines, lines}
use Rattle.plan.specs.Answer.{Taken, Refused}
use Rattle.plan.specs.Tables.{Figures, plan_of}
use Rattle.plan_tree.specs.Tables.{hub_of_node, port_of_node}
use Rattle.plan.specs.Reading.{reading}
use Rattle.plan_theory.specs.Tree.{Header, figures_of, Port, node, empty, hub, Hub, close, port, draw, nodes_at, nodes_in, hubs_at, hubs_in, limits, good_figures, good_framing, tables_of}
use Rattle.plan_theory.specs.Behind.{lines_of, past}

-- a text starts with the drawing of a tree within the limits, behind good figures and a framing that there is, whatever follows it
pub record DrawnBy (text : List ℕ) : Type 0 where
  pub fig : Header
  pub tree : Hub
  pub rest : Lines
  pub good : good_figures (figures_of fig) ≡ true
  pub framed : good_framing (figures_of fig) ≡ true
  pub within : limits tree ≡ true
  pub drawn : lines text ≡ draw fig tree rest

-- the text is taken with these numbers of nodes and hubs, and the events start at this place and line
abbrev pub TakenAs : List ℕ → ℕ → ℕ → ℕ → ℕ → Type 0
TakenAs text nodes hubs at line = (reading text).answer ≡ Taken nodes hubs at line

abbrev pub RefusedAt : List ℕ → ℕ → ℕ → Type 0
RefusedAt text line number = (reading text).answer ≡ Refused line number

-- the plan that the cells are has these figures
pub record FiguresTold (p : rules.Plan) (fig : Figures) : Type 0 where
  pub frame : p.frame ≡ fig.frame
  pub overhead : p.overhead ≡ fig.overhead
  pub interrupt : p.interrupt ≡ fig.interrupt
  pub framing : p.framing ≡ fig.framing
  pub strict : p.strict ≡ fig.strict

-- The plan has the tree's ports, numbered in line order: at port q of hub g what is drawn there, behind n nodes and
-- h hubs; and at the ports of hub g behind port q what is drawn there, which are its last.
unfoldable mutual
  pub PortTold : rules.Plan → Port → ℕ → ℕ → ℕ → ℕ → Type 0
  PortTold p node g q n h = p.port g q ≡ rules.node (n + 1)
  PortTold p empty g q n h = p.port g q ≡ rules.empty
  PortTold p (hub x) g q n h = (p.port g q ≡ rules.hub (h + 1)) × HubTold p x (h + 1) 0 n (h + 1)

  pub HubTold : rules.Plan → Hub → ℕ → ℕ → ℕ → ℕ → Type 0
  HubTold p close g q n h = p.ports g ≡ q
  HubTold p (port x y) g q n h = PortTold p x g (q + 1) n h × HubTold p y g (q + 1) (n + nodes_at x) (h + hubs_at x)

-- the text is taken for this tree and the figures that its header's lines draw (framing 3, and not strict, without those lines);
-- `rest` is what stands behind it
pub record TakenFor (text : List ℕ) (fig : Header) (h : Hub) (rest : Lines) : Type 0 where
  pub answer : TakenAs text (nodes_in h) (hubs_in h) (past fig h).at (past fig h).number
  pub tables : (reading text).tables ≡ tables_of (figures_of fig) h
  pub figures : FiguresTold (plan_of (reading text).tables) (figures_of fig)
  pub ports : HubTold (plan_of (reading text).tables) h 1 0 0 1
  pub behind : lines (drop (past fig h).at text) ≡ rest
  pub number : 1 + lines_of fig h < 2 ^ 64 → (past fig h).number ≡ 1 + lines_of fig h

-- the numbers and the tables that a text is taken with are those of the tree that it draws
pub record OfTree (text : List ℕ) (nodes hubs at line : ℕ) (d : DrawnBy text) : Type 0 where
  pub same_nodes : nodes ≡ nodes_in d.tree
  pub same_hubs : hubs ≡ hubs_in d.tree
  pub same_place : at ≡ (past d.fig d.tree).at
  pub same_line : line ≡ (past d.fig d.tree).number
  pub same_tables : (reading text).tables ≡ tables_of (figures_of d.fig) d.tree

-- port q of hub g is a port of the plan, and x stands there
pub record Holds (p : rules.Plan) (x : rules.Port) (g q : ℕ) : Type 0 where
  pub hub : Within p.hubs g
  pub place : Within (p.ports g) q
  pub port : p.port g q ≡ x

-- what later proofs need of any taken plan: its tables are a drawn plan's, with the
-- numbers that the answer tells, and a node's own cells name the one port that holds it
pub record TakenPlan (cells : List ℕ) (nodes hubs : ℕ) : Type 0 where
  pub plan : Drawn (plan_of cells)
  pub nodes_told : (plan_of cells).nodes ≡ nodes
  pub hubs_told : (plan_of cells).hubs ≡ hubs
  pub node_port : (k : ℕ) → Within (plan_of cells).nodes k → Holds (plan_of cells) (rules.node k) (hub_of_node cells k) (port_of_node cells k)
  pub one_port : (k g q : ℕ) → Holds (plan_of cells) (rules.node k) g q → (hub_of_node cells k ≡ g) × (port_of_node cells k ≡ q)
