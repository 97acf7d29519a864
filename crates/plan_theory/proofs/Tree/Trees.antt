-- What the hub reader reads is the drawing of a tree within the room that is left. Assumes nothing.
use Prim.Native.Nat.{ℕ, zero, suc, ◌+◌, ◌-◌, ◌≤◌, ◌<◌}
use mathlib.Core.Path.{◌≡◌, refl, ap, ◌∙◌}
use mathlib.Core.Bool.{Bool, true, false, ◌||◌}
use mathlib.Core.List.{List}
use native.Mathlib.Omega.{arith}
use borrow.Author.Tests.{leb-false, eqb-false}
use lib.Dec.{eqb, leb}
use lib.ListN.{drop}
use Rattle.std.specs.Prelude.{if◌then◌else◌}
use Rattle.rules.specs.Plan.{most_hubs, most_ports, most_nodes, most_levels}
use Rattle.text.specs.Line.{Lines, nothing, unended, ended, lines, hand_out, next_line}
use Rattle.text.specs.Word.{is_word}
use Rattle.text.proofs.Words.{is_word_lem}
use Rattle.plan_tree.specs.declared.Kind.{Kind}
use Rattle.plan_tree.specs.declared.Kind.TheVariants.{Close, Node, Empty, Hub as HubKind, Other}
use Rattle.plan_tree.specs.declared.Place.{Place}
use Rattle.plan_tree.specs.Part.{Part, Read, Stopped}
use Rattle.plan_tree.specs.Kind.{kind_of, close_word, node_word, empty_word, hub_word}
use Rattle.plan_tree.specs.Tables.{put_empty, put_node, put_hub, put_ports}
use Rattle.plan.specs.Reading.{next}
use Rattle.plan_tree.specs.Readers.{Answered, stop, read, cursor, moved, with_node, with_hub, behind_port, on_kind, on_next, hub_reader}
use Rattle.plan_theory.specs.Tree.{Port, node, empty, hub, Hub, close, port, draw_port, draw_hub, ports_of, nodes_at, nodes_in, hubs_at, hubs_in, levels_at, levels_in, widths_at, widths_in}
use Rattle.plan_theory.proofs.Tree.Room.{PortRoom, HubRoom, join_room, outer_room}
use Rattle.plan.proofs.Reading.Agree.{First, first}

-- the line of each kind
abbrev pub Drawing : Kind → List ℕ → Type 0
Drawing Close l = l ≡ close_word
Drawing Node l = l ≡ node_word
Drawing Empty l = l ≡ empty_word
Drawing HubKind l = l ≡ hub_word
Drawing Other l = Unit {0}

pub kind_line : (l : List ℕ) → Drawing (kind_of l) l
unfolding kind_of
kind_line l = closes (is_word close_word l) refl
  where
    opens : (b : Bool) → is_word hub_word l ≡ b → Drawing (if b then HubKind else Other) l
    opens true e = is_word_lem hub_word l e
    opens false e = tt

    empties : (b : Bool) → is_word empty_word l ≡ b → Drawing (if b then Empty else (if is_word hub_word l then HubKind else Other)) l
    empties true e = is_word_lem empty_word l e
    empties false e = opens (is_word hub_word l) refl

    nodes : (b : Bool) → is_word node_word l ≡ b
        → Drawing (if b then Node else (if is_word empty_word l then Empty else (if is_word hub_word l then HubKind else Other))) l
    nodes true e = is_word_lem node_word l e
    nodes false e = empties (is_word empty_word l) refl

    closes : (b : Bool) → is_word close_word l ≡ b
        → Drawing (if b then Close else (if is_word node_word l then Node else (if is_word empty_word l then Empty else (if is_word hub_word l then HubKind else Other)))) l
    closes true e = is_word_lem close_word l e
    closes false e = nodes (is_word node_word l) refl

pub or-false : (a b : Bool) → (a || b) ≡ false → (a ≡ false) × (b ≡ false)
or-false true b e = let z : ◌≡◌ {A = ℕ} 0 1 = cc in absurd (omega arith)
or-false false b e = (refl, e)

module _ (text : List ℕ) where
  -- from place x, behind port q of a hub of level l, one port was read up to y
  record PortRead (x : Place) (q l : ℕ) (y : Place) : Type 0 where
    tree : Port
    drawn : lines (drop x.at text) ≡ draw_port tree (lines (drop y.at text))
    room : PortRoom tree q l x.nodes x.hubs
    nodes : y.nodes ≡ x.nodes + nodes_at tree
    hubs : y.hubs ≡ x.hubs + hubs_at tree

  -- and the ports up to the line that closes the hub
  pub record HubRead (x : Place) (q l : ℕ) (y : Place) : Type 0 where
    pub tree : Hub
    pub drawn : lines (drop x.at text) ≡ draw_hub tree (lines (drop y.at text))
    pub room : HubRoom tree q l x.nodes x.hubs
    pub nodes : y.nodes ≡ x.nodes + nodes_in tree
    pub hubs : y.hubs + 1 ≡ x.hubs + hubs_in tree

  abbrev pub TreeRead : Place → ℕ → ℕ → Part → Type 0
  TreeRead x q l (Read y) = HubRead x q l y
  TreeRead x q l (Stopped line number) = Unit {0}

  -- a port in front of the ports behind it
  joined : (x : Place) (q l : ℕ) (y : Place) (p : Part) → PortRead x q l y → TreeRead y (q + 1) l p → TreeRead x q l p
  unfolding draw_hub nodes_in hubs_in
  joined x q l y (Stopped line number) a b = tt
  joined x q l y (Read z) a b =
      record {
        tree = port a.tree b.tree;
        drawn = a.drawn ∙ ap (draw_port a.tree) b.drawn;
        room = join_room q l x.nodes x.hubs a.tree b.tree a.room (rw (← a.nodes, ← a.hubs) b.room);
        nodes = omega (arith, b.nodes, a.nodes);
        hubs = omega (arith, b.hubs, a.hubs);
      }

  -- the hub reader reads trees
  abbrev pub Reading : ℕ → Type 0
  Reading left =
      (x : Place) (g q levels l : ℕ) (t : List ℕ) → levels + l ≡ most_levels → q ≤ most_ports → x.nodes ≤ most_nodes → x.hubs ≤ most_hubs
      → TreeRead x q l (hub_reader text left x g q levels t).part

  module _
      (left : ℕ) (ih : Reading left) (x : Place) (g q levels l : ℕ) (t : List ℕ) (deep : levels + l ≡ most_levels) (ports : q ≤ most_ports)
      (few : x.nodes ≤ most_nodes) (small : x.hubs ≤ most_hubs) (w : List ℕ) (rest : Lines) (e : lines (drop x.at text) ≡ ended w rest)
      (f : First text (cursor x) w rest)
    where
      abbrev behind : Place
      behind = moved (next (cursor x) w) x

      abbrev inner : Place → ℕ → ℕ → List ℕ → Answered
      inner = λ y h below u. hub_reader text left y h 0 below u

      abbrev more : Place → List ℕ → Answered
      more = λ y u. hub_reader text left y g (q + 1) levels u

      line_drawn : (word : List ℕ) → w ≡ word → lines (drop x.at text) ≡ ended word (lines (drop behind.at text))
      line_drawn word k = rw (f.behind, ← k) e

      -- a port, and what is read behind it
      followed : (y : Place) (u : List ℕ) → PortRead x q l y → TreeRead x q l (more y u).part
      followed y u a =
          joined x q l y (more y u).part a
          (ih y g (q + 1) levels l u deep (omega (arith, a.room.ports)) (omega (arith, a.nodes, a.room.at_nodes)) (omega (arith, a.hubs, a.room.at_hubs)))

      closes : w ≡ close_word → (b : Bool) → eqb q 0 ≡ b → TreeRead x q l (if b then stop x.number 3 t else read behind (put_ports g q t)).part
      unfolding draw_hub ports_of nodes_in hubs_in levels_in widths_in
      closes k true z = tt
      closes k false z =
          let some = eqb-false q 0 z in
          record {
            tree = close;
            drawn = line_drawn close_word k;
            room = record { some = omega arith; ports = omega arith; in_nodes = omega arith; in_hubs = omega arith; in_levels = omega arith; in_widths = refl };
            nodes = omega arith;
            hubs = refl;
          }

      noded : w ≡ node_word → (b : Bool) → (leb most_ports q || leb most_nodes x.nodes) ≡ b
          → TreeRead x q l (behind_port more (if b then stop x.number 3 t else read (with_node behind) (put_node g (q + 1) (x.nodes + 1) t))).part
      unfolding draw_port nodes_at hubs_at levels_at widths_at
      noded k true z = tt
      noded k false z =
          let none = or-false (leb most_ports q) (leb most_nodes x.nodes) z in
          let p : q < most_ports = leb-false most_ports q none.0 in
          let n : x.nodes < most_nodes = leb-false most_nodes x.nodes none.1 in
          followed (with_node behind) (put_node g (q + 1) (x.nodes + 1) t)
          (record {
            tree = node;
            drawn = line_drawn node_word k;
            room = record { ports = p; at_nodes = omega arith; at_hubs = omega arith; at_levels = omega arith; at_widths = refl };
            nodes = refl;
            hubs = omega arith;
          })

      emptied : w ≡ empty_word → (b : Bool) → leb most_ports q ≡ b
          → TreeRead x q l (behind_port more (if b then stop x.number 3 t else read behind (put_empty g (q + 1) t))).part
      unfolding draw_port nodes_at hubs_at levels_at widths_at
      emptied k true z = tt
      emptied k false z =
          let p : q < most_ports = leb-false most_ports q z in
          followed behind (put_empty g (q + 1) t)
          (record {
            tree = empty;
            drawn = line_drawn empty_word k;
            room = record { ports = p; at_nodes = omega arith; at_hubs = omega arith; at_levels = omega arith; at_widths = refl };
            nodes = omega arith;
            hubs = omega arith;
          })

      -- a hub was read within this one
      entered : w ≡ hub_word → q < most_ports → (p : Part) (u : List ℕ) → TreeRead (with_hub behind) 0 (l + 1) p
          → TreeRead x q l (behind_port more (record { part = p; tables = u })).part
      unfolding draw_port nodes_at hubs_at
      entered k free (Stopped line number) u a = tt
      entered k free (Read y) u a =
          followed y u
          (record {
            tree = hub a.tree;
            drawn = line_drawn hub_word k ∙ ap (ended hub_word) a.drawn;
            room = outer_room q l x.nodes x.hubs a.tree free a.room;
            nodes = a.nodes;
            hubs = omega (arith, a.hubs);
          })

      opened : w ≡ hub_word → (b : Bool) → (leb most_ports q || leb most_hubs x.hubs || eqb levels 0) ≡ b
          → TreeRead x q l
          (behind_port more (if b then stop x.number 3 t else inner (with_hub behind) (x.hubs + 1) (levels - 1) (put_hub g (q + 1) (x.hubs + 1) (most_levels + 1 - levels) t))).part
      opened k true z = tt
      opened k false z =
          let none = or-false (leb most_ports q || leb most_hubs x.hubs) (eqb levels 0) z in
          let too = or-false (leb most_ports q) (leb most_hubs x.hubs) none.0 in
          let p : q < most_ports = leb-false most_ports q too.0 in
          let m : x.hubs < most_hubs = leb-false most_hubs x.hubs too.1 in
          let some = eqb-false levels 0 none.1 in
          let u : List ℕ = put_hub g (q + 1) (x.hubs + 1) (most_levels + 1 - levels) t in
          let d : Answered = inner (with_hub behind) (x.hubs + 1) (levels - 1) u in
          entered k p d.part d.tables
          (ih (with_hub behind) (x.hubs + 1) 0 (levels - 1) (l + 1) u (omega arith) (omega arith) few (omega arith))

      by_kind_lem : (kind : Kind) → Drawing kind w → TreeRead x q l (on_kind inner more kind x.number behind g q levels t).part
      by_kind_lem Close k = closes k (eqb q 0) refl
      by_kind_lem Node k = noded k (leb most_ports q || leb most_nodes x.nodes) refl
      by_kind_lem Empty k = emptied k (leb most_ports q) refl
      by_kind_lem HubKind k = opened k (leb most_ports q || leb most_hubs x.hubs || eqb levels 0) refl
      by_kind_lem Other k = tt

  line_tree : (left : ℕ) → Reading left → (x : Place) (g q levels l : ℕ) (t : List ℕ) → levels + l ≡ most_levels → q ≤ most_ports → x.nodes ≤ most_nodes
      → x.hubs ≤ most_hubs → (ls : Lines) → lines (drop x.at text) ≡ ls
      → TreeRead x q l
      (on_next text (λ y h below u. hub_reader text left y h 0 below u) (λ y u. hub_reader text left y g (q + 1) levels u) (hand_out (cursor x) ls) x g q levels t).part
  unfolding hand_out
  line_tree left ih x g q levels l t deep ports few small nothing e = tt
  line_tree left ih x g q levels l t deep ports few small (unended w) e = tt
  line_tree left ih x g q levels l t deep ports few small (ended w rest) e =
      let f = first text (cursor x) w rest e in
      rw f.bytes (by_kind_lem left ih x g q levels l t deep ports few small w rest e f (kind_of w) (kind_line w))

  pub hub_tree : (left : ℕ) → Reading left
  unfolding hub_reader next_line
  hub_tree zero x g q levels l t deep ports few small = tt
  hub_tree (suc left) x g q levels l t deep ports few small =
      line_tree left (hub_tree left) x g q levels l t deep ports few small (lines (drop x.at text)) refl
