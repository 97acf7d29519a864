-- The lines of a hub form: a reading of them decides by a line. Assumes nothing.
use Prim.Native.Nat.{ℕ, ◌+◌, ◌≤◌, ◌<◌}
use mathlib.Core.Path.{◌≡◌, refl, sym, ap, ◌∙◌, subst}
use mathlib.Core.Bool.{true, false, ◌||◌}
use mathlib.Core.Logic.{◌⊎◌}
use mathlib.Core.List.{List, [], ◌∷◌}
use native.Mathlib.Omega.{arith}
use borrow.Author.Tests.{leb-true, leb-false, eqb-true, eqb-false}
use lib.Dec.{eqb, leb}
use lib.ListN.{length}
use Rattle.rules.specs.Plan.{most_hubs, most_ports, most_nodes, most_levels}
use Rattle.rules.proofs.Laws.Passes.{Which, which, yes', no', or-none, or_cases}
use Rattle.rules.proofs.Laws.Clash.{clash}
use Rattle.text.specs.Line.{Lines, nothing, unended, ended}
use Rattle.text.specs.Word.{is_word}
use Rattle.text.specs.declared.Cursor.{Cursor}
use Rattle.plan_tree.specs.declared.Kind.{Kind}
use Rattle.plan_tree.specs.declared.Kind.TheVariants.{Close, Node, Empty, Hub as HubKind, Other}
use Rattle.plan_tree.specs.Kind.{kind_of, close_word, node_word, empty_word, hub_word}
use Rattle.plan.specs.Tables.{Figures}
use Rattle.plan.specs.Reading.{next, Open, Progress, passes, add_node, add_empty, open_hub, close_hub, hub_lines}
use Rattle.plan_theory.specs.Tree.{node, empty, hub, Hub, close, port, draw_hub, ports_of, nodes_at, nodes_in, hubs_at, hubs_in, levels_at, levels_in, widths_at, good_figures, good_framing}
use Rattle.plan_theory.specs.Behind.{lines_at, lines_in}
use Rattle.plan_theory.proofs.Tree.Room.{HubRoom, one_hub, one_level}
use Rattle.plan_theory.proofs.Tree.Trees.{Drawing, kind_line}
use Rattle.plan_theory.proofs.Tree.OneTree.{size}
use Rattle.plan_theory.proofs.First.Places.{Plans, Tied, Step, Says, unformed, passed, nodeless}
use Rattle.plan_theory.proofs.First.Deciding.{Decides, AtLine, says, takes, goes, Starts, decides_none, decides_unended, decides_ended}
use Rattle.plan_theory.proofs.First.Tails.{Tails, draw_tails, HubPlans, Able, closing, able_plan, able_room, leaf_room, hub_room, close_room}

-- which hubs, from their ports on, begin with each word
only_close : (t : Hub) (r after : Lines) → draw_hub t r ≡ ended close_word after → t ≡ close
unfolding draw_hub
only_close close r after e = refl
only_close (port node t) r after e = absurd (omega (arith, ap size e))
only_close (port empty t) r after e = absurd (omega (arith, ap size e))
only_close (port (hub k) t) r after e = absurd (omega (arith, ap size e))

only_node : (t : Hub) (r after : Lines) → draw_hub t r ≡ ended node_word after → (u : Hub) × (t ≡ port node u)
unfolding draw_hub
only_node close r after e = absurd (omega (arith, ap size e))
only_node (port node t) r after e = (t, refl)
only_node (port empty t) r after e = absurd (omega (arith, ap size e))
only_node (port (hub k) t) r after e = absurd (omega (arith, ap size e))

only_empty : (t : Hub) (r after : Lines) → draw_hub t r ≡ ended empty_word after → (u : Hub) × (t ≡ port empty u)
unfolding draw_hub
only_empty close r after e = absurd (omega (arith, ap size e))
only_empty (port node t) r after e = absurd (omega (arith, ap size e))
only_empty (port empty t) r after e = (t, refl)
only_empty (port (hub k) t) r after e = absurd (omega (arith, ap size e))

only_hub : (t : Hub) (r after : Lines) → draw_hub t r ≡ ended hub_word after → (k : Hub) × (u : Hub) × (t ≡ port (hub k) u)
unfolding draw_hub
only_hub close r after e = absurd (omega (arith, ap size e))
only_hub (port node t) r after e = absurd (omega (arith, ap size e))
only_hub (port empty t) r after e = absurd (omega (arith, ap size e))
only_hub (port (hub k) t) r after e = (k, t, refl)

-- and none with a line of no kind
other_line : (l : List ℕ) → kind_of l ≡ Other → (word : List ℕ) (k : Kind) → kind_of word ≡ k → (k ≡ Other → ⊥) → (ls after : Lines) → ended word ls ≡ ended l after → ⊥
other_line l o word k e no_other ls after d =
    let same : word ≡ l = cc in
    no_other (sym e ∙ ap kind_of same ∙ o)

only-kinds : (t : Hub) (r after : Lines) (l : List ℕ) → kind_of l ≡ Other → draw_hub t r ≡ ended l after → ⊥
unfolding draw_hub kind_of is_word
only-kinds close r after l o e = other_line l o close_word Close refl (λ z. clash (cc)) _ _ e
only-kinds (port node t) r after l o e = other_line l o node_word Node refl (λ z. clash (cc)) _ _ e
only-kinds (port empty t) r after l o e = other_line l o empty_word Empty refl (λ z. clash (cc)) _ _ e
only-kinds (port (hub k) t) r after l o e = other_line l o hub_word HubKind refl (λ z. clash (cc)) _ _ e

-- each begins with a whole line
hub_begins : (t : Hub) (r : Lines) → (l : List ℕ) × (after : Lines) × (draw_hub t r ≡ ended l after)
unfolding draw_hub
hub_begins close r = (close_word, r, refl)
hub_begins (port node t) r = (node_word, draw_hub t r, refl)
hub_begins (port empty t) r = (empty_word, draw_hub t r, refl)
hub_begins (port (hub k) t) r = (hub_word, draw_hub k (draw_hub t r), refl)

one_line : (t : Hub) → 1 ≤ lines_in t
unfolding lines_in
one_line close = omega arith
one_line (port x t) = omega (arith, one_line t)

module _ (fig : Figures) (framed : good_framing fig ≡ true) (good : good_figures fig ≡ true) where
  module _ (s : Progress) where
    abbrev P : Plans
    P = HubPlans fig s

    node_tied : s.inner.ports < most_ports → s.nodes < most_nodes → (t : Hub) (ts : Tails s.outer)
        → Tied P node_word (HubPlans fig (add_node s)) (port node t, ts) (t, ts)
    unfolding draw_hub lines_in lines_at nodes_in nodes_at hubs_at levels_at widths_at
    node_tied p q t ts =
        record {
          drawn = λ r. refl;
          framed = (λ g. g, λ g. g);
          good = (λ g. g, λ g. g);
          fits = leaf_room s.inner s.outer s.nodes s.hubs t ts node (s.nodes + 1) refl refl refl refl p (omega arith);
          size = omega arith;
          nodes = omega arith;
        }

    node_step : s.inner.ports < most_ports → s.nodes < most_nodes → Step P node_word (HubPlans fig (add_node s))
    node_step p q =
        record {
          down = λ w r after e.
              (let u = only_node w.0 (draw_tails s.outer w.1 r) after e in
              subst (λ (x : Hub). (v : Tails ((add_node s).inner ∷ s.outer)) × Tied P node_word (HubPlans fig (add_node s)) (x, w.1) v) (sym u.1)
              ((u.0, w.1), node_tied p q u.0 w.1));
          up = λ v. ((port node v.0, v.1), node_tied p q v.0 v.1);
        }

    empty_tied : s.inner.ports < most_ports → s.nodes ≤ most_nodes → (t : Hub) (ts : Tails s.outer)
        → Tied P empty_word (HubPlans fig (add_empty s)) (port empty t, ts) (t, ts)
    unfolding draw_hub lines_in lines_at nodes_in nodes_at hubs_at levels_at widths_at
    empty_tied p q t ts =
        record {
          drawn = λ r. refl;
          framed = (λ g. g, λ g. g);
          good = (λ g. g, λ g. g);
          fits = leaf_room s.inner s.outer s.nodes s.hubs t ts empty s.nodes (omega arith) refl refl refl p q;
          size = omega arith;
          nodes = omega arith;
        }

    empty_step : s.inner.ports < most_ports → s.nodes ≤ most_nodes → Step P empty_word (HubPlans fig (add_empty s))
    empty_step p q =
        record {
          down = λ w r after e.
              (let u = only_empty w.0 (draw_tails s.outer w.1 r) after e in
              subst (λ (x : Hub). (v : Tails ((add_empty s).inner ∷ s.outer)) × Tied P empty_word (HubPlans fig (add_empty s)) (x, w.1) v) (sym u.1)
              ((u.0, w.1), empty_tied p q u.0 w.1));
          up = λ v. ((port empty v.0, v.1), empty_tied p q v.0 v.1);
        }

    hub_tied : s.inner.ports < most_ports → (k t : Hub) (ts : Tails s.outer)
        → Tied P hub_word (HubPlans fig (open_hub s)) (port (hub k) t, ts) (k, (t, ts))
    unfolding draw_hub lines_in lines_at nodes_in nodes_at
    hub_tied p k t ts =
        record {
          drawn = λ r. refl;
          framed = (λ g. g, λ g. g);
          good = (λ g. g, λ g. g);
          fits = hub_room s.inner s.outer s.nodes s.hubs t ts k (s.hubs + 1) p;
          size = omega arith;
          nodes = omega arith;
        }

    hub_step : s.inner.ports < most_ports → Step P hub_word (HubPlans fig (open_hub s))
    hub_step p =
        record {
          down = λ w r after e.
              (let u = only_hub w.0 (draw_tails s.outer w.1 r) after e in
              subst (λ (x : Hub). (v : Tails ((open_hub s).inner ∷ (open_hub s).outer)) × Tied P hub_word (HubPlans fig (open_hub s)) (x, w.1) v) (sym u.2)
              ((u.0, (u.1, w.1)), hub_tied p u.0 u.1 w.1));
          up = λ v. ((port (hub v.0) v.1.0, v.1.1), hub_tied p v.0 v.1.0 v.1.1);
        }

    -- a line that passes a limit: no plan that begins with it fits
    node_passed : (rest : Lines) → passes Node s ≡ true → Says P (ended node_word rest) 1 3
    unfolding draw_hub ports_of nodes_in nodes_at
    node_passed rest e =
        passed P node_word rest (port node close, closing s.outer) nothing _ refl (framed, good)
        (λ w r after d f.
        (let u = only_node w.0 (draw_tails s.outer w.1 r) after d in
        let room = subst (λ (x : Hub). HubRoom x s.inner.ports (length s.outer + 1) s.nodes s.hubs) u.1 f.0 in
        full u.0 room (or_cases (leb most_ports s.inner.ports) (leb most_nodes s.nodes) e)))
      where
        full : (t : Hub) → HubRoom (port node t) s.inner.ports (length s.outer + 1) s.nodes s.hubs
            → (leb most_ports s.inner.ports ≡ true) ⊎ (leb most_nodes s.nodes ≡ true) → ⊥
        full t room (◌⊎◌.inl p) = omega (arith, room.ports, leb-true most_ports s.inner.ports p)
        full t room (◌⊎◌.inr p) = omega (arith, room.in_nodes, leb-true most_nodes s.nodes p)

    empty_passed : (rest : Lines) → passes Empty s ≡ true → Says P (ended empty_word rest) 1 3
    unfolding draw_hub ports_of
    empty_passed rest e =
        passed P empty_word rest (port empty close, closing s.outer) nothing _ refl (framed, good)
        (λ w r after d f.
        (let u = only_empty w.0 (draw_tails s.outer w.1 r) after d in
        let room = subst (λ (x : Hub). HubRoom x s.inner.ports (length s.outer + 1) s.nodes s.hubs) u.1 f.0 in
        omega (arith, room.ports, leb-true most_ports s.inner.ports e)))

    hub_passed : (rest : Lines) → passes HubKind s ≡ true → Says P (ended hub_word rest) 1 3
    unfolding draw_hub ports_of hubs_in hubs_at levels_in levels_at
    hub_passed rest e =
        passed P hub_word rest (port (hub close) close, closing s.outer) nothing _ refl (framed, good)
        (λ w r after d f.
        (let u = only_hub w.0 (draw_tails s.outer w.1 r) after d in
        let room = subst (λ (x : Hub). HubRoom x s.inner.ports (length s.outer + 1) s.nodes s.hubs) u.2 f.0 in
        full u.0 u.1 room (or_cases (leb most_ports s.inner.ports || leb most_hubs s.hubs) (leb most_levels (length s.outer + 1)) e)))
      where
        wide_or_many : (k t : Hub) → HubRoom (port (hub k) t) s.inner.ports (length s.outer + 1) s.nodes s.hubs
            → (leb most_ports s.inner.ports ≡ true) ⊎ (leb most_hubs s.hubs ≡ true) → ⊥
        wide_or_many k t room (◌⊎◌.inl p) = omega (arith, room.ports, leb-true most_ports s.inner.ports p)
        wide_or_many k t room (◌⊎◌.inr p) = omega (arith, room.in_hubs, one_hub k, one_hub t, leb-true most_hubs s.hubs p)

        full : (k t : Hub) → HubRoom (port (hub k) t) s.inner.ports (length s.outer + 1) s.nodes s.hubs
            → ((leb most_ports s.inner.ports || leb most_hubs s.hubs) ≡ true) ⊎ (leb most_levels (length s.outer + 1) ≡ true) → ⊥
        full k t room (◌⊎◌.inl p) = wide_or_many k t room (or_cases (leb most_ports s.inner.ports) (leb most_hubs s.hubs) p)
        full k t room (◌⊎◌.inr p) = omega (arith, room.in_levels, one_level k, leb-true most_levels (length s.outer + 1) p)

    -- `)` closes a hub without ports
    close_passed : (rest : Lines) → passes Close s ≡ true → Says P (ended close_word rest) 1 3
    unfolding draw_hub ports_of
    close_passed rest e =
        passed P close_word rest (close, closing s.outer) nothing _ refl (framed, good)
        (λ w r after d f.
        (let u = only_close w.0 (draw_tails s.outer w.1 r) after d in
        let room = subst (λ (x : Hub). HubRoom x s.inner.ports (length s.outer + 1) s.nodes s.hubs) u f.0 in
        omega (arith, room.some, eqb-true s.inner.ports 0 e)))

    hub_starts : Able s → (c : Cursor) → Starts P (λ x. hub_lines fig x c s) c
    unfolding hub_lines
    hub_starts a c =
        record {
          at_end = refl;
          at_unended = λ l. refl;
          begins = λ w r. hub_begins w.0 (draw_tails s.outer w.1 r);
          sized = λ w. omega (arith, one_line w.0);
          what = able_plan s;
          headed = (framed, good);
          fits = able_room s a;
        }

    -- each kind of line
    module _ (rest : Lines) (again : (c : Cursor) (t : Progress) → Able t → Decides (HubPlans fig t) (λ x. hub_lines fig x c t) rest c.number)
        (a : Able s) (c : Cursor) where
      node_line : Which (passes Node s) → AtLine P (λ x. hub_lines fig x c s) c node_word rest
      unfolding hub_lines kind_of is_word
      node_line (yes' p) = says 3 (λ after. rw p) (node_passed rest p)
      node_line (no' p) =
          let e = or-none (leb most_ports s.inner.ports) (leb most_nodes s.nodes) p in
          let q = leb-false most_ports s.inner.ports e.0 in
          let n = leb-false most_nodes s.nodes e.1 in
          goes (HubPlans fig (add_node s)) (node_step q n) (λ x. hub_lines fig x (next c node_word) (add_node s)) (λ after. rw p)
          (again (next c node_word) (add_node s)
          (record { ports = omega arith; nodes = omega arith; hubs = a.hubs; levels = a.levels; around = a.around }))

      empty_line : Which (passes Empty s) → AtLine P (λ x. hub_lines fig x c s) c empty_word rest
      unfolding hub_lines kind_of is_word
      empty_line (yes' p) = says 3 (λ after. rw p) (empty_passed rest p)
      empty_line (no' p) =
          let q = leb-false most_ports s.inner.ports p in
          goes (HubPlans fig (add_empty s)) (empty_step q a.nodes) (λ x. hub_lines fig x (next c empty_word) (add_empty s)) (λ after. rw p)
          (again (next c empty_word) (add_empty s)
          (record { ports = omega arith; nodes = a.nodes; hubs = a.hubs; levels = a.levels; around = a.around }))

      hub_line : Which (passes HubKind s) → AtLine P (λ x. hub_lines fig x c s) c hub_word rest
      unfolding hub_lines kind_of is_word
      hub_line (yes' p) = says 3 (λ after. rw p) (hub_passed rest p)
      hub_line (no' p) =
          let e = or-none (leb most_ports s.inner.ports || leb most_hubs s.hubs) (leb most_levels (length s.outer + 1)) p in
          let d = or-none (leb most_ports s.inner.ports) (leb most_hubs s.hubs) e.0 in
          let q = leb-false most_ports s.inner.ports d.0 in
          let h = leb-false most_hubs s.hubs d.1 in
          let l = leb-false most_levels (length s.outer + 1) e.1 in
          goes (HubPlans fig (open_hub s)) (hub_step q) (λ x. hub_lines fig x (next c hub_word) (open_hub s)) (λ after. rw p)
          (again (next c hub_word) (open_hub s)
          (record { ports = omega arith; nodes = a.nodes; hubs = omega arith; levels = omega arith; around = (omega arith, omega arith, a.around) }))

      other_kind : (l : List ℕ) → kind_of l ≡ Other → AtLine P (λ x. hub_lines fig x c s) c l rest
      unfolding hub_lines
      other_kind l k =
          says 1 (λ after. rw k)
          (unformed P l rest (λ w r after e. only-kinds w.0 (draw_tails s.outer w.1 r) after l k e))

  -- the closing line, of a hub inside hub u or of the root; o is being read
  module _ (o : Open) (n h : ℕ) (tables : List ℕ) where
    abbrev state : List Open → Progress
    state os = record { inner = o; outer = os; nodes = n; hubs = h; tables = tables }

    close_tied : (u : Open) (us : List Open) → Able (state (u ∷ us)) → 1 ≤ o.ports → (t : Hub) (ts : Tails us)
        → Tied (HubPlans fig (state (u ∷ us))) close_word (HubPlans fig (close_hub u us (state (u ∷ us)))) (close, (t, ts)) (t, ts)
    unfolding draw_hub lines_in nodes_in
    close_tied u us a some t ts =
        record {
          drawn = λ r. refl;
          framed = (λ g. g, λ g. g);
          good = (λ g. g, λ g. g);
          fits = close_room u us n h t ts o some a.ports (omega (arith, a.levels)) a.nodes a.hubs;
          size = omega arith;
          nodes = omega arith;
        }

    close_step : (u : Open) (us : List Open) → Able (state (u ∷ us)) → 1 ≤ o.ports
        → Step (HubPlans fig (state (u ∷ us))) close_word (HubPlans fig (close_hub u us (state (u ∷ us))))
    close_step u us a some =
        let Q : Plans = HubPlans fig (close_hub u us (state (u ∷ us))) in
        record {
          down = λ w r after e.
              (let t = only_close w.0 (draw_tails (u ∷ us) w.1 r) after e in
              subst (λ (x : Hub). (v : Tails (u ∷ us)) × Tied (HubPlans fig (state (u ∷ us))) close_word Q (x, w.1) v) (sym t)
              (w.1, close_tied u us a some w.1.0 w.1.1));
          up = λ v. ((close, v), close_tied u us a some v.0 v.1);
        }

    module _ (rest : Lines) (again : (c : Cursor) (t : Progress) → Able t → Decides (HubPlans fig t) (λ x. hub_lines fig x c t) rest c.number) (c : Cursor) where
      -- the root's: with or without a node
      root_closed : passes Close (state []) ≡ false → Which (eqb n 0)
          → AtLine (HubPlans fig (state [])) (λ x. hub_lines fig x c (state [])) c close_word rest
      unfolding hub_lines kind_of is_word draw_hub lines_in nodes_in
      root_closed p (yes' z) =
          says 3 (λ after. rw (p, z)) (nodeless (HubPlans fig (state [])) close_word rest (close, tt) nothing nothing refl (framed, good) refl (omega (arith, eqb-true n 0 z)))
      root_closed p (no' z) = takes n h (next c close_word).at (next c close_word).number (λ after. rw (p, z))

      close_line : (os : List Open) → Able (state os) → Which (passes Close (state os))
          → AtLine (HubPlans fig (state os)) (λ x. hub_lines fig x c (state os)) c close_word rest
      unfolding hub_lines kind_of is_word
      close_line os a (yes' p) = says 3 (λ after. rw p) (close_passed (state os) rest p)
      close_line [] a (no' p) = root_closed p (which (eqb n 0))
      close_line (u ∷ us) a (no' p) =
          let ported = eqb-false o.ports 0 p in
          let s : Progress = close_hub u us (state (u ∷ us)) in
          goes (HubPlans fig s) (close_step u us a (omega arith)) (λ x. hub_lines fig x (next c close_word) s) (λ after. rw p)
          (again (next c close_word) s
          (record { ports = a.around.1; nodes = a.nodes; hubs = a.hubs; levels = omega (arith, a.levels); around = a.around.2 }))

  by_kind_lem : (rest : Lines) → ((c : Cursor) (t : Progress) → Able t → Decides (HubPlans fig t) (λ x. hub_lines fig x c t) rest c.number)
      → (s : Progress) → Able s → (c : Cursor) (l : List ℕ) (kind : Kind) → kind_of l ≡ kind → Drawing kind l
      → AtLine (HubPlans fig s) (λ x. hub_lines fig x c s) c l rest
  by_kind_lem rest again s a c l kind k d = go kind k d
    where
      At : List ℕ → Type 1
      At x = AtLine (HubPlans fig s) (λ y. hub_lines fig y c s) c x rest

      go : (kind : Kind) → kind_of l ≡ kind → Drawing kind l → At l
      go Close k e = subst At (sym e) (close_line s.inner s.nodes s.hubs s.tables rest again c s.outer a (which (passes Close s)))
      go Node k e = subst At (sym e) (node_line s rest again a c (which (passes Node s)))
      go Empty k e = subst At (sym e) (empty_line s rest again a c (which (passes Empty s)))
      go HubKind k e = subst At (sym e) (hub_line s rest again a c (which (passes HubKind s)))
      go Other k e = other_kind s rest again a c l k

  pub hub_decides : (ls : Lines) (c : Cursor) (s : Progress) → Able s → Decides (HubPlans fig s) (λ x. hub_lines fig x c s) ls c.number
  hub_decides nothing c s a = decides_none (HubPlans fig s) (λ x. hub_lines fig x c s) c (hub_starts s a c)
  hub_decides (unended l) c s a = decides_unended (HubPlans fig s) (λ x. hub_lines fig x c s) c (hub_starts s a c) l
  hub_decides (ended l rest) c s a =
      decides_ended (HubPlans fig s) (λ x. hub_lines fig x c s) c (hub_starts s a c) l rest
      (by_kind_lem rest (λ d t b. hub_decides rest d t b) s a c l (kind_of l) refl (kind_line l))
