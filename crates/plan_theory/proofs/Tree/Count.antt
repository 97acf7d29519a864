-- The tables of a tree count its nodes and hubs, and the lines of a drawing count up to the cursor behind it. Assumes nothing.
use Prim.Native.Nat.{ℕ, ◌+◌, min}
use mathlib.Core.Path.{◌≡◌, refl}
use mathlib.Core.List.{List, [], ◌∷◌}
use native.Mathlib.Omega.{arith}
use lib.ListN.{drop}
use Rattle.text.specs.Line.{Lines, ended, lines}
use Rattle.text.specs.Form.{draw_form}
use Rattle.text.specs.declared.Cursor.{Cursor}
use Rattle.plan.specs.Words.{frame_word, overhead_word, interrupt_word, framing_word, strict_word}
use Rattle.plan_tree.specs.Kind.{close_word, node_word, empty_word, hub_word}
use Rattle.plan_tree.specs.Tables.{put_hub}
use Rattle.plan.specs.Reading.{next}
use Rattle.plan_theory.specs.Tree.{Header, one_number, no_number, Port, node, empty, hub, Hub, close, port, draw_port, draw_hub, draw, nodes_at, nodes_in, hubs_at, hubs_in, Filled, fill_port, fill_hub}
use Rattle.plan_theory.specs.Behind.{lines_at, lines_in, lines_of, past_port, past_hub, past_interrupt, past_framing, past_figures, past}
use Rattle.plan.proofs.Reading.Agree.{first}
use Rattle.plan_theory.proofs.Tree.Optional.{count_optional, behind-optional}

mutual
  unfolding fill_port nodes_at

  pub nodes_at_lem : (x : Port) (g q l : ℕ) (s : Filled) → (fill_port x g q l s).nodes ≡ s.nodes + nodes_at x
  nodes_at_lem node g q l s = refl
  nodes_at_lem empty g q l s = omega arith
  nodes_at_lem (hub h) g q l s = nodes_in_lem h (s.hubs + 1) 0 (l + 1) _

  pub nodes_in_lem : (h : Hub) (g q l : ℕ) (s : Filled) → (fill_hub h g q l s).nodes ≡ s.nodes + nodes_in h
  nodes_in_lem close g q l s = omega arith
  nodes_in_lem (port x h) g q l s = omega (arith, nodes_in_lem h g (q + 1) l (fill_port x g (q + 1) l s), nodes_at_lem x g (q + 1) l s)

-- a hub is counted where it opens
mutual
  unfolding fill_port hubs_at

  pub hubs_at_lem : (x : Port) (g q l : ℕ) (s : Filled) → (fill_port x g q l s).hubs ≡ s.hubs + hubs_at x
  hubs_at_lem node g q l s = omega arith
  hubs_at_lem empty g q l s = omega arith
  hubs_at_lem (hub h) g q l s =
      omega (arith, hubs_in_lem h (s.hubs + 1) 0 (l + 1) (record { nodes = s.nodes; hubs = s.hubs + 1; tables = put_hub g q (s.hubs + 1) (l + 1) s.tables }))

  pub hubs_in_lem : (h : Hub) (g q l : ℕ) (s : Filled) → (fill_hub h g q l s).hubs + 1 ≡ s.hubs + hubs_in h
  hubs_in_lem close g q l s = refl
  hubs_in_lem (port x h) g q l s = omega (arith, hubs_in_lem h g (q + 1) l (fill_port x g (q + 1) l s), hubs_at_lem x g (q + 1) l s)

-- the number behind a drawing, up to the largest
abbrev most : ℕ
most = 18446744073709551615

mutual
  unfolding lines_at past_port

  pub count_port : (x : Port) (c : Cursor) → (past_port x c).number ≡ min (c.number + lines_at x) most
  count_port node c = refl
  count_port empty c = refl
  count_port (hub h) c = omega (arith, count_hub h (next c hub_word))

  pub count_hub : (h : Hub) (c : Cursor) → (past_hub h c).number ≡ min (c.number + lines_in h) most
  count_hub close c = refl
  count_hub (port x h) c = omega (arith, count_port x c, count_hub h (past_port x c))

pub count_lines : (fig : Header) (h : Hub) → (past fig h).number ≡ min (1 + lines_of fig h) most
unfolding past past_figures past_framing past_interrupt
count_lines fig h =
    let framing = count_optional one_number framing_word fig.framing (past_interrupt fig) (omega arith) in
    let strict = count_optional no_number strict_word fig.strict (past_framing fig) (omega arith) in
    omega (arith, count_hub h (next (past_figures fig) hub_word))

-- the lines at the cursor behind a drawing are those that follow it
module _ (text : List ℕ) where
  behind-line : (c : Cursor) (l : List ℕ) (rest : Lines) → lines (drop c.at text) ≡ ended l rest → lines (drop (next c l).at text) ≡ rest
  behind-line c l rest e = (first text c l rest e).behind

  mutual
    unfolding draw_port past_port

    pub behind_port_lem : (x : Port) (c : Cursor) (rest : Lines) → lines (drop c.at text) ≡ draw_port x rest → lines (drop (past_port x c).at text) ≡ rest
    behind_port_lem node c rest e = behind-line c node_word rest e
    behind_port_lem empty c rest e = behind-line c empty_word rest e
    behind_port_lem (hub h) c rest e = behind_hub h (next c hub_word) rest (behind-line c hub_word (draw_hub h rest) e)

    pub behind_hub : (h : Hub) (c : Cursor) (rest : Lines) → lines (drop c.at text) ≡ draw_hub h rest → lines (drop (past_hub h c).at text) ≡ rest
    behind_hub close c rest e = behind-line c close_word rest e
    behind_hub (port x h) c rest e = behind_hub h (past_port x c) rest (behind_port_lem x c (draw_hub h rest) e)

  pub behind-draw : (fig : Header) (h : Hub) (rest : Lines) → lines text ≡ draw fig h rest → lines (drop (past fig h).at text) ≡ rest
  unfolding draw past past_figures past_framing past_interrupt
  behind-draw fig h rest e =
      let c₀ : Cursor = record { at = 0; number = 1 } in
      let c₁ : Cursor = next c₀ (draw_form frame_word (fig.frame ∷ [])) in
      let c₂ : Cursor = next c₁ (draw_form overhead_word (fig.overhead ∷ [])) in
      behind_hub h (next (past_figures fig) hub_word) rest
      (behind-line (past_figures fig) hub_word _
      (behind-optional no_number strict_word text fig.strict (past_framing fig) _
      (behind-optional one_number framing_word text fig.framing (past_interrupt fig) _
      (behind-line c₂ (draw_form interrupt_word (fig.interrupt ∷ [])) _
      (behind-line c₁ (draw_form overhead_word (fig.overhead ∷ [])) _ (behind-line c₀ (draw_form frame_word (fig.frame ∷ [])) _ e))))))
