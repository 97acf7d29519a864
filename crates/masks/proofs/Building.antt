-- The masks built anew, one law a way through the tests: cleared, a port shown, the nodes' requests, and the hubs' summaries.
use Prim.Native.Nat.{ℕ, zero, suc, ◌-◌, ◌≤◌}
use mathlib.Core.Path.{◌≡◌, refl, ap, ◌∙◌}
use mathlib.Core.Bool.{Bool, true, false}
use mathlib.Core.List.{List}
use native.Mathlib.Numerals.{unary_clauses}
use lib.Dec.{leb}
use lib.ListN.{get_or, set}
use Rattle.rules.specs.Plan.{most_hubs}
use Rattle.ports.specs.Ports.{with_port}
use Rattle.ports.specs.Mask.{shows, mask_of}
use Rattle.plan_tree.specs.Tables as plan
use Rattle.cells.specs.Layout.{mask_cell, request_cell}
use Rattle.cells.specs.Decode.{plan_in}
use Rattle.cells.specs.Build.{clear_masks, show_port, show_request, show_nodes, summary, show_hub, show_hubs, hubs_in, build_masks}
use Rattle.cells.proofs.Within.{of_hub, no_hub}

pub cleared_none : (n : ℕ) (s : List ℕ) → n ≡ 0 → s ≡ clear_masks n s
unfolding clear_masks
cleared_none n s e = rw e

pub cleared_some : (n : ℕ) (s : List ℕ) → (n ≡ 0 → ⊥) → clear_masks (n - 1) (set (set s (mask_cell false n) 0) (mask_cell true n) 0) ≡ clear_masks n s
unfolding clear_masks
cleared_some zero s h = absurd (h refl)
cleared_some (suc n) s h = simp unary_clauses

-- ---- one port

module _ (high : Bool) (g q : ℕ) (b : Bool) (s : List ℕ) where
  pub no_port : ¬ ((1 ≤ g) × (g ≤ most_hubs)) → s ≡ show_port high g q b s
  unfolding show_port
  no_port other = no_hub g _ s other

  pub port_shown : (at m : ℕ) → 1 ≤ g → g ≤ most_hubs → at ≡ mask_cell high g → m ≡ mask_of (with_port (shows (get_or s at 0)) q b)
      → set s at m ≡ show_port high g q b s
  unfolding show_port
  port_shown at m l h f e = rw (e, f) (of_hub g _ s l h)

-- ---- the nodes

pub no_nodes : (P s : List ℕ) (n : ℕ) → n ≡ 0 → s ≡ show_nodes P n s
unfolding show_nodes
no_nodes P s n e = rw e

nodes_step : (P s : List ℕ) (n : ℕ) → (n ≡ 0 → ⊥) → show_nodes P (n - 1) (show_request P n s) ≡ show_nodes P n s
unfolding show_nodes
nodes_step P s zero h = absurd (h refl)
nodes_step P s (suc n) h = simp unary_clauses

module _ (P s : List ℕ) (n : ℕ) where
  -- what stands at node n is shown, by the bounds of the classes
  abbrev pub shown : ℕ → ℕ → List ℕ
  shown high normal =
      show_port (leb high (get_or s (request_cell n) 0)) (plan.hub_of_node P n) (plan.port_of_node P n) (leb normal (get_or s (request_cell n) 0)) s

  pub some_nodes : (r : List ℕ) → (n ≡ 0 → ⊥) → r ≡ shown 131072 65536 → show_nodes P (n - 1) r ≡ show_nodes P n s
  unfolding show_request
  some_nodes r h e = ap (show_nodes P (n - 1)) e ∙ nodes_step P s n h

-- ---- the hubs

hubs_step : (P s : List ℕ) (n : ℕ) → (n ≡ 0 → ⊥) → show_hubs P (n - 1) (show_hub P n s) ≡ show_hubs P n s
unfolding show_hubs
hubs_step P s zero h = absurd (h refl)
hubs_step P s (suc n) h = simp unary_clauses

module _ (P s : List ℕ) (n : ℕ) where
  pub no_hubs : n ≡ 0 → s ≡ show_hubs P n s
  unfolding show_hubs
  no_hubs e = rw e

  abbrev parent : ℕ
  parent = get_or P (plan.parent_cell n) 0

  abbrev place : ℕ
  place = get_or P (plan.place_cell n) 0

  pub some_hubs : (normal high : Bool) (r t : List ℕ) → (n ≡ 0 → ⊥) → normal ≡ summary false n s → high ≡ summary true n s
      → r ≡ show_port false parent place normal s → t ≡ show_port true parent place high r → show_hubs P (n - 1) t ≡ show_hubs P n s
  unfolding show_hub
  some_hubs normal high r t h a b e f =
      ap (show_hubs P (n - 1))
      (f ∙ ap (λ (x : Bool). show_port true parent place x r) b ∙ ap (show_port true parent place (summary true n s)) (e ∙ ap (λ (x : Bool). show_port false parent place x s) a))
      ∙ hubs_step P s n h

-- ---- all of them

pub built : (P s r t z : List ℕ) → r ≡ clear_masks (hubs_in P) s → t ≡ show_nodes P (plan_in P).nodes r → z ≡ show_hubs P (hubs_in P) t
    → z ≡ build_masks P s
unfolding build_masks
built P s r t z e f i = i ∙ ap (show_hubs P (hubs_in P)) (f ∙ ap (show_nodes P (plan_in P).nodes) e)
