-- What `mend_class`, `put_request` and `grant_node` leave, for each way that their functions go.
use mathlib.Core.Path.{◌≡◌, sym, ap, ap₂, ◌∙◌}
use mathlib.Core.Bool.{Bool, true, false, ◌||◌}
use mathlib.Core.List.{List}
use mathlib.Core.Logic.{◌⊎◌, ⊎_elim}
use Prim.Native.Nat.{ℕ, ◌≤◌, ◌<◌}
use borrow.Author.Tests.{le-ltb}
use lib.ListN.{get_or, set}
use Rattle.std.specs.Prelude.{if◌then◌else◌}
use Rattle.rules.specs.Plan.{most_nodes, most_levels}
use Rattle.rules.proofs.Laws.Passes.{or_left, or_right, or_both}
use Rattle.plan_tree.specs.Tables.{hub_of_node, port_of_node}
use Rattle.cells.specs.Layout.{standing_cell, request_cell, force_cell, granted_cell}
use Rattle.requests.proofs.Counting.{none-stands, normal_stands, none_high, high_stands, none_normal}
use Rattle.cells.specs.Masks.{stands_in, counts_by, mend, mend_bit, mend_class, standing_after, put_request, granted_more, grant_node}
use Rattle.cells.proofs.Within.{no_node}

-- b is what node k's cells say, and s₁ what the class's climb leaves
module _ (P : List ℕ) (is_high : Bool) (k x : ℕ) (s : List ℕ) where
  pub bit_put : (b : Bool) (s₁ : List ℕ) → b ≡ counts_by is_high x (get_or s (granted_cell k) 0) (get_or s (force_cell k) 0)
      → s₁ ≡ mend P is_high most_levels (hub_of_node P k) (port_of_node P k) b s → s₁ ≡ mend_bit P is_high k x s
  unfolding mend_bit
  bit_put b s₁ e f = f ∙ ap (λ (t : Bool). mend P is_high most_levels (hub_of_node P k) (port_of_node P k) t s) e

-- node k's bits where x came in place of `old`
module _ (P : List ℕ) (k old x : ℕ) (s : List ℕ) where
  abbrev bits : List ℕ
  bits = mend_class P true k old x (mend_class P false k old x s)

  concerns : Bool → Bool
  concerns is_high = stands_in is_high x || stands_in is_high old

  classes : (n h : Bool) → concerns false ≡ n → concerns true ≡ h
      → (let first = if n then mend_bit P false k x s else s in if h then mend_bit P true k x first else first) ≡ bits
  unfolding mend_class concerns
  classes n h e f =
      sym (ap₂ (λ (u v : Bool). (let first = if u then mend_bit P false k x s else s in if v then mend_bit P true k x first else first)) e f)

  pub none_then_none : x < 65536 → old < 65536 → s ≡ bits
  unfolding concerns
  none_then_none l m =
      classes false false (or_both _ _ (none-stands x false l) (none-stands old false m))
      (or_both _ _ (none-stands x true l) (none-stands old true m))

  -- s₁ is what one class's mending leaves, and s₂ what the high one's leaves then
  module _ (s₁ : List ℕ) where
    pub normal_off : x < 65536 → 65536 ≤ old → old < 131072 → s₁ ≡ mend_bit P false k x s → s₁ ≡ bits
    unfolding concerns
    normal_off l m u e =
        e ∙ classes true false (or_right (stands_in false x) _ (normal_stands old m u)) (or_both _ _ (none-stands x true l) (none_high old u))

    pub high_off : x < 65536 → 131072 ≤ old → s₁ ≡ mend_bit P true k x s → s₁ ≡ bits
    unfolding concerns
    high_off l m e =
        e ∙ classes false true (or_both _ _ (none-stands x false l) (none_normal old m)) (or_right (stands_in true x) _ (high_stands old m))

    pub normal_on : 65536 ≤ x → x < 131072 → old < 131072 → s₁ ≡ mend_bit P false k x s → s₁ ≡ bits
    unfolding concerns
    normal_on l u m e =
        e ∙ classes true false (or_left _ _ (normal_stands x l u)) (or_both _ _ (none_high x u) (none_high old m))

    pub high_on : 131072 ≤ x → (old < 65536) ⊎ (131072 ≤ old) → s₁ ≡ mend_bit P true k x s → s₁ ≡ bits
    unfolding concerns
    high_on l w e =
        e ∙ classes false true (or_both _ _ (none_normal x l) (⊎_elim (none-stands old false) (none_normal old) w)) (or_left _ _ (high_stands x l))

    module _ (s₂ : List ℕ) (e : s₁ ≡ mend_bit P false k x s) (f : s₂ ≡ mend_bit P true k x s₁) where
      both : concerns false ≡ true → concerns true ≡ true → s₂ ≡ bits
      both n h = f ∙ ap (mend_bit P true k x) e ∙ classes true true n h

      pub high_to_normal : 65536 ≤ x → x < 131072 → 131072 ≤ old → s₂ ≡ bits
      unfolding concerns
      high_to_normal l u m = both (or_left _ _ (normal_stands x l u)) (or_right (stands_in true x) _ (high_stands old m))

      pub normal_to_high : 131072 ≤ x → 65536 ≤ old → old < 131072 → s₂ ≡ bits
      unfolding concerns
      normal_to_high l m u = both (or_right (stands_in false x) _ (normal_stands old m u)) (or_left _ _ (high_stands x l))

module _ (P : List ℕ) (k : ℕ) (s : List ℕ) where
  module _ (x : ℕ) where
    pub request_beyond : ¬ ((1 ≤ k) × (k ≤ most_nodes)) → s ≡ put_request P k x s
    unfolding put_request
    request_beyond other = no_node k _ s other

    pub requested : 1 ≤ k → k ≤ most_nodes → (n : ℕ) (s₁ : List ℕ)
        → n ≡ standing_after (get_or s standing_cell 0) (get_or s (request_cell k) 0) x
        → s₁ ≡ bits P k (get_or s (request_cell k) 0) x (set (set s standing_cell n) (request_cell k) x)
        → s₁ ≡ put_request P k x s
    unfolding put_request
    requested l u n s₁ e f = f ∙ simp (le-ltb k 1 l, le-ltb most_nodes k u, e)

  module _ (is_high : Bool) where
    pub grant_beyond : ¬ ((1 ≤ k) × (k ≤ most_nodes)) → s ≡ grant_node P is_high k s
    unfolding grant_node
    grant_beyond other = no_node k _ s other

    pub granted : 1 ≤ k → k ≤ most_nodes → (n : ℕ) (s₁ : List ℕ)
        → n ≡ granted_more is_high (get_or s (granted_cell k) 0)
        → s₁ ≡ put_request P k 0 (set s (granted_cell k) n)
        → s₁ ≡ grant_node P is_high k s
    unfolding grant_node
    granted l u n s₁ e f = f ∙ simp (le-ltb k 1 l, le-ltb most_nodes k u, e)
