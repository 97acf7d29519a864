-- What each store leaves as it was, and what it stores.
use Prim.Native.Nat.{ℕ, ◌+◌, ◌≤◌, ◌<◌}
use mathlib.Core.Path.{◌≡◌}
use mathlib.Core.List.{List}
use native.Mathlib.Omega.{arith}
use lib.ListN.{length, get_or, set, length-set}
use lib.Seq.{get_or-set_same, get_or-set_other}
use Rattle.plan_tree.specs.Tables.{cells, hub_cell, port_cell, node_cell, hub_code, put_empty, put_node, put_hub, put_ports, put_root, hub_of_node_cell, level_cell, parent_cell, place_cell, port_of_node_cell, ports_cell}
use Rattle.plan.specs.Tables.{Figures, put_figures}

-- cell a of a table
abbrev pub cell : List ℕ → ℕ → ℕ
cell t a = get_or t a 0

module _ (t : List ℕ) where
  pub empty_length : (g q : ℕ) → length (put_empty g q t) ≡ length t
  unfolding put_empty
  empty_length g q = simp length-set

  pub node_length : (g q k : ℕ) → length (put_node g q k t) ≡ length t
  unfolding put_node
  node_length g q k = simp length-set

  pub hub_length : (g q h l : ℕ) → length (put_hub g q h l t) ≡ length t
  unfolding put_hub
  hub_length g q h l = simp length-set

  pub ports-length : (g q : ℕ) → length (put_ports g q t) ≡ length t
  unfolding put_ports
  ports-length g q = simp length-set

  pub root_length : length (put_root t) ≡ length t
  unfolding put_root
  root_length = simp length-set

  -- every other cell
  pub empty_other : (g q a : ℕ) → (a ≡ port_cell g q → ⊥) → cell (put_empty g q t) a ≡ cell t a
  unfolding put_empty
  empty_other g q a d = simp get_or-set_other

  pub node_other : (g q k a : ℕ) → (a ≡ port_cell g q → ⊥) → ((i : ℕ) → i < 2 → a ≡ node_cell k i → ⊥) → cell (put_node g q k t) a ≡ cell t a
  unfolding put_node
  node_other g q k a d e =
      let e0 = e 0 (omega arith) in
      let e1 = e 1 (omega arith) in
      simp get_or-set_other

  pub hub_other : (g q h l a : ℕ) → (a ≡ port_cell g q → ⊥) → ((i : ℕ) → i < 36 → a ≡ hub_cell h i → ⊥) → cell (put_hub g q h l t) a ≡ cell t a
  unfolding put_hub
  hub_other g q h l a d e =
      let e1 = e 1 (omega arith) in
      let e2 = e 2 (omega arith) in
      let e3 = e 3 (omega arith) in
      simp get_or-set_other

  pub ports_other : (g q a : ℕ) → (a ≡ ports_cell g → ⊥) → cell (put_ports g q t) a ≡ cell t a
  unfolding put_ports
  ports_other g q a d = simp get_or-set_other

  pub figures_other : (fig : Figures) (n h a : ℕ) → 8 ≤ a → cell (put_figures fig n h t) a ≡ cell t a
  unfolding put_figures
  figures_other fig n h a d =
      let e : (i : ℕ) → i < 8 → a ≡ i → ⊥ = λ i f g. omega arith in
      let e0 = e 0 (omega arith) in
      let e1 = e 1 (omega arith) in
      let e2 = e 2 (omega arith) in
      let e3 = e 3 (omega arith) in
      let e4 = e 4 (omega arith) in
      let e5 = e 5 (omega arith) in
      let e6 = e 6 (omega arith) in
      simp get_or-set_other

module _ (t : List ℕ) (full : length t ≡ cells) where
  -- the cells that are stored
  pub empty_port_lem : (g q : ℕ) → 1 ≤ g → g ≤ 32 → q ≤ 32 → cell (put_empty g q t) (port_cell g q) ≡ 0
  unfolding put_empty
  empty_port_lem g q a b c = get_or-set_same t (port_cell g q) 0 0 (omega arith)

  pub ports_count : (g q : ℕ) → 1 ≤ g → g ≤ 32 → cell (put_ports g q t) (ports_cell g) ≡ q
  unfolding put_ports
  ports_count g q a b = get_or-set_same t (ports_cell g) q 0 (omega arith)

  module _ (g q k : ℕ) (low : 1 ≤ g) (up : g ≤ 32) (thin : q ≤ 32) (some : 1 ≤ k) (few : k ≤ 256) where
    pub node_port_lem : cell (put_node g q k t) (port_cell g q) ≡ k
    unfolding put_node
    node_port_lem =
        let a : port_cell g q ≡ hub_of_node_cell k → ⊥ = omega arith in
        let b : port_cell g q ≡ port_of_node_cell k → ⊥ = omega arith in
        simp get_or-set_other (get_or-set_same t (port_cell g q) k 0 (omega arith))

    pub node_hub : cell (put_node g q k t) (hub_of_node_cell k) ≡ g
    unfolding put_node
    node_hub =
        let a : hub_of_node_cell k ≡ port_of_node_cell k → ⊥ = omega arith in
        simp get_or-set_other (get_or-set_same (set t (port_cell g q) k) (hub_of_node_cell k) g 0 (simp length-set (omega arith)))

    pub node_place : cell (put_node g q k t) (port_of_node_cell k) ≡ q
    unfolding put_node
    node_place =
        get_or-set_same (set (set t (port_cell g q) k) (hub_of_node_cell k) g) (port_of_node_cell k) q 0 (simp length-set (omega arith))

  module _ (g q h l : ℕ) (low : 1 ≤ g) (below : g < h) (up : h ≤ 32) (thin : q ≤ 32) where
    pub hub_port : cell (put_hub g q h l t) (port_cell g q) ≡ hub_code + h
    unfolding put_hub
    hub_port =
        let a : (i : ℕ) → port_cell g q ≡ hub_cell h i → ⊥ = λ i e. omega arith in
        let a1 = a 1 in
        let a2 = a 2 in
        let a3 = a 3 in
        simp get_or-set_other (get_or-set_same t (port_cell g q) (hub_code + h) 0 (omega arith))

    pub hub_parent : cell (put_hub g q h l t) (parent_cell h) ≡ g
    unfolding put_hub
    hub_parent =
        let a2 : parent_cell h ≡ place_cell h → ⊥ = omega arith in
        let a3 : parent_cell h ≡ level_cell h → ⊥ = omega arith in
        simp get_or-set_other
        (get_or-set_same (set t (port_cell g q) (hub_code + h)) (parent_cell h) g 0 (simp length-set (omega arith)))

    pub hub_place : cell (put_hub g q h l t) (place_cell h) ≡ q
    unfolding put_hub
    hub_place =
        let a3 : place_cell h ≡ level_cell h → ⊥ = omega arith in
        simp get_or-set_other
        (get_or-set_same (set (set t (port_cell g q) (hub_code + h)) (parent_cell h) g) (place_cell h) q 0 (simp length-set (omega arith)))

    pub hub_level : cell (put_hub g q h l t) (level_cell h) ≡ l
    unfolding put_hub
    hub_level =
        get_or-set_same (set (set (set t (port_cell g q) (hub_code + h)) (parent_cell h) g) (place_cell h) q) (level_cell h) l 0
        (simp length-set (omega arith))

  pub root_level : cell (put_root t) (level_cell 1) ≡ 1
  unfolding put_root
  root_level = get_or-set_same t (level_cell 1) 1 0 (omega arith)
