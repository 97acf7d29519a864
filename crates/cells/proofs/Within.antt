-- What stands for a number that the table has cells for, and for any other one.
use Prim.Native.Nat.{ℕ, ◌≤◌, ◌<◌}
use mathlib.Core.Path.{◌≡◌, refl}
use mathlib.Core.Bool.{Bool, true, false}
use native.Mathlib.Omega.{arith}
use lib.Dec.{ltb}
use borrow.Author.Tests.{lt-ltb, le-ltb, ltb-false}
use Rattle.rules.specs.Plan.{most_hubs, most_nodes}
use Rattle.cells.specs.Layout.{if_hub, if_node}

module _ {A : Type 0} (n : ℕ) (a b : A) where
  pub of_hub : 1 ≤ n → n ≤ most_hubs → a ≡ if_hub n a b
  of_hub l u = simp (le-ltb n 1 l, le-ltb most_hubs n u)

  pub of_node : 1 ≤ n → n ≤ most_nodes → a ≡ if_node n a b
  of_node l u = simp (le-ltb n 1 l, le-ltb most_nodes n u)

  pub no_hub : ¬ ((1 ≤ n) × (n ≤ most_hubs)) → b ≡ if_hub n a b
  no_hub other = go (ltb n 1) refl
    where
      go : (t : Bool) → ltb n 1 ≡ t → b ≡ if_hub n a b
      go true e = simp e
      go false e =
          let past : most_hubs < n = omega (arith, λ (u : n ≤ most_hubs). other (ltb-false n 1 e, u)) in
          simp (e, lt-ltb most_hubs n past)

  pub no_node : ¬ ((1 ≤ n) × (n ≤ most_nodes)) → b ≡ if_node n a b
  no_node other = go (ltb n 1) refl
    where
      go : (t : Bool) → ltb n 1 ≡ t → b ≡ if_node n a b
      go true e = simp e
      go false e =
          let past : most_nodes < n = omega (arith, λ (u : n ≤ most_nodes). other (ltb-false n 1 e, u)) in
          simp (e, lt-ltb most_nodes n past)
