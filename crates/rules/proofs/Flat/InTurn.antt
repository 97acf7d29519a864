-- The flat rule's choice: the first counting node from the pointer on, or, where there is none, the first one of all.
use Prim.Native.Nat.{ℕ, ◌+◌, ◌-◌, ◌≤◌, ◌<◌}
use mathlib.Core.Path.{◌≡◌}
use mathlib.Core.Bool.{Bool, true, false}
use native.Mathlib.Omega.{arith}
use lib.Dec.{eqb, ltb}
use borrow.Author.Tests.{eq-eqb, ne_eqb, ltb-true, ltb-false}
use Rattle.std.specs.Prelude.{if◌then◌else◌}
use Rattle.rules.specs.Choice.{any, first}
use Rattle.rules.specs.Plan.{Plan}
use Rattle.rules.specs.Flat.{in_turn}
use Rattle.rules.proofs.Laws.Passes.{Found, missing, lowest, first_found, any_some, true-false, Which, which, yes', no'}

-- k is the choice from the pointer a among nodes 1 to n
pub data Chosen (f : ℕ → Bool) (n a k : ℕ) : Type 0 where
  ahead : a ≤ k → k ≤ n → f k ≡ true → ((j : ℕ) → a ≤ j → j < k → f j ≡ false) → Chosen f n a k
  round : 1 ≤ k → k < a → k ≤ n → f k ≡ true → ((j : ℕ) → a ≤ j → j ≤ n → f j ≡ false) → ((j : ℕ) → 1 ≤ j → j < k → f j ≡ false) → Chosen f n a k

module _ (p : Plan) (f : ℕ → Bool) (a : ℕ) (some : any p.nodes f ≡ true) (low : 1 ≤ a) where
  -- the search went round: node by node from 1 on
  once_round : ((j : ℕ) → a ≤ j → j ≤ p.nodes → f j ≡ false) → Found f 1 p.nodes (first f 1 p.nodes)
      → Chosen f p.nodes a (first f 1 p.nodes)
  once_round none (missing z all) =
      let s = any_some p.nodes f some in
      absurd (true-false s.holds (all s.number s.within.low (omega (arith, s.within.up))))
  once_round none (lowest l u t less) = round l (go (which (ltb (first f 1 p.nodes) a))) (omega arith) t none less
    where
      go : Which (ltb (first f 1 p.nodes) a) → first f 1 p.nodes < a
      go (yes' e) = ltb-true _ _ e
      go (no' e) = absurd (true-false t (none (first f 1 p.nodes) (ltb-false _ _ e) (omega arith)))

  pub chosen : a ≤ p.nodes + 1 → Chosen f p.nodes a (in_turn p f a)
  unfolding in_turn
  chosen up = go (first_found f a (p.nodes + 1 - a))
    where
      go : Found f a (p.nodes + 1 - a) (first f a (p.nodes + 1 - a))
          → Chosen f p.nodes a (if eqb (first f a (p.nodes + 1 - a)) 0 then first f 1 p.nodes else first f a (p.nodes + 1 - a))
      go (missing z none) =
          rw (eq-eqb (first f a (p.nodes + 1 - a)) 0 z)
          (once_round (λ j l h. none j l (omega arith)) (first_found f 1 p.nodes))
      go (lowest l u t less) =
          rw (ne_eqb (first f a (p.nodes + 1 - a)) 0 (λ e. omega arith))
          (ahead l (omega arith) t less)
