-- A machine that follows the flat rule grants a node of 1 to N that counts. Its states stay like pointers within 1 to N.
use Prim.Native.Nat.{ℕ, ◌+◌, ◌≤◌}
use mathlib.Core.Path.{◌≡◌, refl}
use mathlib.Core.Bool.{Bool, true, false}
use native.Mathlib.Omega.{arith}
use lib.Dec.{eqb}
use borrow.Author.Tests.{eqb-false}
use Rattle.std.specs.Prelude.{if◌then◌else◌}
use Rattle.rules.specs.Choice.{any}
use Rattle.rules.specs.Plan.{Plan}
use Rattle.rules.specs.Call.{Class, same}
use Rattle.rules.specs.Drawn.{Within}
use Rattle.rules.specs.Machine.{Machine}
use Rattle.rules.specs.Flat.{Pointers, in_turn, behind, passed}
use Rattle.rules.proofs.Flat.InTurn.{Chosen, ahead, round, chosen}
use Rattle.rules.proofs.Flat.Follows.{Follows}

-- k is a node of which f holds
pub record Counting (n : ℕ) (f : ℕ → Bool) (k : ℕ) : Type 0 where
  pub within : Within n k
  pub holds : f k ≡ true

-- the flat rule's choice is one
pub chosen_counts : {f : ℕ → Bool} {n a k : ℕ} → 1 ≤ a → Chosen f n a k → Counting n f k
chosen_counts h (ahead l u t less) = record { within = record { low = omega arith; up = u }; holds = t }
chosen_counts h (round l b u t none less) = record { within = record { low = l; up = u }; holds = t }

module _ (p : Plan) where
  in_turn_counts : (f : ℕ → Bool) (a : ℕ) → any p.nodes f ≡ true → Within p.nodes a → Counting p.nodes f (in_turn p f a)
  in_turn_counts f a some w = chosen_counts w.low (chosen p f a some w.low (omega (arith, w.up)))

  behind_within : (k : ℕ) → Within p.nodes k → Within p.nodes (behind p k)
  behind_within k w = go (eqb k p.nodes) refl
    where
      go : (b : Bool) → eqb k p.nodes ≡ b → Within p.nodes (if b then 1 else k + 1)
      go true e = record { low = omega arith; up = omega (arith, w.low, w.up) }
      go false e = record { low = omega arith; up = omega (arith, w.up, eqb-false k p.nodes e) }

module _ (p : Plan) (M : Machine) (follows : Follows p M) where
  -- a machine's state is like some pointers within 1 to N
  pub record Pointed (σ : M.State) : Type 0 where
    pub pointers : Pointers
    pub like : follows.Like σ pointers
    pub within : (c : Class) → Within p.nodes (pointers c)

  pub pointed_start : 1 ≤ p.nodes → Pointed M.start
  pointed_start some = record { pointers = λ c. 1; like = follows.start; within = λ c. record { low = omega arith; up = some } }

  module _ (σ : M.State) (π : Pointed σ) where
    pub pointed_rest : Pointed (M.rested σ).state
    pointed_rest = record { pointers = π.pointers; like = follows.rests σ π.pointers π.like; within = π.within }

    module _ (c : Class) (f : ℕ → Bool) (some : any p.nodes f ≡ true) where
      choice : Counting p.nodes f (in_turn p f (π.pointers c))
      choice = in_turn_counts p f (π.pointers c) some (π.within c)

      pub node_counts : Counting p.nodes f (M.choose c f σ).node
      node_counts = rw (follows.node c f σ π.pointers some π.like) choice

      -- it is the first from the pointer on, going round
      pub node_chosen : Chosen f p.nodes (π.pointers c) (M.choose c f σ).node
      node_chosen =
          rw (follows.node c f σ π.pointers some π.like)
          (chosen p f (π.pointers c) some (π.within c).low (omega (arith, (π.within c).up)))

      pub pointed_turn : Pointed (M.choose c f σ).state
      pointed_turn =
          record {
            pointers = passed p c (in_turn p f (π.pointers c)) π.pointers;
            like = follows.state c f σ π.pointers some π.like;
            within = λ d. go d (same d c);
          }
        where
          go : (d : Class) (b : Bool) → Within p.nodes (if b then behind p (in_turn p f (π.pointers c)) else π.pointers d)
          go d true = behind_within p (in_turn p f (π.pointers c)) choice.within
          go d false = π.within d

      -- they move behind the turn's node
      pub pointers_turn : pointed_turn.pointers ≡ passed p c (M.choose c f σ).node π.pointers
      unfolding pointed_turn
      pointers_turn = rw (follows.node c f σ π.pointers some π.like)
