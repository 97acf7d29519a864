-- A turn machine that follows the flat rule: its states are tied to the flat hub's pointers, and it grants the
-- flat hub's node. What is proved over such a machine holds of the flat hub and of hub-by-hub control alike.
use Prim.Native.Nat.{ℕ}
use mathlib.Core.Path.{◌≡◌, refl}
use mathlib.Core.Bool.{Bool, true}
use Rattle.rules.specs.Choice.{any}
use Rattle.rules.specs.Plan.{Plan}
use Rattle.rules.specs.Call.{Class}
use Rattle.rules.specs.Machine.{Machine}
use Rattle.rules.specs.Flat.{flat, Pointers, in_turn, passed}

pub record Follows (p : Plan) (M : Machine) : Type 1 where
  pub Like : M.State → Pointers → Type 0
  pub start : Like M.start (λ c. 1)
  pub node : (c : Class) (f : ℕ → Bool) (σ : M.State) (π : Pointers) → any p.nodes f ≡ true → Like σ π → (M.choose c f σ).node ≡ in_turn p f (π c)
  pub state : (c : Class) (f : ℕ → Bool) (σ : M.State) (π : Pointers) → any p.nodes f ≡ true → Like σ π
      → Like (M.choose c f σ).state (passed p c (in_turn p f (π c)) π)
  pub rests : (σ : M.State) (π : Pointers) → Like σ π → Like (M.rested σ).state π

-- the flat hub follows itself
pub flat_follows : (p : Plan) → Follows p (flat p)
flat_follows p =
    record {
      Like = λ σ π. σ ≡ π;
      start = refl;
      node = λ c f σ π some e. cc;
      state = λ c f σ π some e. cc;
      rests = λ σ π e. e;
    }
