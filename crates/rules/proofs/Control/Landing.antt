-- Where a walk lands: at the flat rule's choice, with the pointers behind
-- it, in few moves. And how that is carried over what a look passes.
use Prim.Native.Nat.{ℕ, ◌+◌, ◌≤◌}
use mathlib.Core.Path.{◌≡◌}
use mathlib.Core.Bool.{Bool, false}
use native.Mathlib.Omega.{arith}
use Rattle.rules.specs.Plan.{Plan}
use Rattle.rules.specs.Call.{Class}
use Rattle.rules.specs.Machine.{Turn}
use Rattle.rules.specs.Drawn.{Drawn}
use Rattle.rules.specs.Control.{Control}
use Rattle.rules.proofs.Flat.InTurn.{Chosen}
use Rattle.rules.proofs.Control.Pointers.{Chain, Good}
use Rattle.rules.proofs.Control.Steps.{Others, others_trans}

module _ (p : Plan) (D : Drawn p) (c : Class) (f : ℕ → Bool) where
  -- from σ, the search standing behind x
  pub record Landed (σ : Control) (x bound : ℕ) (t : Turn Control) : Type 0 where
    pub chosen : Chosen f p.nodes (x + 1) t.node
    pub good : Good p D (t.state.pointer c) t.node 1
    pub chain : Chain p (t.state.pointer c) t.state.holder
    pub unmarked : (t.state.pointer c t.state.holder).marked ≡ false
    pub latest : t.state.latest ≡ c
    pub others : Others c σ.pointer t.state.pointer
    pub few : t.moves ≤ bound

  -- a walk on from τ, where the search stands behind y
  pub landed_on : {σ τ : Control} {x y a b : ℕ} {t : Turn Control} → ((k : ℕ) → Chosen f p.nodes (y + 1) k → Chosen f p.nodes (x + 1) k)
      → Others c σ.pointer τ.pointer → a ≤ b → Landed τ y a t → Landed σ x b t
  landed_on {t = t} n o u l =
      record {
        chosen = n t.node l.chosen;
        good = l.good;
        chain = l.chain;
        unmarked = l.unmarked;
        latest = l.latest;
        others = others_trans o l.others;
        few = omega (arith, l.few);
      }
