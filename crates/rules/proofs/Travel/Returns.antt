-- Where the root's pointer returns in a walk from a pointer without mark: once, if nothing counts behind the search, and
-- else not at all. So the node that is granted tells it: it stands behind the search just where there was no return.
use Prim.Native.Nat.{ℕ, zero, suc, ◌+◌, ◌≤◌, ◌<◌}
use mathlib.Core.Path.{◌≡◌, refl}
use mathlib.Core.Bool.{Bool, true}
use native.Mathlib.Omega.{arith}
use lib.Dec.{leb}
use borrow.Author.Tests.{leb-false, lt-leb}
use Rattle.std.specs.Prelude.{if◌then◌else◌}
use Rattle.rules.specs.Choice.{any}
use Rattle.rules.specs.Plan.{Plan}
use Rattle.rules.specs.Call.{Class}
use Rattle.rules.specs.Machine.{Turn}
use Rattle.rules.specs.Drawn.{Drawn}
use Rattle.rules.specs.Control.{Control, at_port, point, up, walk}
use Rattle.rules.specs.Travel.{walk_returns}
use Rattle.rules.proofs.Laws.Passes.{Which, which, yes', no', true-false, any_some}
use Rattle.rules.proofs.Control.Intervals.{Counts, Clear, counts_clear, clear_join}
use Rattle.rules.proofs.Control.Cover.{rises}
use Rattle.rules.proofs.Control.Steps.{entered}
use Rattle.rules.proofs.Travel.Looks.{Unmarked, unmarked_entered, unmarked_round, unmarked-up, hung, Looked, grants, enters, hands_up, goes_round, looked}

module _ (p : Plan) (D : Drawn p) (c : Class) (f : ℕ → Bool) where
  -- something counts from port q on, in the holder or below it
  unfoldable StraightAt : ℕ → Type 0
  StraightAt n =
      (σ : Control) (q : ℕ) → Unmarked p c σ q → Counts f (D.above σ.holder q) (D.above σ.holder (p.ports σ.holder + 1))
      → walk_returns p c f n σ ≡ 0

  straight : (n : ℕ) → StraightAt n
  unfolding StraightAt walk_returns
  straight zero σ q s t = refl
  straight (suc n) σ q s t = go (straight n) (looked p D c f n σ 0 q s)
    where
      go : {u : Turn Control} {w : ℕ} → StraightAt n → Looked p D c f n σ 0 q u w → w ≡ 0
      go onward (grants r k v l i j) = refl
      go onward (enters r h v l k cl i) = onward (entered c r h σ) 1 (unmarked_entered p D c s r h k) (rw (k.first, ← k.last) i)
      go onward (hands_up i cl) = absurd (counts_clear t cl)
      go onward (goes_round i cl) = absurd (counts_clear t cl)

  -- from behind node x, with w returns, to node k
  pub data Told (x w k : ℕ) : Type 0 where
    onward : w ≡ 0 → x < k → Told x w k
    around : w ≡ 1 → Clear f x p.nodes → Told x w k

  told_on : {x y w k : ℕ} → Clear f x y → Told y w k → Told x w k
  told_on cl (onward e l) = onward e (omega (arith, cl.low))
  told_on cl (around e o) = around e (clear_join cl o)

  -- a node of which f holds tells it
  pub told_by : {x w k : ℕ} → f k ≡ true → k ≤ p.nodes → Told x w k → w ≡ (if leb k x then 1 else 0)
  told_by {x} {w} {k} t u (onward e l) = rw (lt-leb k x l) e
  told_by {x} {w} {k} t u (around e cl) = go (which (leb k x))
    where
      go : Which (leb k x) → w ≡ (if leb k x then 1 else 0)
      go (yes' i) = rw i e
      go (no' i) = absurd (true-false t (cl.none k (leb-false k x i) u))

  module _ (some : any p.nodes f ≡ true) where
    unfoldable pub ToldAt : ℕ → Type 0
    ToldAt n =
        (σ : Control) (m q : ℕ) → Unmarked p c σ q → ((walk p c f n σ m).node ≡ 0 → ⊥)
        → Told (D.above σ.holder q) (walk_returns p c f n σ) (walk p c f n σ m).node

    -- the root goes round: something counts from its port 1 on
    round_told : (n : ℕ) (σ : Control) (q k : ℕ) → Unmarked p c σ q → σ.holder ≡ 1
        → Clear f (D.above σ.holder q) (D.above σ.holder (p.ports σ.holder + 1))
        → Told (D.above σ.holder q) (walk_returns p c f n (point c 1 (at_port 1) σ) + 1) k
    unfolding StraightAt
    round_told n σ q k s i cl =
        let a = any_some p.nodes f some in
        let first : D.above σ.holder 1 ≡ 0 = rw i D.root_first in
        let last : D.above σ.holder (p.ports σ.holder + 1) ≡ p.nodes = rw i D.root_last in
        let none =
        straight n (point c 1 (at_port 1) σ) 1 (unmarked_round p D c s i)
        (record { number = a.number; past = omega (arith, a.within.low); up = omega (arith, a.within.up); holds = a.holds }) in
        around (omega arith) (rw last at cl)

    pub tells : (n : ℕ) → ToldAt n
    unfolding ToldAt walk walk_returns
    tells zero σ m q s z = absurd (z refl)
    tells (suc n) σ m q s z = go (tells n) (looked p D c f n σ m q s) z
      where
        go : {t : Turn Control} {w : ℕ} → ToldAt n → Looked p D c f n σ m q t w → (t.node ≡ 0 → ⊥) → Told (D.above σ.holder q) w t.node
        go farther (grants r k v l i j) z =
            onward refl (omega (arith, rises p D σ.holder q r s.within s.low l (omega (arith, v.up))))
        go farther (enters r h v l k cl i) z = told_on (rw k.first cl) (farther (entered c r h σ) (m + 1) 1 (unmarked_entered p D c s r h k) z)
        go farther (hands_up i cl) z =
            told_on (rw (hung p D c s i).last cl) (farther (up p c σ) (m + 1) (p.place σ.holder + 1) (unmarked-up p D c s i) z)
        go farther (goes_round i cl) z = round_told n σ q _ s i cl
