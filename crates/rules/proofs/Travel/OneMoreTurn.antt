-- One more turn of the class of the latest grant, from behind the node that
-- was granted: it keeps to the round, and its node tells the returns.
use Prim.Native.Nat.{ℕ}
use mathlib.Core.Path.{◌≡◌, sym, ap, subst}
use mathlib.Core.Bool.{Bool, true}
use native.Mathlib.Omega.{arith}
use lib.Dec.{leb}
use Rattle.std.specs.Prelude.{if◌then◌else◌}
use Rattle.rules.specs.Choice.{any}
use Rattle.rules.specs.Plan.{Plan}
use Rattle.rules.specs.Drawn.{Drawn}
use Rattle.rules.specs.Call.{Class, same}
use Rattle.rules.specs.Machine.{Turn}
use Rattle.rules.specs.Flat.{Pointers}
use Rattle.rules.specs.Control.{Control, Pointer, most_looks, walk, choose_by}
use Rattle.rules.specs.Travel.{walk_returns, choose_returns}
use Rattle.rules.proofs.Laws.Passes.{true-false}
use Rattle.rules.proofs.Flat.Turns.{chosen_counts}
use Rattle.rules.proofs.Control.Pointers.{Good, stands, inside, chain_within, good_from_root}
use Rattle.rules.proofs.Control.Steps.{same_self}
use Rattle.rules.proofs.Control.Landing.{Landed}
use Rattle.rules.proofs.Control.FollowsFlat.{Like, choose_lands}
use Rattle.rules.proofs.Travel.Looks.{Unmarked}
use Rattle.rules.proofs.Travel.Rounds.{Tour}
use Rattle.rules.proofs.Travel.WalkInRound.{Toured, TourAt, tours}
use Rattle.rules.proofs.Travel.Returns.{ToldAt, told_by, tells}

module _ (p : Plan) (D : Drawn p) (c : Class) where
  -- the latest grant was of class c, to node k: the holder looks from behind it
  pub record Behind (σ : Control) (k : ℕ) : Type 0 where
    pub latest : σ.latest ≡ c
    pub port : ℕ
    pub looks : Unmarked p c σ port
    pub at : D.above σ.holder port ≡ k

  pub landed_behind : {f : ℕ → Bool} {σ : Control} {x b : ℕ} {t : Turn Control} → Landed p D c f σ x b t → Behind t.state t.node
  landed_behind {t = t} l = go (good_from_root p D l.chain l.good)
    where
      go : Good p D (t.state.pointer c) t.node t.state.holder → Behind t.state t.node
      go (stands q e a b s) =
          record { latest = l.latest; port = q; looks = record { within = chain_within p D l.chain; pointer = e; low = a; high = b }; at = sym s }
      go (inside q h e v s g) = absurd (true-false (ap (λ (y : Pointer). y.marked) e) l.unmarked)

  -- one more turn of class c is a walk from the holder
  module _ (f : ℕ → Bool) (σ : Control) (e : σ.latest ≡ c) where
    same_class : same c σ.latest ≡ true
    same_class = subst (λ (d : Class). same c d ≡ true) (sym e) (same_self c)

    same_turn : choose_by p c f σ ≡ walk p c f most_looks σ 0
    unfolding choose_by
    same_turn = rw same_class

    same-returns : choose_returns p c f σ ≡ walk_returns p c f most_looks σ
    unfolding choose_returns
    same-returns = rw same_class

  -- it keeps to the round
  pub chosen_tours : (f : ℕ → Bool) (σ : Control) (s : Tour p D c σ) → Toured p D c s.passings 0 (choose_returns p c f σ) (choose_by p c f σ)
  unfolding TourAt
  chosen_tours f σ s = rw (same_turn f σ s.latest, same-returns f σ s.latest) (tours p D c f most_looks σ 0 s)

  -- and its node tells the returns
  pub chosen_tells : (f : ℕ → Bool) (σ : Control) (π : Pointers) → any p.nodes f ≡ true → Like p D σ π → (k : ℕ) → Behind σ k
      → choose_returns p c f σ ≡ (if leb (choose_by p c f σ).node k then 1 else 0)
  unfolding ToldAt
  chosen_tells f σ π some l k b =
      let e = same_turn f σ b.latest in
      let n = rw e at (chosen_counts (omega arith) (choose_lands p D c f σ π some l).chosen) in
      rw (e, same-returns f σ b.latest, ← b.at)
      (told_by p D c f n.holds n.within.up
      (tells p D c f some most_looks σ 0 b.port b.looks (λ z. omega (arith, n.within.low))))
