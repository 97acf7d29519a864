-- A hub entered afresh through a port that shows a request never hands
-- up: from there the walk only goes down, at most to the deepest level.
use Prim.Native.Nat.{ℕ, zero, suc, ◌+◌, ◌-◌, ◌≤◌}
use mathlib.Core.Path.{◌≡◌, refl, ap, subst}
use mathlib.Core.Bool.{Bool, true, false}
use native.Mathlib.Omega.{arith}
use Rattle.rules.specs.Choice.{put}
use Rattle.rules.specs.Plan.{Plan, Port, node, empty, hub, levels}
use Rattle.rules.specs.Call.{Class}
use Rattle.rules.specs.Drawn.{Drawn, Within, Covers}
use Rattle.rules.specs.Control.{Pointer, Control, at_port, marking, lowest, point, granted, walk}
use Rattle.rules.proofs.Laws.Passes.{put_same}
use Rattle.rules.proofs.Flat.InTurn.{ahead}
use Rattle.rules.proofs.Control.Intervals.{Counts, Clear, counts_clear}
use Rattle.rules.proofs.Control.Cover.{Holds, holds, Look, nothing, something, look}
use Rattle.rules.proofs.Control.Pointers.{Chain, root_within, Good, stands, chain_within, chain_put, chain_marked, good_to_root, good_up}
use Rattle.rules.proofs.Control.Steps.{same_self, others_none, point_others, others_trans, entered, own, own_unmarked, walk_node, walk_afresh}
use Rattle.rules.proofs.Control.Landing.{Landed, landed_on}
use Rattle.rules.proofs.Control.Choosing.{chosen_skip}
use Rattle.rules.proofs.Control.Levels.{level_up}

module _ (p : Plan) (D : Drawn p) (c : Class) (f : ℕ → Bool) where
  -- the node found at port q of the holder is granted: the pointer is the port behind it
  granted_lands : (σ : Control) (m x q k : ℕ) → Chain p (σ.pointer c) σ.holder → Within (p.ports σ.holder) q
      → Covers p D.above σ.holder q (node k) → Counts f (D.above σ.holder q) (D.above σ.holder (q + 1))
      → Clear f x (D.above σ.holder q)
      → Landed p D c f σ x m (record { node = k; state = granted c (point c σ.holder (at_port (q + 1)) σ); moves = m })
  granted_lands σ m x q k ch v (e, n) s cl =
      record {
        chosen = ahead (omega (arith, cl.low)) (omega (arith, good_up p D (root_within p D) good, D.root_last)) holds
            (λ j l u. cl.none j (omega arith) (omega arith));
        good = rw (same_self c) good;
        chain = rw (same_self c) chain;
        unmarked = rw (same_self c) (ap (λ (y : Pointer). y.marked) (put_same (σ.pointer c) σ.holder (at_port (q + 1))));
        latest = refl;
        others = point_others c σ.holder (at_port (q + 1)) σ;
        few = omega arith;
      }
    where
      chain : Chain p (put (σ.pointer c) σ.holder (at_port (q + 1))) σ.holder
      chain = chain_put p D σ.holder (at_port (q + 1)) (omega arith) ch

      good : Good p D (put (σ.pointer c) σ.holder (at_port (q + 1))) k 1
      good =
          good_to_root p D chain
          (stands (q + 1) (put_same (σ.pointer c) σ.holder (at_port (q + 1))) (omega arith) (omega (arith, v.up)) (omega arith))

      holds : f k ≡ true
      holds = subst (λ (j : ℕ). f j ≡ true) (omega (arith, s.past, s.up)) s.holds

  -- holder, pointer at port q without mark, something counts from there on: with n looks the walk lands
  unfoldable pub FreshAt : ℕ → Type 0
  FreshAt n =
      (σ : Control) (m q : ℕ) → Chain p (σ.pointer c) σ.holder → σ.pointer c σ.holder ≡ at_port q → 1 ≤ q → q ≤ p.ports σ.holder + 1
      → Counts f (D.above σ.holder q) (D.above σ.holder (p.ports σ.holder + 1)) → levels p + 1 ≤ n + p.level σ.holder
      → Landed p D c f σ (D.above σ.holder q) (m + (levels p - p.level σ.holder)) (walk p c f n σ m)

  -- the hub found at port q of the holder is entered afresh
  entered_lands : (n : ℕ) → FreshAt n → (σ : Control) (m x q h : ℕ) → Chain p (σ.pointer c) σ.holder → Holds p D σ.holder q h
      → Counts f (D.above σ.holder q) (D.above σ.holder (q + 1)) → Clear f x (D.above σ.holder q)
      → levels p + 1 ≤ suc n + p.level σ.holder
      → Landed p D c f σ x (m + (levels p - p.level σ.holder)) (walk p c f n (entered c q h σ) (m + 1))
  unfolding FreshAt
  entered_lands n fresh σ m x q h ch k s cl fuel =
      landed_on p D c f {τ = entered c q h σ} (λ i. chosen_skip (rw k.first cl))
      (others_trans (point_others c σ.holder (marking q) σ) (point_others c h (at_port 1) (point c σ.holder (marking q) σ)))
      (omega (arith, k.hung.level, level_up p D h k.hung.number))
      (fresh (entered c q h σ) (m + 1) 1
      (rw (same_self c) (chain_put p D h (at_port 1) (omega arith) (chain_marked p D q h k ch)))
      (rw (same_self c) (put_same (put (σ.pointer c) σ.holder (marking q)) h (at_port 1))) (omega arith) (omega arith)
      (rw (k.first, ← k.last) s)
      (omega (arith, k.hung.level)))

  -- what the holder finds at port q, unless it resumes a hub there
  pub found_lands : (n : ℕ) → FreshAt n → (σ : Control) (m x q : ℕ) → Chain p (σ.pointer c) σ.holder
      → lowest p f σ.holder (σ.pointer c σ.holder).port ≡ q → Within (p.ports σ.holder) q
      → Counts f (D.above σ.holder q) (D.above σ.holder (q + 1)) → Clear f x (D.above σ.holder q) → own c q σ ≡ false
      → levels p + 1 ≤ suc n + p.level σ.holder
      → Landed p D c f σ x (m + (levels p - p.level σ.holder)) (walk p c f (suc n) σ m)
  found_lands n fresh σ m x q ch e v s cl o fuel = go (p.port σ.holder q) refl (D.covers σ.holder q (chain_within p D ch) v)
    where
      go : (y : Port) → p.port σ.holder q ≡ y → Covers p D.above σ.holder q y
          → Landed p D c f σ x (m + (levels p - p.level σ.holder)) (walk p c f (suc n) σ m)
      go (node k) i cv =
          rw (walk_node p c f n σ m q k e v.low i)
          (landed_on p D c f (λ j t. t) (others_none c σ.pointer) (omega arith) (granted_lands σ m x q k ch v cv s cl))
      go empty i cv = absurd (omega (arith, s.past, s.up))
      go (hub h) i cv =
          rw (walk_afresh p c f n σ m q h e v.low i o)
          (entered_lands n fresh σ m x q h ch (holds p D σ.holder q h (chain_within p D ch) v i) s cl fuel)

  pub fresh_lands : (n : ℕ) → FreshAt n
  unfolding FreshAt
  fresh_lands zero σ m q ch e l u s fuel = absurd (omega (arith, level_up p D σ.holder (chain_within p D ch)))
  fresh_lands (suc n) σ m q ch e l u s fuel =
      go (fresh_lands n) (lowest p f σ.holder q) (ap (λ (y : Pointer). lowest p f σ.holder y.port) e)
      (look p D f σ.holder q (chain_within p D ch) l u)
    where
      go : FreshAt n → (r : ℕ) → lowest p f σ.holder (σ.pointer c σ.holder).port ≡ r → Look p D f σ.holder q r
          → Landed p D c f σ (D.above σ.holder q) (m + (levels p - p.level σ.holder)) (walk p c f (suc n) σ m)
      go fresh r h (nothing z cl) = absurd (counts_clear s cl)
      go fresh r h (something v i cl t) =
          found_lands n fresh σ m (D.above σ.holder q) r ch h v t cl (own_unmarked c q r σ e) fuel
