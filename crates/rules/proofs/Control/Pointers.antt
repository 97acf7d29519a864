-- The pointers of one class, as a table P over hubs. From a hub down, they say where
-- the search stands (Good); above the holder they are marked and on its line (Chain).
use Prim.Native.Nat.{ℕ, ◌+◌, ◌≤◌, ◌<◌}
use mathlib.Core.Path.{◌≡◌, refl, sym, ap, ◌∙◌, subst}
use native.Mathlib.Omega.{arith}
use Rattle.rules.specs.Choice.{put}
use Rattle.rules.specs.Plan.{Plan, hub}
use Rattle.rules.specs.Drawn.{Drawn, Within}
use Rattle.rules.specs.Control.{Pointer, at_port, marking}
use Rattle.rules.proofs.Laws.Passes.{true-false, put_same, put_other}
use Rattle.rules.proofs.Control.Cover.{rises, Holds, holds, hangs}

-- every hub above g has its pointer marked and on g's line
pub data Chain (p : Plan) (P : ℕ → Pointer) : ℕ → Type 0 where
  root : Chain p P 1
  under : {h : ℕ} → 2 ≤ h → h ≤ p.hubs → P (p.parent h) ≡ marking (p.place h) → Chain p P (p.parent h) → Chain p P h

-- a lower hub, and the chain of the hub above it
pub record Above (p : Plan) (P : ℕ → Pointer) (g : ℕ) : Type 0 where
  pub low : 2 ≤ g
  pub up : g ≤ p.hubs
  pub chain : Chain p P (p.parent g)

-- from hub g down the search has passed the nodes up to x: an unmarked pointer
-- stands before its port's first node, a marked one goes by the hub there
pub data Good (p : Plan) (D : Drawn p) (P : ℕ → Pointer) (x : ℕ) : ℕ → Type 0 where
  stands : {g : ℕ} (q : ℕ) → P g ≡ at_port q → 1 ≤ q → q ≤ p.ports g + 1 → x ≡ D.above g q → Good p D P x g
  inside : {g : ℕ} (q h : ℕ) → P g ≡ marking q → Within (p.ports g) q → p.port g q ≡ hub h → Good p D P x h → Good p D P x g

pub unmarked_marked : {x : Pointer} {q r : ℕ} → x ≡ at_port q → x ≡ marking r → ⊥
unmarked_marked e h = true-false (ap (λ (y : Pointer). y.marked) h) (ap (λ (y : Pointer). y.marked) e)

module _ (p : Plan) (D : Drawn p) where
  pub root_within : Within p.hubs 1
  root_within = record { low = omega arith; up = D.some_hub }

module _ (p : Plan) (D : Drawn p) {P : ℕ → Pointer} where
  pub chain_within : {g : ℕ} → Chain p P g → Within p.hubs g
  chain_within root = root_within p D
  chain_within (under l u e c) = record { low = omega arith; up = u }

  pub chain_level : {g : ℕ} → Chain p P g → 1 ≤ p.level g
  chain_level root = omega (arith, D.root_level)
  chain_level (under {h} l u e c) = omega (arith, (hangs p D h l u).hung.level)

  -- the chain of a lower hub goes on to its parent
  pub chain_up : {g : ℕ} → Chain p P g → (g ≡ 1 → ⊥) → Above p P g
  chain_up root n = absurd (n refl)
  chain_up (under l u e c) n = record { low = l; up = u; chain = c }

  -- the chain goes on to the hub at a marked pointer
  pub chain_down : {g : ℕ} (q h : ℕ) → Holds p D g q h → P g ≡ marking q → Chain p P g → Chain p P h
  chain_down {g} q h k e c =
      let t = k.hung in
      let w = chain_within c in
      under {h = h} (omega (arith, t.below, w.low)) t.number.up (rw (t.parent, t.place) e) (rw t.parent c)

  -- the search stands within the hub's own interval
  pub good_low : {x g : ℕ} → Within p.hubs g → Good p D P x g → D.above g 1 ≤ x
  good_low {x} {g} w (stands q e l u s) = rw s (rises p D g 1 q w (omega arith) l u)
  good_low {x} {g} w (inside q h e v s t) =
      let k = holds p D g q h w v s in
      let i = good_low k.hung.number t in
      let r = rises p D g 1 q w (omega arith) v.low (omega (arith, v.up)) in
      omega arith

  pub good_up : {x g : ℕ} → Within p.hubs g → Good p D P x g → x ≤ D.above g (p.ports g + 1)
  good_up {x} {g} w (stands q e l u s) = rw s (rises p D g q (p.ports g + 1) w l u (omega arith))
  good_up {x} {g} w (inside q h e v s t) =
      let k = holds p D g q h w v s in
      let i = good_up k.hung.number t in
      let r = rises p D g (q + 1) (p.ports g + 1) w (omega arith) (omega (arith, v.up)) (omega arith) in
      omega arith

  -- along the chain the search stands where it stands from the root
  pub good_to_root : {x g : ℕ} → Chain p P g → Good p D P x g → Good p D P x 1
  good_to_root root t = t
  good_to_root (under {h} l u e c) t =
      good_to_root c (inside (p.place h) h e (D.hung_place h l u) (D.hung_port h l u) t)

  good_inside : {x : ℕ} (g h : ℕ) → g ≡ p.parent h → 2 ≤ h → h ≤ p.hubs → P g ≡ marking (p.place h) → Good p D P x g → Good p D P x h
  good_inside g h i l u e (stands q s a b c) = absurd (unmarked_marked s e)
  good_inside {x} g h i l u e (inside q k s v d t) =
      let r : q ≡ p.place h = ap (λ (y : Pointer). y.port) (sym s ∙ e) in
      let n : hub k ≡ hub h = cc (D.hung_port h l u) in
      subst (λ (j : ℕ). Good p D P x j) (cc) t

  pub good_from_root : {x g : ℕ} → Chain p P g → Good p D P x 1 → Good p D P x g
  good_from_root root t = t
  good_from_root (under {h} l u e c) t = good_inside (p.parent h) h refl l u e (good_from_root c t)

  -- a change of one hub's pointer is seen neither below a later hub, nor above it
  pub good_put : {x h : ℕ} (g : ℕ) (v : Pointer) → Within p.hubs h → g < h → Good p D P x h → Good p D (put P g v) x h
  good_put {x} {h} g v w m (stands q e l u s) = stands q (put_other P g v h (λ i. omega arith) ∙ e) l u s
  good_put {x} {h} g v w m (inside q k e a s t) =
      let n = (holds p D h q k w a s).hung in
      inside q k (put_other P g v h (λ i. omega arith) ∙ e) a s (good_put g v n.number (omega (arith, n.below)) t)

  pub chain_put : {g : ℕ} (h : ℕ) (v : Pointer) → g ≤ h → Chain p P g → Chain p (put P h v) g
  chain_put h v m root = root
  chain_put {g} h v m (under l u e c) =
      let n = (hangs p D g l u).hung.below in
      under l u (put_other P h v (p.parent g) (λ i. omega arith) ∙ e) (chain_put h v (omega arith) c)

module _ (p : Plan) (D : Drawn p) {P : ℕ → Pointer} where
  -- a hub marks the port where h stands, and the chain goes on to h
  pub chain_marked : {g : ℕ} (q h : ℕ) → Holds p D g q h → Chain p P g → Chain p (put P g (marking q)) h
  chain_marked {g} q h k c = chain_down p D q h k (put_same P g (marking q)) (chain_put p D g (marking q) (omega arith) c)
