-- Control that goes up only to the hub where it turns never takes more moves than control that goes up to the root: of two hubs on
-- the line, both led to, a walk from the lower one takes at most the moves of a walk from the upper one and the one move up to it.
use Prim.Native.Nat.{ℕ, zero, suc, ◌+◌, ◌-◌, ◌≤◌, ◌<◌}
use mathlib.Core.Path.{◌≡◌, refl, ap, ◌∙◌, subst}
use mathlib.Core.Bool.{Bool, true, false}
use native.Mathlib.Omega.{arith}
use Rattle.rules.specs.Choice.{put, first}
use Rattle.rules.specs.Plan.{Plan, hub}
use Rattle.rules.specs.Call.{Class}
use Rattle.rules.specs.Machine.{Turn}
use Rattle.rules.specs.Drawn.{Drawn, Within}
use Rattle.rules.specs.Control.{Pointer, Control, at_port, marking, shows, lowest, point, hand_to, up, walk}
use Rattle.rules.proofs.Laws.Passes.{Which, which, yes', no', put_same, put_other}
use Rattle.rules.proofs.Control.Intervals.{Counts, Clear, counts_clear, counts_wider, shown_clear}
use Rattle.rules.proofs.Control.Cover.{shown, rises, Holds, holds, hangs, Look, nothing, something, look}
use Rattle.rules.proofs.Control.Pointers.{Chain, root, under, Good, good_from_root, chain_within, chain_level, chain_down, chain_put, chain_marked}
use Rattle.rules.proofs.Control.Pointers as pointers
use Rattle.rules.proofs.Control.Steps.{same_self, own_unmarked, own_other, own_marked, walk_resume, walk_up}
use Rattle.rules.proofs.Control.Twins.{Twin, stands, inside, SameMoves, TwinAt, twins, both_up, both_afresh}

module _ (p : Plan) (D : Drawn p) where
  -- a change above hub h leaves the marked line below it
  twin_of_good : {P : ℕ → Pointer} {x h : ℕ} (g : ℕ) (v : Pointer) → Within p.hubs h → g < h → Good p D P x h → Twin p P (put P g v) h
  twin_of_good {P} {x} {h} g v w m (pointers.stands q e l u s) = stands q e (put_other P g v h (λ j. omega arith) ∙ e) l u
  twin_of_good {P} {x} {h} g v w m (pointers.inside q k e a s t) =
      let n = (holds p D h q k w a s).hung in
      inside q k e (put_other P g v h (λ j. omega arith) ∙ e) a s (twin_of_good g v n.number (omega (arith, n.below)) t)

module _ (p : Plan) (D : Drawn p) (f : ℕ → Bool) where
  -- a look from a port that shows a request, and from one that shows none
  lowest_here : (g q : ℕ) → Within (p.ports g) q → shows p f g q ≡ true → lowest p f g q ≡ q
  unfolding lowest first
  lowest_here g q v e =
      let n : p.ports g + 1 - q ≡ suc (p.ports g - q) = omega (arith, v.up) in
      rw (n, e)

  lowest_behind : (g q : ℕ) → Within (p.ports g) q → shows p f g q ≡ false → lowest p f g (q + 1) ≡ lowest p f g q
  unfolding lowest first
  lowest_behind g q v e =
      let n : p.ports g + 1 - q ≡ suc (p.ports g + 1 - (q + 1)) = omega (arith, v.up) in
      rw (n, e)

  -- nothing counts in hub h, so a look at it finds nothing
  lowest_none : (h q : ℕ) → Within p.hubs h → 1 ≤ q → q ≤ p.ports h + 1 → Clear f (D.above h 1) (D.above h (p.ports h + 1)) → lowest p f h q ≡ 0
  lowest_none h q w l u cl = go (look p D f h q w l u)
    where
      go : Look p D f h q (lowest p f h q) → lowest p f h q ≡ 0
      go (nothing z o) = z
      go (something v a o s) =
          let r = lowest p f h q in
          absurd
          (counts_clear
          (counts_wider (rises p D h 1 r w (omega arith) v.low (omega (arith, v.up)))
          (rises p D h (r + 1) (p.ports h + 1) w (omega arith) (omega (arith, v.up)) (omega arith)) s)
          cl)

  good_none : {P : ℕ → Pointer} {x h : ℕ} → Within p.hubs h → Good p D P x h → Clear f (D.above h 1) (D.above h (p.ports h + 1))
      → lowest p f h (P h).port ≡ 0
  good_none {P} {x} {h} w (pointers.stands q e l u s) cl =
      ap (λ (y : Pointer). lowest p f h y.port) e ∙ lowest_none h q w l u cl
  good_none {P} {x} {h} w (pointers.inside q k e a s t) cl =
      ap (λ (y : Pointer). lowest p f h y.port) e ∙ lowest_none h q w a.low (omega (arith, a.up)) cl

-- hub h hangs at port q of hub g, whose pointer is marked and there
module _ (p : Plan) (D : Drawn p) (c : Class) (f : ℕ → Bool) (σ : Control) (x g q h : ℕ) (v : Within (p.ports g) q) (port : p.port g q ≡ hub h)
    (k : Holds p D g q h) (e : σ.pointer c g ≡ marking q) (ch : Chain p (σ.pointer c) g) (t : Good p D (σ.pointer c) x h) where
  abbrev from : ℕ → ℕ → ℕ → Turn Control
  from n j m = walk p c f n (hand_to j σ) m

  -- where both walks grant a node, the one from h takes at most the moves of the one from g with one more before it
  abbrev NoMore : Turn Control → Turn Control → Type 0
  NoMore lower upper = (lower.node ≡ 0 → ⊥) → (upper.node ≡ 0 → ⊥) → lower.moves ≤ upper.moves

  own_port : (σ.pointer c g).port ≡ q
  own_port = ap (λ (y : Pointer). y.port) e

  -- g resumes h
  resumed_no_more : (n n' m : ℕ) → shows p f g q ≡ true → NoMore (from n h m) (from (suc n') g (m + 1))
  unfolding TwinAt
  resumed_no_more n n' m s =
      let found : lowest p f g (σ.pointer c g).port ≡ q = rw own_port (lowest_here p D f g q v s) in
      let alike =
      twins p D c f n n' h σ (point c g (marking q) (hand_to g σ)) m (m + 1 + 1) (chain_down p D q h k e ch)
      (rw (same_self c) (chain_marked p D q h k ch))
      (rw (same_self c) (twin_of_good p D g (marking q) k.hung.number k.hung.below t)) in
      rw (walk_resume p c f n' (hand_to g σ) (m + 1) q h found v.low port (own_marked c q (hand_to g σ) e))
      (λ a b. omega (arith, alike.moves a b))

  -- what h leaves as it hands up: the pointer of g is the port behind h
  abbrev behind : Control
  behind = point c g (at_port (q + 1)) (hand_to h σ)

  -- both look at g behind h, and find the same
  behind-same : (n n' m : ℕ) → shows p f g q ≡ false → SameMoves (walk p c f (suc n) (hand_to g behind) m) m (from (suc n') g m) m
  behind-same n n' m s = go (lowest p f g q) refl (look p D f g q w v.low (omega (arith, v.up)))
    where
      w : Within p.hubs g
      w = chain_within p D ch

      stored : behind.pointer c g ≡ at_port (q + 1)
      stored = rw (same_self c) (put_same (σ.pointer c) g (at_port (q + 1)))

      chain : Chain p (behind.pointer c) g
      chain = rw (same_self c) (chain_put p D g (at_port (q + 1)) (omega arith) ch)

      finds : (r : ℕ) → lowest p f g q ≡ r → (lowest p f g (behind.pointer c g).port ≡ r) × (lowest p f g (σ.pointer c g).port ≡ r)
      finds r i = (
        ap (λ (y : Pointer). lowest p f g y.port) stored ∙ lowest_behind p D f g q v s ∙ i,
        ap (λ (y : Pointer). lowest p f g y.port) e ∙ i,
      )

      go : (r : ℕ) → lowest p f g q ≡ r → Look p D f g q r → SameMoves (walk p c f (suc n) (hand_to g behind) m) m (from (suc n') g m) m
      go r i (nothing z cl) = both_up p D c f n (twins p D c f n) n' g behind σ m m chain ch (finds 0 (i ∙ z))
      go r i (something a l cl d) =
          both_afresh p D c f n (twins p D c f n) n' g behind σ m m chain ch r (finds r i) a d
          (own_unmarked c (q + 1) r (hand_to g behind) stored)
          (own_other c q r (hand_to g σ) e
          (λ j. counts_clear (subst (λ (y : ℕ). Counts f (D.above g y) (D.above g (y + 1))) j d) (shown_clear (shown p D f g q w v) s)))

  -- h hands up
  passed_no_more : (n n' m : ℕ) → shows p f g q ≡ false → NoMore (from (suc n) h m) (from (suc n') g (m + 1))
  unfolding walk
  passed_no_more n n' m s =
      rw (walk_up p c f n (hand_to h σ) m (good_none p D f k.hung.number t clear) lower ∙ ap (λ (τ : Control). walk p c f n τ (m + 1)) left) (go n)
    where
      clear : Clear f (D.above h 1) (D.above h (p.ports h + 1))
      clear = rw (k.first, ← k.last) (shown_clear (shown p D f g q (chain_within p D ch) v) s)

      lower : h ≡ 1 → ⊥
      lower i = omega (arith, k.hung.below, (chain_within p D ch).low)

      left : up p c (hand_to h σ) ≡ hand_to g behind
      left = rw (k.hung.parent, k.hung.place)

      go : (n : ℕ) → NoMore (walk p c f n (hand_to g behind) (m + 1)) (from (suc n') g (m + 1))
      go zero = λ a b. absurd (a refl)
      go (suc n) = λ a b. omega (arith, (behind-same n n' (m + 1) s).moves a b)

  no_more : (n n' m : ℕ) → NoMore (from n h m) (from n' g (m + 1))
  unfolding walk
  no_more zero n' m = λ a b. absurd (a refl)
  no_more (suc n) zero m = λ a b. absurd (b refl)
  no_more (suc n) (suc n') m = go (which (shows p f g q))
    where
      go : Which (shows p f g q) → NoMore (from (suc n) h m) (from (suc n') g (m + 1))
      go (yes' s) = resumed_no_more (suc n) n' m s
      go (no' s) = passed_no_more n n' m s

-- so over the whole line, from the root down to t
module _ (p : Plan) (D : Drawn p) (c : Class) (f : ℕ → Bool) (σ : Control) (x n : ℕ)
    (grants : (g m : ℕ) → Chain p (σ.pointer c) g → (walk p c f n (hand_to g σ) m).node ≡ 0 → ⊥) where
  pub line_no_more : {t : ℕ} (m : ℕ) → Chain p (σ.pointer c) t → Good p D (σ.pointer c) x 1
      → (walk p c f n (hand_to t σ) m).moves ≤ (walk p c f n (hand_to 1 σ) (m + (p.level t - 1))).moves
  line_no_more m root s =
      let none : m + (p.level 1 - 1) ≡ m = omega (arith, D.root_level) in
      rw none (omega arith)
  line_no_more m (under {h} l u e ch) s =
      let g = p.parent h in
      let k = hangs p D h l u in
      let here = under {h = h} l u e ch in
      let one =
      no_more p D c f σ x g (p.place h) h (D.hung_place h l u) (D.hung_port h l u) k e ch (good_from_root p D here s) n n m
      (grants h m here) (grants g (m + 1) ch) in
      let more = line_no_more (m + 1) ch s in
      let levels : m + 1 + (p.level g - 1) ≡ m + (p.level h - 1) = omega (arith, k.hung.level, chain_level p D ch) in
      omega (arith, one, rw levels at more)
