-- The walk from any place: down a marked line, up it, round at the root, and down afresh. Each part is at most L - 1 moves.
use Prim.Native.Nat.{ℕ, zero, suc, ◌+◌, ◌-◌, ◌*◌, ◌≤◌, ◌<◌}
use mathlib.Core.Path.{◌≡◌, ap, ◌∙◌}
use mathlib.Core.Bool.{Bool, true}
use native.Mathlib.Omega.{arith}
use lib.Dec.{eqb}
use borrow.Author.Tests.{eqb-true, eqb-false}
use Rattle.rules.specs.Choice.{any}
use Rattle.rules.specs.Plan.{Plan, hub, levels}
use Rattle.rules.specs.Call.{Class}
use Rattle.rules.specs.Drawn.{Drawn, Within}
use Rattle.rules.specs.Control.{Pointer, Control, at_port, marking, lowest, point, up, walk}
use Rattle.rules.proofs.Laws.Passes.{Which, which, yes', no', any_some, put_same}
use Rattle.rules.proofs.Control.Intervals.{Clear, clear_narrower}
use Rattle.rules.proofs.Control.Cover.{rises, Holds, holds, hangs, Look, nothing, something, look}
use Rattle.rules.proofs.Control.Pointers.{Chain, root, Good, stands, inside, chain_within, chain_level, chain_up, chain_put, chain_marked, good_low, good_up, good_put}
use Rattle.rules.proofs.Control.Steps.{same_self, others_none, point_others, resumed, own_unmarked, own_other, own_marked, walk_round, walk_up, walk_resume}
use Rattle.rules.proofs.Control.Landing.{Landed, landed_on}
use Rattle.rules.proofs.Control.Choosing.{chosen_skip, chosen_round}
use Rattle.rules.proofs.Control.Levels.{level_up}
use Rattle.rules.proofs.Control.Fresh.{FreshAt, found_lands, fresh_lands}

module _ (p : Plan) (D : Drawn p) (c : Class) (f : ℕ → Bool) (counts : any p.nodes f ≡ true) where
  -- nothing counts up to the end: the root goes to port 1, and something counts from there on
  round_lands : (n : ℕ) (σ : Control) (m x : ℕ) → Chain p (σ.pointer c) σ.holder → σ.holder ≡ 1
      → Clear f x (D.above σ.holder (p.ports σ.holder + 1)) → levels p ≤ n
      → Landed p D c f σ x (m + (levels p - 1)) (walk p c f n (point c 1 (at_port 1) σ) m)
  unfolding FreshAt
  round_lands n σ m x ch i cl fuel =
      let s = any_some p.nodes f counts in
      let z : D.above σ.holder 1 ≡ 0 = rw i D.root_first in
      let e : D.above σ.holder (p.ports σ.holder + 1) ≡ p.nodes = rw i D.root_last in
      let l : p.level σ.holder ≡ 1 = rw i D.root_level in
      landed_on p D c f {τ = point c 1 (at_port 1) σ} (λ k t. chosen_round (rw e at cl) (rw z at t)) (point_others c 1 (at_port 1) σ) (omega arith)
      (fresh_lands p D c f n (point c 1 (at_port 1) σ) m 1
      (rw (same_self c, i) root)
      (rw (same_self c, i) (put_same (σ.pointer c) 1 (at_port 1))) (omega arith) (omega arith)
      (record { number = s.number; past = omega (arith, s.within.low); up = omega (arith, s.within.up); holds = s.holds })
      (omega arith))

  -- holder, pointer at port q without mark: with n looks the walk lands
  pub UpAt : ℕ → Type 0
  UpAt n =
      (σ : Control) (m q : ℕ) → Chain p (σ.pointer c) σ.holder → σ.pointer c σ.holder ≡ at_port q → 1 ≤ q → q ≤ p.ports σ.holder + 1
      → p.level σ.holder + levels p ≤ n
      → Landed p D c f σ (D.above σ.holder q) (m + (p.level σ.holder + levels p - 2)) (walk p c f n σ m)

  -- no port of the holder shows a request: it hands control up
  handed_up_lands : (n : ℕ) → UpAt n → (σ : Control) (m x : ℕ) → Chain p (σ.pointer c) σ.holder
      → lowest p f σ.holder (σ.pointer c σ.holder).port ≡ 0
      → Clear f x (D.above σ.holder (p.ports σ.holder + 1)) → p.level σ.holder + levels p ≤ suc n
      → Landed p D c f σ x (m + (p.level σ.holder + levels p - 2)) (walk p c f (suc n) σ m)
  unfolding UpAt
  handed_up_lands n onward σ m x ch e cl fuel = go (which (eqb σ.holder 1))
    where
      go : Which (eqb σ.holder 1) → Landed p D c f σ x (m + (p.level σ.holder + levels p - 2)) (walk p c f (suc n) σ m)
      go (yes' t) =
          let i = eqb-true σ.holder 1 t in
          let l = chain_level p D ch in
          rw (walk_round p c f n σ m e i)
          (landed_on p D c f (λ k h. h) (others_none c σ.pointer) (omega arith) (round_lands n σ m x ch i cl (omega arith)))
      go (no' t) =
          let i = eqb-false σ.holder 1 t in
          let a = chain_up p D ch i in
          let k = hangs p D σ.holder a.low a.up in
          let l = chain_level p D a.chain in
          let v = level_up p D (p.parent σ.holder) (chain_within p D a.chain) in
          rw (walk_up p c f n σ m e i)
          (landed_on p D c f {τ = up p c σ} (λ j h. chosen_skip cl (rw k.last at h)) (point_others c (p.parent σ.holder) (at_port (p.place σ.holder + 1)) σ)
          (omega (arith, k.hung.level))
          (onward (up p c σ) (m + 1) (p.place σ.holder + 1)
          (rw (same_self c) (chain_put p D (p.parent σ.holder) (at_port (p.place σ.holder + 1)) (omega arith) a.chain))
          (rw (same_self c) (put_same (σ.pointer c) (p.parent σ.holder) (at_port (p.place σ.holder + 1))))
          (omega arith) (omega (arith, (D.hung_place σ.holder a.low a.up).up))
          (omega (arith, k.hung.level))))

  pub up_lands : (n : ℕ) → UpAt n
  unfolding UpAt
  up_lands zero σ m q ch e l u fuel = absurd (omega (arith, chain_level p D ch))
  up_lands (suc n) σ m q ch e l u fuel =
      go (up_lands n) (lowest p f σ.holder q) (ap (λ (y : Pointer). lowest p f σ.holder y.port) e)
      (look p D f σ.holder q (chain_within p D ch) l u)
    where
      go : UpAt n → (r : ℕ) → lowest p f σ.holder (σ.pointer c σ.holder).port ≡ r → Look p D f σ.holder q r
          → Landed p D c f σ (D.above σ.holder q) (m + (p.level σ.holder + levels p - 2)) (walk p c f (suc n) σ m)
      go onward r h (nothing z cl) = handed_up_lands n onward σ m (D.above σ.holder q) ch (h ∙ z) cl fuel
      go onward r h (something v i cl t) =
          let a = chain_level p D ch in
          let b = level_up p D σ.holder (chain_within p D ch) in
          landed_on p D c f (λ k s. s) (others_none c σ.pointer) (omega arith)
          (found_lands p D c f n (fresh_lands p D c f n) σ m (D.above σ.holder q) r ch h v t cl (own_unmarked c q r σ e) (omega arith))

  -- holder, and pointers from it down, marked or not, that stand behind x: with n looks the walk lands
  unfoldable pub DownAt : ℕ → Type 0
  DownAt n =
      (σ : Control) (m x : ℕ) → Chain p (σ.pointer c) σ.holder → Good p D (σ.pointer c) x σ.holder → 3 * levels p ≤ n + p.level σ.holder
      → Landed p D c f σ x (m + (3 * levels p - p.level σ.holder - 2)) (walk p c f n σ m)

  -- the hub at the pointer's own port, marked, resumes at its pointer
  resumed_lands : (n : ℕ) → DownAt n → (σ : Control) (m x q h : ℕ) → Chain p (σ.pointer c) σ.holder
      → σ.pointer c σ.holder ≡ marking q → Holds p D σ.holder q h → Good p D (σ.pointer c) x h
      → 3 * levels p ≤ suc n + p.level σ.holder
      → Landed p D c f σ x (m + (3 * levels p - p.level σ.holder - 2)) (walk p c f n (resumed c q h σ) (m + 1))
  unfolding DownAt
  resumed_lands n onward σ m x q h ch e k t fuel =
      let l = level_up p D h k.hung.number in
      landed_on p D c f {τ = resumed c q h σ} (λ j s. s) (point_others c σ.holder (marking q) σ) (omega (arith, k.hung.level))
      (onward (resumed c q h σ) (m + 1) x
      (rw (same_self c) (chain_marked p D q h k ch))
      (rw (same_self c) (good_put p D σ.holder (marking q) k.hung.number k.hung.below t))
      (omega (arith, k.hung.level)))

  -- a marked pointer at port q: the hub there resumes if it shows a request, otherwise the search goes on behind it
  marked_lands : (n : ℕ) → DownAt n → (σ : Control) (m x q h : ℕ) → Chain p (σ.pointer c) σ.holder
      → σ.pointer c σ.holder ≡ marking q → Within (p.ports σ.holder) q → p.port σ.holder q ≡ hub h → Good p D (σ.pointer c) x h
      → 3 * levels p ≤ suc n + p.level σ.holder
      → Landed p D c f σ x (m + (3 * levels p - p.level σ.holder - 2)) (walk p c f (suc n) σ m)
  marked_lands n onward σ m x q h ch e v s t fuel =
      go (lowest p f σ.holder q) (ap (λ (y : Pointer). lowest p f σ.holder y.port) e)
      (look p D f σ.holder q w v.low (omega (arith, v.up)))
    where
      w : Within p.hubs σ.holder
      w = chain_within p D ch

      k : Holds p D σ.holder q h
      k = holds p D σ.holder q h w v s

      -- the search stands within the interval of port q
      past : D.above σ.holder q ≤ x
      past = omega (arith, k.first, good_low p D k.hung.number t)

      upto : (r : ℕ) → q < r → r ≤ p.ports σ.holder + 1 → x ≤ D.above σ.holder r
      upto r l u = omega (arith, k.last, good_up p D k.hung.number t, rises p D σ.holder (q + 1) r w (omega arith) (omega arith) u)

      go : (r : ℕ) → lowest p f σ.holder (σ.pointer c σ.holder).port ≡ r → Look p D f σ.holder q r
          → Landed p D c f σ x (m + (3 * levels p - p.level σ.holder - 2)) (walk p c f (suc n) σ m)
      go r i (nothing z cl) =
          let a = chain_level p D ch in
          let b = level_up p D σ.holder w in
          landed_on p D c f (λ j d. d) (others_none c σ.pointer) (omega arith)
          (handed_up_lands n (up_lands n) σ m x ch (i ∙ z)
          (clear_narrower past (upto (p.ports σ.holder + 1) (omega (arith, v.up)) (omega arith)) (omega arith) cl) (omega arith))
      go r i (something o l cl d) = at (which (eqb r q))
        where
          at : Which (eqb r q) → Landed p D c f σ x (m + (3 * levels p - p.level σ.holder - 2)) (walk p c f (suc n) σ m)
          at (yes' y) =
              let j = eqb-true r q y in
              rw (walk_resume p c f n σ m q h (i ∙ j) v.low s (own_marked c q σ e)) (resumed_lands n onward σ m x q h ch e k t fuel)
          at (no' y) =
              let j = eqb-false r q y in
              let a = chain_level p D ch in
              let b = level_up p D σ.holder w in
              landed_on p D c f (λ j d. d) (others_none c σ.pointer) (omega arith)
              (found_lands p D c f n (fresh_lands p D c f n) σ m x r ch i o d
              (clear_narrower past (upto r (omega arith) (omega (arith, o.up))) (omega arith) cl) (own_other c q r σ e j) (omega arith))

  pub down_lands : (n : ℕ) → DownAt n
  unfolding DownAt UpAt
  down_lands zero σ m x ch t fuel = absurd (omega (arith, chain_level p D ch, level_up p D σ.holder (chain_within p D ch)))
  down_lands (suc n) σ m x ch (stands q e l u s) fuel =
      let a = chain_level p D ch in
      let b = level_up p D σ.holder (chain_within p D ch) in
      landed_on p D c f (λ j d. rw s d) (others_none c σ.pointer) (omega arith) (up_lands (suc n) σ m q ch e l u (omega arith))
  down_lands (suc n) σ m x ch (inside q h e v s t) fuel = marked_lands n (down_lands n) σ m x q h ch e v s t fuel
