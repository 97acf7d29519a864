-- The hubs that node k stands in: its own hub and those above it. A change of what
-- counts at k alone changes what they see, each at one port, and no other hub.
use Prim.Native.Nat.{ℕ, zero, suc, ◌+◌, ◌≤◌, ◌<◌}
use mathlib.Core.Path.{◌≡◌, refl, sym, ap, ◌∙◌, subst}
use mathlib.Core.Bool.{Bool, true, false, ◌&&◌}
use mathlib.Core.Logic.{⊎_elim}
use native.Mathlib.Omega.{arith}
use native.Mathlib.Nat.{eq-or-lt_of_le}
use lib.Dec.{leb}
use borrow.Author.Tests.{leb-true, leb-false, le-leb}
use Rattle.rules.specs.Choice.{any}
use Rattle.rules.specs.Plan.{Plan, Port, node, empty, hub}
use Rattle.rules.specs.Drawn.{Drawn, Within, Covers}
use Rattle.rules.specs.Control.{shows}
use Rattle.rules.proofs.Laws.Passes.{Which, which, yes', no', true-false}
use Rattle.rules.proofs.Laws.Passes as choices
use Rattle.rules.proofs.Control.Intervals.{Shown, some, clear, shown_all}
use Rattle.rules.proofs.Control.Cover.{shown, rises, hangs}
use Rattle.ports.specs.Ports.{ports, any_port}
use Rattle.ports.proofs.Summaries.{sums_any}
use Rattle.plan_theory.specs.Taken.{Holds}
use Rattle.refinement.specs.Kept.{seen_at}

-- k is above a and up to z
pub record Between (a z k : ℕ) : Type 0 where
  pub past : a < k
  pub up : k ≤ z

-- two tests that tell whether some number of an interval counts are the same, where the same numbers of it count
shown_agree : {f g : ℕ → Bool} {a z : ℕ} {b d : Bool} → ((j : ℕ) → a < j → j ≤ z → f j ≡ g j) → Shown f a z b → Shown g a z d → b ≡ d
shown_agree same (some e s) (some h t) = e ∙ sym h
shown_agree same (some e s) (clear h n) =
    absurd (true-false s.holds (same s.number s.past s.up ∙ n.none s.number s.past s.up))
shown_agree same (clear e n) (some h t) =
    absurd (true-false t.holds (sym (same t.number t.past t.up) ∙ n.none t.number t.past t.up))
shown_agree same (clear e n) (clear h o) = e ∙ sym h

-- the interval of a row that k stands in
record Part (a : ℕ → ℕ) (n k : ℕ) : Type 0 where
  number : ℕ
  within : Within n number
  between : Between (a number) (a (number + 1)) k

part_of : (a : ℕ → ℕ) (n k : ℕ) → Between (a 1) (a (n + 1)) k → Part a n k
part_of a zero k b = absurd (omega (arith, b.past, b.up))
part_of a (suc n) k b = go (part_of a n k) (which (leb k (a (n + 1))))
  where
    go : (Between (a 1) (a (n + 1)) k → Part a n k) → Which (leb k (a (n + 1))) → Part a (suc n) k
    go earlier (yes' e) =
        let r = earlier (record { past = b.past; up = leb-true k (a (n + 1)) e }) in
        record { number = r.number; within = record { low = r.within.low; up = omega (arith, r.within.up) }; between = r.between }
    go earlier (no' e) =
        record {
          number = n + 1;
          within = record { low = omega arith; up = omega arith };
          between = record { past = leb-false k (a (n + 1)) e; up = subst (λ (i : ℕ). k ≤ a i) (omega arith) b.up };
        }

-- hub h is hub g or one above it
pub data Up (p : Plan) (h : ℕ) : ℕ → Type 0 where
  here : {g : ℕ} → h ≡ g → Up p h g
  over : {g : ℕ} → 2 ≤ g → Up p h (p.parent g) → Up p h g

up_more : {p : Plan} {h g : ℕ} → 2 ≤ h → Up p h g → Up p (p.parent h) g
up_more {p} {h} {g} l (here e) = subst (λ (i : ℕ). Up p (p.parent h) i) e (over l (here refl))
up_more l (over m u) = over m (up_more l u)

module _ (p : Plan) (D : Drawn p) where
  parent_below : (g : ℕ) → 2 ≤ g → g ≤ p.hubs → p.parent g < g
  parent_below g l u = omega (arith, (hangs p D g l u).hung.below)

  pub up_within : (h g : ℕ) → Within p.hubs g → Up p h g → Within g h
  up_within h g w (here e) = record { low = omega (arith, w.low); up = omega arith }
  up_within h g w (over l u) =
      let v = up_within h (p.parent g) (D.hung_parent g l w.up) u in
      record { low = v.low; up = omega (arith, v.up, parent_below g l w.up) }

  -- those above g's parent are other hubs than g
  pub up_above : (h g : ℕ) → 2 ≤ g → g ≤ p.hubs → Up p h (p.parent g) → (1 ≤ h) × (h < g)
  up_above h g l u a =
      let v = up_within h (p.parent g) (D.hung_parent g l u) a in
      (v.low, omega (arith, v.up, parent_below g l u))

  -- node k stands at port q of hub g or below it
  abbrev pub At : ℕ → ℕ → ℕ → Type 0
  At k g q = Between (D.above g q) (D.above g (q + 1)) k

  -- every hub that k stands in is the hub g of its own port or one above that
  module _ (k g : ℕ) (only : (h q : ℕ) → Holds p (node k) h q → h ≡ g) where
    abbrev Lined : ℕ → Type 0
    Lined h = Within p.hubs h → Between (D.above h 1) (D.above h (p.ports h + 1)) k → Up p h g

    port_lined : (h q : ℕ) → ((i : ℕ) → h < i → Lined i) → Within p.hubs h → Within (p.ports h) q → At k h q
        → (x : Port) → p.port h q ≡ x → Covers p D.above h q x → Up p h g
    port_lined h q lower w v b (node j) e (o, u) =
        here (only h q (record { hub = w; place = v; port = e ∙ ap node (omega (arith, b.past, b.up)) }))
    port_lined h q lower w v b empty e u = absurd (omega (arith, b.past, b.up))
    port_lined h q lower w v b (hub i) e (hung, first, last) =
        let u = lower i hung.below hung.number (record { past = omega (arith, b.past); up = omega (arith, b.up) }) in
        subst (λ (x : ℕ). Up p x g) hung.parent (up_more (omega (arith, w.low, hung.below)) u)

    hub_lined : (h : ℕ) → ((i : ℕ) → h < i → Lined i) → Lined h
    hub_lined h lower w b =
        let r = part_of (D.above h) (p.ports h) k b in
        port_lined h r.number lower w r.within r.between (p.port h r.number) refl (D.covers h r.number w r.within)

    -- by the number of hubs behind h
    lined_by : (n h : ℕ) → p.hubs ≤ h + n → Lined h
    lined_by zero h few = hub_lined h (λ i l w b. absurd (omega (arith, w.up)))
    lined_by (suc n) h few = hub_lined h (λ i l. lined_by n i (omega arith))

    pub lined : (h : ℕ) → Lined h
    lined h = lined_by p.hubs h (omega arith)

  -- two sets of nodes that count, the same but perhaps for k
  module _ (k : ℕ) (f t : ℕ → Bool) (same : (j : ℕ) → (j ≡ k → ⊥) → t j ≡ f j) where
    -- what hub g sees at a port that k doesn't stand at is the same
    shows_off : (g q : ℕ) → Within p.hubs g → Within (p.ports g) q → (At k g q → ⊥) → shows p f g q ≡ shows p t g q
    shows_off g q w v off =
        shown_agree (λ j l u. sym (same j (λ e. off (record { past = omega arith; up = omega arith })))) (shown p D f g q w v) (shown p D t g q w v)

    seen_off : (g q : ℕ) → Within p.hubs g → 1 ≤ q → (q ≤ p.ports g → At k g q → ⊥) → seen_at p f g q ≡ seen_at p t g q
    seen_off g q w l off = go (which (leb q (p.ports g)))
      where
        go : Which (leb q (p.ports g)) → seen_at p f g q ≡ seen_at p t g q
        go (yes' e) =
            let u = leb-true q (p.ports g) e in
            ap (λ (b : Bool). leb q (p.ports g) && b) (shows_off g q w (record { low = l; up = u }) (off u))
        go (no' e) = rw e

    -- k stands at one port of a hub at most
    pub seen_beside : (g q r : ℕ) → Within p.hubs g → Within (p.ports g) q → At k g q → 1 ≤ r → (r ≡ q → ⊥) → seen_at p f g r ≡ seen_at p t g r
    seen_beside g q r w v b l other = seen_off g r w l (λ u a. go u a (which (leb q r)))
      where
        go : r ≤ p.ports g → At k g r → Which (leb q r) → ⊥
        go u a (yes' e) =
            let h : q + 1 ≤ r = ⊎_elim (λ s. absurd (other (sym s))) (λ s. omega arith) (eq-or-lt_of_le (leb-true q r e)) in
            omega (arith, rises p D g (q + 1) r w (omega arith) h (omega arith), a.past, b.up)
        go u a (no' e) =
            omega (arith, rises p D g (r + 1) q w (omega arith) (omega (arith, leb-false q r e)) (omega (arith, v.up)), a.up, b.past)

    -- a hub that k doesn't stand in sees the same at all its ports
    pub seen-elsewhere : (g q : ℕ) → Within p.hubs g → (Between (D.above g 1) (D.above g (p.ports g + 1)) k → ⊥) → 1 ≤ q
        → seen_at p f g q ≡ seen_at p t g q
    seen-elsewhere g q w off l =
        seen_off g q w l
        (λ u a.
        off
        (record {
          past = omega (arith, rises p D g 1 q w (omega arith) l (omega arith), a.past);
          up = omega (arith, rises p D g (q + 1) (p.ports g + 1) w (omega arith) (omega arith) (omega arith), a.up);
        }))

  -- what hub g shows at all is what its parent sees at g's place
  module _ (f : ℕ → Bool) where
    any_seen : (g : ℕ) → Within p.hubs g → any_port (seen_at p f g) ≡ any (p.ports g) (shows p f g)
    any_seen g w = go (which (any (p.ports g) (shows p f g)))
      where
        go : Which (any (p.ports g) (shows p f g)) → any_port (seen_at p f g) ≡ any (p.ports g) (shows p f g)
        go (yes' e) =
            let r = choices.any_some (p.ports g) (shows p f g) e in
            sums_any ports (seen_at p f g) true
            (r.number, r.within.low, omega (arith, r.within.up, D.few_ports g w), rw (le-leb r.number (p.ports g) r.within.up) r.holds) ∙ sym e
        go (no' e) = sums_any ports (seen_at p f g) false (λ q l u. nothing q l (which (leb q (p.ports g)))) ∙ sym e
          where
            nothing : (q : ℕ) → 1 ≤ q → Which (leb q (p.ports g)) → seen_at p f g q ≡ false
            nothing q l (yes' h) = rw h (choices.any_none (p.ports g) (shows p f g) e q (record { low = l; up = leb-true q (p.ports g) h }))
            nothing q l (no' h) = rw h

    pub seen_above : (g : ℕ) → 2 ≤ g → g ≤ p.hubs → any_port (seen_at p f g) ≡ shows p f (p.parent g) (p.place g)
    seen_above g l u =
        let w : Within p.hubs g = record { low = omega arith; up = u } in
        let own = shown_all f (D.above g) (shows p f g) (p.ports g) (λ q v. shown p D f g q w v) in
        let place = shown p D f (p.parent g) (p.place g) (D.hung_parent g l u) (D.hung_place g l u) in
        any_seen g w ∙ shown_agree (λ j a z. refl) own (rw ((hangs p D g l u).first, ← (hangs p D g l u).last) place)

  -- and k stands there with g
  pub at_above : (k g q : ℕ) → 2 ≤ g → g ≤ p.hubs → Within (p.ports g) q → At k g q → At k (p.parent g) (p.place g)
  at_above k g q l u v b =
      let w : Within p.hubs g = record { low = omega arith; up = u } in
      let h = hangs p D g l u in
      record {
        past = omega (arith, h.first, rises p D g 1 q w (omega arith) v.low (omega (arith, v.up)), b.past);
        up = omega (arith, h.last, rises p D g (q + 1) (p.ports g + 1) w (omega arith) (omega (arith, v.up)) (omega arith), b.up);
      }
