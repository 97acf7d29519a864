-- A round, from a return of the root's pointer to the next, of grants of one class. No hub is resumed in it, so control passes
-- at most twice between a hub and its parent: down as the hub is entered, and up as it hands up, behind the last of its nodes.
use Prim.Native.Nat.{ℕ, zero, suc, ◌+◌, ◌-◌, ◌*◌, ◌≤◌, ◌<◌}
use mathlib.Core.Path.{◌≡◌, refl, sym, ap, ◌∙◌, subst}
use native.Mathlib.Omega.{arith}
use borrow.Author.Tests.{eq-eqb, ne_eqb}
use Rattle.rules.specs.Choice.{put, sum}
use Rattle.rules.specs.Plan.{Plan}
use Rattle.rules.specs.Call.{Class}
use Rattle.rules.specs.Drawn.{Drawn, Within}
use Rattle.rules.specs.Control.{Control, at_port, point, granted, up}
use Rattle.rules.proofs.Laws.Passes.{put_other, sum-put}
use Rattle.rules.proofs.Laws.Sums.{Same, it, other, same_or_not, put_within}
use Rattle.rules.proofs.Control.Cover.{rises, Holds, hangs}
use Rattle.rules.proofs.Control.Steps.{entered}
use Rattle.rules.proofs.Travel.Looks.{Unmarked, unmarked-granted, unmarked_entered, unmarked-up, lower, hung}

-- hub k is hub g, or stands above it on its line
pub data OnLine (p : Plan) : ℕ → ℕ → Type 0 where
  here : {g : ℕ} → OnLine p g g
  above : {g k : ℕ} → 2 ≤ g → g ≤ p.hubs → OnLine p (p.parent g) k → OnLine p g k

-- hubs above have no greater number
line-up : (p : Plan) → Drawn p → {g k : ℕ} → OnLine p g k → k ≤ g
line-up p D here = omega arith
line-up p D (above {g} l u o) = omega (arith, line-up p D o, (hangs p D g l u).hung.below)

-- but for the hub itself its line is its parent's
line_above : {p : Plan} {g k : ℕ} → OnLine p g k → (k ≡ g → ⊥) → OnLine p (p.parent g) k
line_above here d = absurd (d refl)
line_above (above l u o) d = o

-- a sum of numbers of at most 2, the first of them 0
sum_twice : (n : ℕ) (v : ℕ → ℕ) → v 1 ≡ 0 → ((k : ℕ) → Within (suc n) k → v k ≤ 2) → sum (suc n) v ≤ 2 * n
unfolding sum
sum_twice zero v z h = omega arith
sum_twice (suc n) v z h =
    let e = sum_twice n v z (λ k w. h k (record { low = w.low; up = omega (arith, w.up) })) in
    let d = h (suc (suc n)) (record { low = omega arith; up = omega arith }) in
    omega arith

module _ (p : Plan) where
  -- of all hubs together
  abbrev pub total : (ℕ → ℕ) → ℕ
  total v = sum p.hubs v

module _ (p : Plan) (D : Drawn p) (c : Class) where
  -- The holder looks from a port without mark. `passings` has, for each hub, at least how often
  -- control has passed between it and its parent since the round, or the run, began: a hub on the
  -- holder's line hasn't been left, and a hub off it with nodes ahead hasn't been entered
  pub record Tour (σ : Control) : Type 0 where
    pub latest : σ.latest ≡ c
    pub port : ℕ
    pub looks : Unmarked p c σ port
    pub passings : ℕ → ℕ
    pub root : passings 1 ≡ 0
    pub most : (k : ℕ) → Within p.hubs k → passings k ≤ 2
    pub line : (k : ℕ) → OnLine p σ.holder k → passings k ≤ 1
    pub ahead : (k : ℕ) → Within p.hubs k → (OnLine p σ.holder k → ⊥) → D.above σ.holder port < D.above k (p.ports k + 1) → passings k ≡ 0

  -- a round begins: nothing has been passed
  pub begins : {σ : Control} (q : ℕ) → Unmarked p c σ q → σ.latest ≡ c → Tour σ
  begins q s e =
      record {
        latest = e;
        port = q;
        looks = s;
        passings = λ k. 0;
        root = refl;
        most = λ k w. omega arith;
        line = λ k o. omega arith;
        ahead = λ k w o a. refl;
      }

  -- n moves on from a tour, control is at τ: there are at least n passings more
  pub record Onward (n : ℕ) {σ : Control} (s : Tour σ) (τ : Control) : Type 0 where
    pub tour : Tour τ
    pub more : n + total p s.passings ≤ total p tour.passings

  module _ (σ : Control) (s : Tour σ) where
    abbrev g : ℕ
    g = σ.holder

    -- the search stands behind this node
    abbrev x : ℕ
    x = D.above g s.port

    -- and goes on
    farther : (r : ℕ) → s.port ≤ r → r ≤ p.ports g + 1 → x ≤ D.above g r
    farther r l u = rises p D g s.port r s.looks.within s.looks.low l u

    -- a node at port r is granted
    pub on_granted : (r : ℕ) → Within (p.ports g) r → s.port ≤ r → Onward 0 s (granted c (point c g (at_port (r + 1)) σ))
    on_granted r v l =
        record {
          tour =
              record {
                latest = refl;
                port = r + 1;
                looks = unmarked-granted p D c s.looks r v;
                passings = s.passings;
                root = s.root;
                most = s.most;
                line = s.line;
                ahead = λ k w o a. s.ahead k w o (omega (arith, farther (r + 1) (omega arith) (omega (arith, v.up))));
              };
          more = omega arith;
        }

    -- hub h at port r, with nodes ahead, is entered
    module _ (r h : ℕ) (v : Within (p.ports g) r) (l : s.port ≤ r) (k : Holds p D g r h) (a : x < D.above h (p.ports h + 1)) where
      abbrev entering : ℕ → ℕ
      entering = put s.passings h 1

      entering-line : (j : ℕ) → OnLine p h j → Same j h → entering j ≤ 1
      entering-line j o (it e) = rw (eq-eqb j h e) (omega arith)
      entering-line j o (other d) = rw (ne_eqb j h d) (s.line j (rw k.hung.parent at (line_above o d)))

      entering-ahead : (j : ℕ) → Within p.hubs j → (OnLine p h j → ⊥) → D.above h 1 < D.above j (p.ports j + 1) → entering j ≡ 0
      entering-ahead j w o b =
          put_other s.passings h 1 j (λ e. o (subst (OnLine p h) (sym e) here))
          ∙ s.ahead j w (λ i. o (above (omega (arith, k.hung.below, s.looks.within.low)) k.hung.number.up (rw k.hung.parent i)))
          (omega (arith, k.first, farther r l (omega (arith, v.up))))

      not_on : OnLine p g h → ⊥
      not_on o = omega (arith, line-up p D o, k.hung.below)

      pub on_entered : Onward 1 s (entered c r h σ)
      on_entered =
          record {
            tour =
                record {
                  latest = s.latest;
                  port = 1;
                  looks = unmarked_entered p D c s.looks r h k;
                  passings = entering;
                  root = put_other s.passings h 1 1 (λ e. omega (arith, k.hung.below, s.looks.within.low)) ∙ s.root;
                  most = put_within p.hubs s.passings (λ j. 2) h 1 s.most (omega arith);
                  line = λ j o. entering-line j o (same_or_not j h);
                  ahead = entering-ahead;
                };
            more = omega (arith, sum-put p.hubs s.passings h 1 k.hung.number, s.ahead h k.hung.number not_on a);
          }

    -- the holder, no root, hands control up
    module _ (n : g ≡ 1 → ⊥) where
      abbrev leaving : ℕ → ℕ
      leaving = put s.passings g 2

      at : Holds p D (p.parent g) (p.place g) g
      at = hung p D c s.looks n

      leaving_line : (j : ℕ) → OnLine p (p.parent g) j → leaving j ≤ 1
      leaving_line j o =
          rw (ne_eqb j g (λ e. omega (arith, line-up p D o, at.hung.below)))
          (s.line j (above (lower p D c s.looks n) s.looks.within.up o))

      leaving_ahead : (j : ℕ) → Within p.hubs j → (OnLine p (p.parent g) j → ⊥)
          → D.above (p.parent g) (p.place g + 1) < D.above j (p.ports j + 1) → leaving j ≡ 0
      leaving_ahead j w o b =
          let d : (j ≡ g → ⊥) = λ e. omega (arith, at.last, ap (λ (i : ℕ). D.above i (p.ports i + 1)) e) in
          put_other s.passings g 2 j d
          ∙ s.ahead j w (λ i. o (line_above i d)) (omega (arith, at.last, farther (p.ports g + 1) s.looks.high (omega arith)))

      pub on_up : Onward 1 s (up p c σ)
      on_up =
          record {
            tour =
                record {
                  latest = s.latest;
                  port = p.place g + 1;
                  looks = unmarked-up p D c s.looks n;
                  passings = leaving;
                  root = put_other s.passings g 2 1 (λ e. n (sym e)) ∙ s.root;
                  most = put_within p.hubs s.passings (λ j. 2) g 2 s.most (omega arith);
                  line = leaving_line;
                  ahead = leaving_ahead;
                };
            more = omega (arith, sum-put p.hubs s.passings g 2 s.looks.within, s.line g here);
          }

  -- a round's passings are at most two for each hub but the root
  pub round_up : {σ : Control} (s : Tour σ) → total p s.passings ≤ 2 * (p.hubs - 1)
  round_up s =
      let n : p.hubs ≡ suc (p.hubs - 1) = omega (arith, D.some_hub) in
      subst (λ (i : ℕ). sum i s.passings ≤ 2 * (p.hubs - 1)) (sym n)
      (sum_twice (p.hubs - 1) s.passings s.root (λ k w. s.most k (record { low = w.low; up = omega (arith, w.up) })))
