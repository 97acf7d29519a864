-- A high request that node k put up at `start` and that has no grant yet, or a later high one in its place: it counts,
-- in every frame that the clock comes to, and of the other nodes each has had at most one high grant since. Nothing
-- here asks whether a frame's start lies between: G counts from `start` on, whatever the core counts.
use Prim.Native.Nat.{ℕ, ◌+◌, ◌*◌, ◌≤◌, ◌<◌}
use mathlib.Core.Path.{◌≡◌, refl, sym, ap, ◌∙◌, subst}
use mathlib.Core.Bool.{true, false}
use native.Mathlib.Omega.{arith}
use native.Mathlib.Nat.{mul-le-mul_right}
use borrow.Author.Tests.{eq-eqb, ne_eqb, eqb-false}
use Rattle.rules.specs.Choice.{put}
use Rattle.rules.specs.Plan.{Plan}
use Rattle.rules.specs.Drawn.{Within}
use Rattle.rules.specs.Call.{normal, high, Call, time, taken}
use Rattle.rules.specs.Core.{Core, Request, none, standing, Share, frame_of, advance, reclassed, counts_in}
use Rattle.rules.specs.Machine.{granting}
use Rattle.rules.specs.Flat.{behind}
use Rattle.rules.specs.Rows.{put_up, change}
use Rattle.rules.specs.Words.{Keeps}
use Rattle.rules.specs.Promises.{Acceptable, asks, leaves, reserves, waits}
use Rattle.rules.specs.AnyMoment.{breaks, wait_part, wait_limit}
use Rattle.rules.proofs.Laws.Passes.{sum_mono, put_other}
use Rattle.rules.proofs.Core.EventChanges.{kept_by_change}
use Rattle.rules.proofs.Core.Instants.{Advanced, across, inside}
use Rattle.rules.proofs.Core.Requests.{Start, stays_high, becomes_normal, start_of, counts_left, put_all, reserved_high}
use Rattle.rules.proofs.Core.Sound.{Sound}
use Rattle.rules.proofs.Demand3.Standing.{high_counts, DueBefore}
use Rattle.rules.proofs.Laws.Sums.{Same, it, other, same_or_not, more}
use Rattle.rules.proofs.Flat.Turns.{Counting}
use Rattle.rules.proofs.Demand3.Fair.{cost, reach, Fair, more_other, Moment}
use Rattle.rules.proofs.Demand3.LineWhileWaiting.{Held, until_end, held_on, held-due}

-- a frame's start leaves a high request that it keeps
kept_high : (r : Share) (b : ℕ) → Keeps r b → reclassed r (standing high b) ≡ standing high b
kept_high r b h = go (start_of r b)
  where
    go : {q : Request} → Start r b q → q ≡ standing high b
    go (stays_high k) = refl
    go (becomes_normal n) = absurd (n h)

-- R is what is reserved, and in force, in every frame of the wait
module _ (p : Plan) (k start : ℕ) (R : ℕ → Share) where
  -- a high request of a length that k's reservation allows, whichever high of k put it up
  pub record FittingHigh (q : Request) : Type 0 where
    pub bits : ℕ
    pub is : q ≡ standing high bits
    pub fits : bits ≤ (R k).bits

  pub record Waiting (G : ℕ → ℕ) (s : Core) (a : ℕ) : Type 0 where
    pub stands : FittingHigh (s.request k)
    pub left : s.granted k < (R k).packets
    pub force : (j : ℕ) → Within p.nodes j → s.force j ≡ R j
    pub fair : Fair k G a
    pub none_yet : G k ≡ 0
    pub within : (j : ℕ) → G j ≤ (R j).packets
    pub held : Held (reach p start R G) s.clock 0 s.line

  module _ (G : ℕ → ℕ) (s : Core) (a : ℕ) (x : Waiting G s a) where
    -- each other node has had at most one grant, and none if it has nothing reserved
    pub within_limit : reach p start R G ≤ start + wait_limit p k R
    unfolding wait_limit
    within_limit =
        let parts = sum_mono p.nodes (λ j. G j * cost p R j) (wait_part p k R) (λ j v. each j (same_or_not j k) (same_or_not (R j).packets 0)) in
        omega arith
      where
        each : (j : ℕ) → Same j k → Same (R j).packets 0 → G j * cost p R j ≤ wait_part p k R j
        each j (it e) n = let z : G j ≡ 0 = ap G e ∙ x.none_yet in rw (eq-eqb j k e, z) (omega arith)
        each j (other d) (it e) =
            let z : G j ≡ 0 = omega (arith, x.within j) in
            rw (ne_eqb j k d, eq-eqb (R j).packets 0 e, z) (omega arith)
        each j (other d) (other n) =
            let once : G j ≤ 1 = omega (arith, x.fair.most j d, x.none_yet) in
            rw (ne_eqb j k d, ne_eqb (R j).packets 0 n) (omega (arith, mul-le-mul_right (cost p R j) once))

    -- the clock goes on: over a frame's start each node counts from 0 anew, and what is reserved stays
    pub advance_waits : (t : ℕ) → t ≤ reach p start R G → (frame_of p s.clock < frame_of p t → (j : ℕ) → Within p.nodes j → s.latest j ≡ R j)
        → Within p.nodes k → {c : Core} → Advanced p t s c → Waiting G c a
    advance_waits t soon same w (inside l) =
        record {
          stands = x.stands;
          left = x.left;
          force = x.force;
          fair = x.fair;
          none_yet = x.none_yet;
          within = x.within;
          held = held_on soon x.held;
        }
    advance_waits t soon same w (across l) =
        let b = x.stands.bits in
        let keeps : Keeps (R k) b = record { some = omega (arith, x.left); fits = x.stands.fits } in
        record {
          stands = record { bits = b; is = rw (x.stands.is, same l k w) (kept_high (R k) b keeps); fits = x.stands.fits };
          left = omega (arith, x.left);
          force = same l;
          fair = x.fair;
          none_yet = x.none_yet;
          within = x.within;
          held = held_on soon x.held;
        }

    module _ (w : Within p.nodes k) where
      -- so k's request counts, and an instant is due within the reach
      pub waiting_counts : counts_in high s k ≡ true
      waiting_counts =
          let n = ap (λ (r : Share). r.packets) (x.force k w) in
          high_counts s k (record { bits = x.stands.bits; stands = x.stands.is }) (omega (arith, x.left))

      pub waiting_due : DueBefore p s (reach p start R G + 1)
      waiting_due = held-due p s k w (reach p start R G) 0 x.held (λ l. waiting_counts)

      -- a turn at the clock goes to k, or to a node that lies ahead of it
      pub waiting_moment : Sound p s → s.clock ≤ reach p start R G → Moment p k start R G s a
      waiting_moment ok soon =
          record {
            fits = λ j d e. (let q = ap (λ (r : Share). r.bits) (x.force j (ok.node j d high e)) in omega (arith, (ok.allowed j d e).fits));
            fair = x.fair;
            soon = soon;
            counts = waiting_counts;
          }

      -- a high grant to another node
      pub grant_waits : (j end : ℕ) → (k ≡ j → ⊥) → G j ≤ G k → Fair k (more G j) (behind p j) → Counting p.nodes (counts_in high s) j
          → end ≤ reach p start R (more G j) → Waiting (more G j) (granting j high end s) (behind p j)
      grant_waits j end d first fair v soon =
          record {
            stands = subst FittingHigh (sym (put_other s.request j none k d)) x.stands;
            left = omega (arith, put_other s.granted j (s.granted j + 1) k d, x.left);
            force = x.force;
            fair = fair;
            none_yet = more_other G j k d ∙ x.none_yet;
            within = put_all (λ i g. g ≤ (R i).packets) G j (G j + 1) one x.within;
            held = until_end end soon;
          }
        where
          one : G j + 1 ≤ (R j).packets
          one =
              let n = ap (λ (r : Share). r.packets) (x.force j v.within) in
              omega (arith, first, x.none_yet, counts_left s j v.holds)

  -- An accepted event that doesn't break the stand, once the clock has come to its time: it changes another
  -- node's request, or none, or puts another high one of k in place of the first, which row 16 lets fit
  module _ (G : ℕ → ℕ) (s : Core) (a : ℕ) (w : Within p.nodes k) where
    another : (c : Core) (j : ℕ) (q : Request) → FittingHigh (c.request k) → (j ≡ k → ⊥) → FittingHigh (put c.request j q k)
    another c j q x d = subst FittingHigh (sym (put_other c.request j q k (λ i. d (sym i)))) x

    replaced : (c : Core) (j b : ℕ) → c.force k ≡ R k → c.granted k < (R k).packets → FittingHigh (c.request k)
        → (1 ≤ (c.force j).packets → b ≤ (c.force j).bits) → Same j k → FittingHigh (put c.request j (standing (put_up (c.force j) high) b) k)
    replaced c j b same left x fits (other d) = another c j (standing (put_up (c.force j) high) b) x d
    replaced c j b same left x fits (it e) =
        let packets = ap (λ (r : Share). r.packets) (ap c.force e ∙ same) in
        let bits = ap (λ (r : Share). r.bits) (ap c.force e ∙ same) in
        let some : 1 ≤ (c.force j).packets = omega arith in
        record { bits = b; is = rw (eq-eqb k j (sym e), reserved_high (c.force j) some); fits = omega (arith, fits some) }

    stays : {call : Call} → Acceptable p s call → Waiting G (advance p (time call) s) a → breaks k call taken ≡ false
        → FittingHigh ((change call (advance p (time call) s)).request k)
    stays (asks normal t j b ok) x e = another (advance p t s) j (standing normal b) x.stands (eqb-false j k e)
    stays (asks high t j b ok) x e = replaced (advance p t s) j b (x.force k w) x.left x.stands (ok.share.fits refl) (same_or_not j k)
    stays (leaves t j o v) x e = another (advance p t s) j none x.stands (eqb-false j k e)
    stays (reserves t j n b ok) x e = x.stands
    stays (waits t o) x e = x.stands

    same_force : {call : Call} → Acceptable p s call → (c : Core) (j : ℕ) → (change call c).force j ≡ c.force j
    same_force (asks d t i b ok) c j = refl
    same_force (leaves t i o v) c j = refl
    same_force (reserves t i n b ok) c j = refl
    same_force (waits t o) c j = refl

    pub change_waits : {call : Call} → Acceptable p s call → Waiting G (advance p (time call) s) a → breaks k call taken ≡ false
        → Waiting G (change call (advance p (time call) s)) a
    change_waits {call} ok x e =
        let now = advance p (time call) s in
        record {
          stands = stays ok x e;
          left = kept_by_change (λ t l g. g k < (R k).packets) call now x.left;
          force = λ j v. same_force ok now j ∙ x.force j v;
          fair = x.fair;
          none_yet = x.none_yet;
          within = x.within;
          held = kept_by_change (λ t l g. Held (reach p start R G) t 0 l) call now x.held;
        }
