-- One turn within a frame in which node k's high request counts: after it k has
-- more to come, or this was its nth grant, which ends within the delay limit.
use Prim.Native.Nat.{ℕ, ◌+◌, ◌*◌, ◌≤◌, ◌<◌}
use mathlib.Core.Path.{◌≡◌, refl, sym, subst}
use native.Mathlib.Omega.{arith}
use native.Mathlib.Nat.{mul-le-mul_right, le-min}
use lib.Dec.{ltb}
use borrow.Author.Tests.{eq-eqb, ne_eqb, ltb-true, ltb-false}
use Rattle.rules.specs.Plan.{Plan}
use Rattle.rules.specs.Drawn.{Within}
use Rattle.rules.specs.Call.{high}
use Rattle.rules.specs.Core.{Core, Share, bits_of, counts_in}
use Rattle.rules.specs.Flat.{behind}
use Rattle.rules.specs.Rows.{load}
use Rattle.rules.specs.Words.{delay_part, delay_limit}
use Rattle.rules.proofs.Laws.Passes.{Which, which, yes', no', sum_mono}
use Rattle.rules.proofs.Flat.InTurn.{Chosen}
use Rattle.rules.proofs.Laws.Sums.{Same, it, other, same_or_not, more}
use Rattle.rules.proofs.Flat.Turns.{Counting}
use Rattle.rules.proofs.Core.Requests.{put_all}
use Rattle.rules.proofs.Demand3.Fair.{cost, reach, Fair, fair_own, more_same, more_other, Moment, Next, own, nearer, ends_soon, turn}

-- an instant in f, where the high grants since the frame's start are those that the core counts
pub record FrameMoment (p : Plan) (k f : ℕ) (R : ℕ → Share) (s : Core) (a : ℕ) : Type 0 where
  pub moment : Moment p k (f * p.frame) R s.granted s a
  pub within : (j : ℕ) → s.granted j ≤ (R j).packets
  pub left : s.granted k < (R k).packets
  pub size : 1 ≤ (R k).bits

-- what a high grant to j leaves: k has more to come, or this was its nth
pub data Turned (p : Plan) (k f : ℕ) (R : ℕ → Share) (G : ℕ → ℕ) (j end : ℕ) : Type 0 where
  goes_on : Fair k (more G j) (behind p j) → more G j k < (R k).packets → end ≤ reach p (f * p.frame) R (more G j) → Turned p k f R G j end
  nth : j ≡ k → G k + 1 ≡ (R k).packets → end ≤ f * p.frame + delay_limit p k R → Turned p k f R G j end

module _ (p : Plan) (k f : ℕ) (w : Within p.nodes k) (R : ℕ → Share) where
  -- where the grants are within the shares, and no other node has more than n, what was spent is within the delay limit
  limited : (G : ℕ → ℕ) → ((j : ℕ) → G j ≤ (R j).packets) → ((j : ℕ) → (j ≡ k → ⊥) → G j ≤ (R k).packets)
      → reach p (f * p.frame) R G ≤ f * p.frame + delay_limit p k R
  unfolding delay_limit
  limited G all few =
      let parts = sum_mono p.nodes (λ j. G j * cost p R j) (delay_part p k R) (λ j v. each j (same_or_not j k)) in
      omega arith
    where
      each : (j : ℕ) → Same j k → G j * cost p R j ≤ delay_part p k R j
      each j (it e) = rw (eq-eqb j k e) (subst (λ (i : ℕ). G j * cost p R j ≤ load p (R i)) e (mul-le-mul_right (cost p R j) (all j)))
      each j (other d) = rw (ne_eqb j k d) (mul-le-mul_right (cost p R j) (le-min (few j d) (all j)))

  module _ (s : Core) (a : ℕ) (now : FrameMoment p k f R s a) where
    end_of : ℕ → ℕ
    end_of j = s.clock + bits_of (s.request j) + p.overhead

    soon : (j : ℕ) → Counting p.nodes (counts_in high s) j → end_of j ≤ reach p (f * p.frame) R (more s.granted j)
    unfolding end_of
    soon j v = ends_soon p k (f * p.frame) w R s.granted s a now.moment j v

    -- the turn goes to k
    own_turn : Turned p k f R s.granted k (end_of k)
    own_turn = go (which (ltb (s.granted k + 1) (R k).packets))
      where
        all : (j : ℕ) → more s.granted k j ≤ (R j).packets
        all = put_all (λ j g. g ≤ (R j).packets) s.granted k (s.granted k + 1) (omega (arith, now.left)) now.within

        few : s.granted k + 1 ≡ (R k).packets → (j : ℕ) → (j ≡ k → ⊥) → more s.granted k j ≤ (R k).packets
        few last j d = omega (arith, now.moment.fair.most j d, more_other s.granted k j d)

        in_reach : end_of k ≤ reach p (f * p.frame) R (more s.granted k)
        in_reach = soon k (record { within = w; holds = now.moment.counts })

        go : Which (ltb (s.granted k + 1) (R k).packets) → Turned p k f R s.granted k (end_of k)
        go (yes' e) =
            goes_on (fair_own k s.granted a now.moment.fair (behind p k))
            (omega (arith, ltb-true (s.granted k + 1) (R k).packets e, more_same s.granted k))
            in_reach
        go (no' e) =
            let last : s.granted k + 1 ≡ (R k).packets = omega (arith, ltb-false (s.granted k + 1) (R k).packets e, now.left) in
            nth refl last (omega (arith, in_reach, limited (more s.granted k) all (few last)))

    -- the turn goes to k, or to a node ahead of it
    pub frame_turn : (j : ℕ) → Counting p.nodes (counts_in high s) j → Chosen (counts_in high s) p.nodes a j
        → Turned p k f R s.granted j (s.clock + bits_of (s.request j) + p.overhead)
    unfolding end_of
    frame_turn j v c = go (turn p k (f * p.frame) w R s.granted s a now.moment j v c)
      where
        go : Next p k s.granted j → Turned p k f R s.granted j (end_of j)
        go (own e) = subst (λ (i : ℕ). Turned p k f R s.granted i (end_of i)) (sym e) own_turn
        go (nearer d h fair) = goes_on fair (omega (arith, now.left, more_other s.granted j k d)) (soon j v)
