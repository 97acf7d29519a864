-- One turn within a frame in which node k's high request counts: how far the line can be busy, and that no other node gets far ahead of k.
use Prim.Native.Nat.{ℕ, ◌+◌, ◌≤◌}
use mathlib.Core.Path.{◌≡◌, sym, ap, subst}
use mathlib.Core.Bool.{true}
use mathlib.Core.Logic.{⊎_elim}
use native.Mathlib.Omega.{arith}
use borrow.Author.Tests.{eq-eqb}
use Rattle.rules.specs.Plan.{Plan}
use Rattle.rules.specs.Drawn.{Within}
use Rattle.rules.specs.Call.{high}
use Rattle.rules.specs.Core.{Core, Share, standing, bits_of, counts_in}
use Rattle.rules.specs.Flat.{behind}
use Rattle.rules.proofs.Laws.Passes.{put_same, put_other}
use Rattle.rules.proofs.Flat.InTurn.{Chosen}
use Rattle.rules.proofs.Laws.Sums.{Same, it, other, same_or_not, more, spent, spent_more}
use Rattle.rules.proofs.Demand3.Ahead.{Ahead, ahead_other, k_or_ahead, Behind, behind_is, passed-not-ahead, was_ahead}
use Rattle.rules.proofs.Flat.Turns.{Counting}
use Rattle.rules.proofs.Core.Requests.{counts-stands}

-- c = b + O of node j's share
abbrev pub cost : Plan → (ℕ → Share) → ℕ → ℕ
cost p R j = (R j).bits + p.overhead

-- how far the line can be busy: a packet in progress at `start`, then the high grants G made since
abbrev pub reach : Plan → ℕ → (ℕ → Share) → (ℕ → ℕ) → ℕ
reach p start R G = start + p.interrupt + spent p.nodes G (cost p R)

-- no other node has two high grants more than k, nor one more while it lies ahead of k
pub record Fair (k : ℕ) (G : ℕ → ℕ) (a : ℕ) : Type 0 where
  pub most : (j : ℕ) → (j ≡ k → ⊥) → G j ≤ G k + 1
  pub ahead : (j : ℕ) → Ahead a k j → G j ≤ G k

-- nobody has a grant yet
pub zero_fair : (k a : ℕ) → Fair k (λ j. 0) a
zero_fair k a = record { most = λ j d. omega arith; ahead = λ j h. omega arith }

pub more_same : (G : ℕ → ℕ) (k : ℕ) → more G k k ≡ G k + 1
more_same G k = put_same G k (G k + 1)

pub more_other : (G : ℕ → ℕ) (k j : ℕ) → (j ≡ k → ⊥) → more G k j ≡ G j
more_other G k j d = put_other G k (G k + 1) j d

module _ (k : ℕ) (G : ℕ → ℕ) (a : ℕ) (fair : Fair k G a) where
  -- k's own grant: it is no longer behind any other node
  pub fair_own : (b : ℕ) → Fair k (more G k) b
  fair_own b =
      record {
        most = λ j d. omega (arith, fair.most j d, more_same G k, more_other G k j d);
        ahead = λ j h. omega (arith, fair.most j (ahead_other h), more_same G k, more_other G k j (ahead_other h));
      }

  -- a node that lay ahead gets one, and lies ahead no more
  fair_ahead : (n j b : ℕ) → Within n k → Ahead a k j → Behind n j b → Fair k (more G j) b
  fair_ahead n j b w h y =
      record {
        most = λ i d. most_after i d (same_or_not i j);
        ahead = λ i z. omega (arith, fair.ahead i (was_ahead h y w z), other_k, more_other G j i (not_j i z));
      }
    where
      other_k : more G j k ≡ G k
      other_k = more_other G j k (λ e. ahead_other h (sym e))

      not_j : (i : ℕ) → Ahead b k i → i ≡ j → ⊥
      not_j i z e = passed-not-ahead y w (subst (λ (x : ℕ). Ahead b k x) e z)

      most_after : (i : ℕ) → (i ≡ k → ⊥) → Same i j → more G j i ≤ more G j k + 1
      most_after i d (it e) = let m : more G j i ≡ G j + 1 = rw (eq-eqb i j e) in omega (arith, fair.ahead j h, other_k)
      most_after i d (other e) = omega (arith, fair.most i d, other_k, more_other G j i e)

-- an instant, the clock having come to it: k's high request counts; G are the high grants since `start`
pub record Moment (p : Plan) (k start : ℕ) (R : ℕ → Share) (G : ℕ → ℕ) (s : Core) (a : ℕ) : Type 0 where
  pub fits : (j b : ℕ) → s.request j ≡ standing high b → b ≤ (R j).bits
  pub fair : Fair k G a
  pub soon : s.clock ≤ reach p start R G
  pub counts : counts_in high s k ≡ true

-- a turn given to j: it is k's own, or that of a node that lay ahead of k and does so no more
pub data Next (p : Plan) (k : ℕ) (G : ℕ → ℕ) (j : ℕ) : Type 0 where
  own : j ≡ k → Next p k G j
  nearer : (k ≡ j → ⊥) → G j ≤ G k → Fair k (more G j) (behind p j) → Next p k G j

module _ (p : Plan) (k start : ℕ) (w : Within p.nodes k) (R : ℕ → Share) (G : ℕ → ℕ) (s : Core) (a : ℕ) (now : Moment p k start R G s a) where
  -- a high grant to j ends within the reach
  pub ends_soon : (j : ℕ) → Counting p.nodes (counts_in high s) j
      → s.clock + bits_of (s.request j) + p.overhead ≤ reach p start R (more G j)
  ends_soon j v =
      let c = counts-stands high s j v.holds in
      let b : bits_of (s.request j) ≡ c.0 = ap bits_of c.1 in
      omega (arith, now.soon, now.fits j c.0 c.1, spent_more p.nodes G (cost p R) j v.within)

  pub turn : (j : ℕ) → Counting p.nodes (counts_in high s) j → Chosen (counts_in high s) p.nodes a j → Next p k G j
  turn j v c = ⊎_elim own there (k_or_ahead (counts_in high s) p.nodes a j k c w now.counts)
    where
      there : Ahead a k j → Next p k G j
      there h =
          nearer (λ e. ahead_other h (sym e)) (now.fair.ahead j h)
          (fair_ahead k G a now.fair p.nodes j (behind p j) w h (behind_is p j v.within.up))
