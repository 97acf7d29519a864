-- A turn taken in f while k's high request counts: class high is sought, and the grant leaves k running, or done.
use Prim.Native.Nat.{ℕ, ◌+◌}
use mathlib.Core.Path.{◌≡◌, sym, ◌∙◌, subst}
use mathlib.Core.Bool.{true}
use mathlib.Core.List.{List, ◌∷◌}
use native.Mathlib.Omega.{arith}
use borrow.Author.Tests.{eq-eqb}
use Rattle.rules.specs.Choice.{any}
use Rattle.rules.specs.Plan.{Plan}
use Rattle.rules.specs.Drawn.{Within}
use Rattle.rules.specs.Call.{Class, normal, high, step}
use Rattle.rules.specs.Core.{Core, Share, bits_of, frame_of, counts_in, nothing, class, sought}
use Rattle.rules.specs.Machine.{Machine, Outcome, grant_to}
use Rattle.rules.specs.Run.{Entry}
use Rattle.rules.specs.Words.{high_grants}
use Rattle.rules.proofs.Laws.Clash.{clash}
use Rattle.rules.proofs.Laws.Passes.{any_intro}
use Rattle.rules.proofs.Flat.Follows.{Follows}
use Rattle.rules.proofs.Flat.Turns.{Pointed, node_counts, node_chosen, pointed_turn, pointers_turn}
use Rattle.rules.proofs.Core.Sound.{Told}
use Rattle.rules.proofs.Laws.Sums.{more}
use Rattle.rules.proofs.Demand3.Fair.{more_same}
use Rattle.rules.proofs.Demand3.InFrame.{FrameMoment, Turned, goes_on, nth, frame_turn}
use Rattle.rules.proofs.Demand3.Standing.{sought_high}
use Rattle.rules.proofs.Demand3.LineWhileWaiting.{until_end}
use Rattle.rules.proofs.Demand3.GrantsSoFar.{entry, GrantsSoFar, running, done, counted}

-- the turn at instant d, in the class sought, once the clock has come to it
abbrev pub turn_at : (p : Plan) (M : Machine) → ℕ → Class → Core → M.State → Outcome M.State
turn_at p M d c s σ = grant_to p M d c s (M.choose c (counts_in c s) σ)

module _ (p : Plan) (M : Machine) (follows : Follows p M) (k f : ℕ) (w : Within p.nodes k) (R : ℕ → Share)
    (t : ℕ) (past : List Entry) (s : Core) (σ : M.State) (π : Pointed p M follows σ) where
  high_turn : (d : ℕ) → s.clock ≡ d → FrameMoment p k f R s (π.pointers high) → frame_of p s.clock ≡ f
      → Told p (entry (step t) (turn_at p M d high s σ).answer ∷ past) (turn_at p M d high s σ).hub.core
      → GrantsSoFar p M follows k f R (entry (step t) (turn_at p M d high s σ).answer ∷ past) (turn_at p M d high s σ).hub
  unfolding high_grants
  high_turn d here now e told =
      go
      (subst (λ (x : ℕ). Turned p k f R s.granted node (x + bits_of (s.request node) + p.overhead)) here
      (frame_turn p k f w R s (π.pointers high) now node (node_counts p M follows σ π high (counts_in high s) some)
      (node_chosen p M follows σ π high (counts_in high s) some)))
    where
      node : ℕ
      node = (M.choose high (counts_in high s) σ).node

      end : ℕ
      end = d + bits_of (s.request node) + p.overhead

      some : any p.nodes (counts_in high s) ≡ true
      some = any_intro p.nodes (counts_in high s) (record { number = k; within = w; holds = now.moment.counts })

      go : Turned p k f R s.granted node end
          → GrantsSoFar p M follows k f R (entry (step t) (turn_at p M d high s σ).answer ∷ past) (turn_at p M d high s σ).hub
      go (goes_on fair left soon) =
          running
          (record {
            in_frame = e;
            pointed = pointed_turn p M follows σ π high (counts_in high s) some;
            fair = rw (pointers_turn p M follows σ π high (counts_in high s) some) fair;
            left = left;
            size = now.size;
            held = until_end end soon;
          })
      go (nth j last soon) =
          let had = counted p k f (entry (step t) (turn_at p M d high s σ).answer ∷ past) (turn_at p M d high s σ).hub.core told e in
          let one_more = subst (λ (i : ℕ). more s.granted i k ≡ s.granted k + 1) (sym j) (more_same s.granted k) in
          done (omega arith) (had ∙ one_more ∙ last)
          (rw (eq-eqb node k j, eq-eqb (frame_of p d) f (subst (λ (x : ℕ). frame_of p x ≡ f) here e)) soon)

  -- no turn is taken in class normal, and the line does not come to rest
  pub turn_taken : (c : Class) (d : ℕ) → sought p s ≡ class c → s.clock ≡ d → FrameMoment p k f R s (π.pointers high) → frame_of p s.clock ≡ f
      → Told p (entry (step t) (turn_at p M d c s σ).answer ∷ past) (turn_at p M d c s σ).hub.core
      → GrantsSoFar p M follows k f R (entry (step t) (turn_at p M d c s σ).answer ∷ past) (turn_at p M d c s σ).hub
  turn_taken high d q here now e told = high_turn d here now e told
  turn_taken normal d q here now e told =
      let h = sought_high p s k w now.moment.counts in
      clash (cc)

pub no_rest : (p : Plan) (k f : ℕ) → Within p.nodes k → (R : ℕ → Share) (s : Core) (a : ℕ) → FrameMoment p k f R s a → sought p s ≡ nothing → ⊥
no_rest p k f w R s a now q =
    let h = sought_high p s k w now.moment.counts in
    clash (cc)
