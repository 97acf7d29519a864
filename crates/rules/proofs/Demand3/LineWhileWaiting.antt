-- The line while k's high request waits for its turn, and the instant that is due then.
use Prim.Native.Nat.{ℕ, ◌+◌, ◌≤◌}
use mathlib.Core.Path.{◌≡◌, refl}
use mathlib.Core.Bool.{true}
use native.Mathlib.Omega.{arith}
use Rattle.rules.specs.Plan.{Plan}
use Rattle.rules.specs.Drawn.{Within}
use Rattle.rules.specs.Call.{high}
use Rattle.rules.specs.Core.{Core, Line, busy, resting, counts_in, Due, due}
use Rattle.rules.proofs.Laws.Passes.{true-false}
use Rattle.rules.proofs.Laws.Clash.{clash}
use Rattle.rules.proofs.Core.Instants.{Instant, line_ends, one_counts, one_held, no_instant, instant}
use Rattle.rules.proofs.Demand3.Standing.{some_counts_lem, DueBefore}

-- the line, where it can be busy up to b: busy until then at the latest,
-- or it rests and k, with no grant yet, has not been kept waiting longer
pub data Held (b clock grants : ℕ) : Line → Type 0 where
  until_end : (e : ℕ) → e ≤ b → Held b clock grants (busy e)
  at_rest : clock ≤ b → grants ≡ 0 → Held b clock grants resting

held_busy : {b c g : ℕ} {l : Line} (e : ℕ) → Held b c g l → l ≡ busy e → e ≤ b
held_busy e (until_end x h) q = let r : x ≡ e = cc in omega arith
held_busy e (at_rest h z) q = clash (cc)

pub held_rest : {b c g : ℕ} {l : Line} → Held b c g l → l ≡ resting → (c ≤ b) × (g ≡ 0)
held_rest (until_end x h) q = clash (cc)
held_rest (at_rest h z) q = (h, z)

-- the clock goes on within the reach
pub held_on : {b c g t : ℕ} {l : Line} → t ≤ b → Held b c g l → Held b t g l
held_on h (until_end x e) = until_end x e
held_on h (at_rest e z) = at_rest h z

-- an instant is due by then: where the line rests, k's request counts
pub held-due : (p : Plan) (s : Core) (k : ℕ) → Within p.nodes k → (b g : ℕ) → Held b s.clock g s.line
    → (s.line ≡ resting → counts_in high s k ≡ true) → DueBefore p s (b + 1)
held-due p s k w b g held counts = go (instant p s) refl
  where
    go : {x : Due} → Instant p s x → due p s ≡ x → DueBefore p s (b + 1)
    go (line_ends e l) q = record { time = e; is = q; soon = omega (arith, held_busy e held l) }
    go (one_counts l c) q = record { time = s.clock; is = q; soon = omega (arith, (held_rest held l).0) }
    go (one_held l c h) q = absurd (true-false (some_counts_lem p s k w (counts l)) c)
    go (no_instant l c h) q = absurd (true-false (some_counts_lem p s k w (counts l)) c)
