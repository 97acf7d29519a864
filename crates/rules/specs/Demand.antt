-- Demand 3 as one claim about a list of calls and answers, the latest first. No state is mentioned.
use Rattle.std.specs.Prelude.{ℕ, ◌+◌, ◌*◌, ◌≤◌, ◌<◌, ◌≡◌, true, List, [], ◌∷◌, ◌++◌, length, get_or}
use Rattle.rules.specs.Plan.{Plan}
use Rattle.rules.specs.Run.{Entry}
use Rattle.rules.specs.Words.{clock_at, reserved, High, high_grants, turn_in, quiet_to, delay_limit}

module _ (p : Plan) (k f : ℕ) (whole : List Entry) where
  -- Unbroken from the frame's start: at some place, with `before` behind it and `since` after it,
  -- the clock is at most f × T, no high grant of k in f came yet and its request is high, and so it
  -- is at each later place before the first such grant, or to the list's end if none comes
  pub record Unbroken : Type 0 where
    pub since : List Entry
    pub before : List Entry
    pub place : whole ≡ since ++ before
    pub early : clock_at before ≤ f * p.frame
    pub first : high_grants p k f before ≡ []
    pub high : (later passed : List Entry) → since ≡ later ++ passed → high_grants p k f (passed ++ before) ≡ [] → High p k (passed ++ before)

  -- As the next turn is chosen: at the place just before each step that answers a grant or a rest at
  -- a time in f, after the first and up to the nth of k's high grants there, its request is high
  pub record NextTurns (n : ℕ) : Type 0 where
    pub high : (later : List Entry) (e : Entry) (before : List Entry) → whole ≡ later ++ (e ∷ before) → turn_in p f e.call e.answer ≡ true
        → 1 ≤ length (high_grants p k f before) → length (high_grants p k f before) < n → High p k before

-- Run to a time: the clock is at least that, or the last call is a step with at least that bound, answered quiet
pub data RunTo (time : ℕ) (whole : List Entry) : Type 0 where
  by_clock : time ≤ clock_at whole → RunTo time whole
  by_quiet : (e : Entry) (before : List Entry) → whole ≡ e ∷ before → quiet_to time e.call e.answer ≡ true → RunTo time whole

-- Over a list of calls: a node with n reserved packets whose request stands gets exactly n high grants in the frame,
-- the nth ending within the delay limit. (`high_grants` has the latest first, so the nth of n stands at its head.)
pub record Demand3 (p : Plan) (k f : ℕ) (whole : List Entry) : Type 0 where
  pub exactly : length (high_grants p k f whole) ≡ (reserved p k f whole).packets
  pub in_time : get_or (high_grants p k f whole) 0 0 ≤ f * p.frame + delay_limit p k (λ j. reserved p j f whole)

pub record Holds3 (p : Plan) (whole : List Entry) : Type 0 where
  pub demand : (k f : ℕ) → 1 ≤ k → k ≤ p.nodes → Unbroken p k f whole → NextTurns p k f whole (reserved p k f whole).packets
      → RunTo ((f + 1) * p.frame) whole → Demand3 p k f whole
