-- The calls, "Events" and the step, and their answers.
use Rattle.std.specs.Prelude.{ℕ, Bool, true, false}

pub data Class : Type 0 where
  normal : Class
  high : Class

abbrev pub same : Class → Class → Bool
same normal normal = true
same normal high = false
same high normal = false
same high high = true

pub data Call : Type 0 where
  -- (normal t k b) and (high t k b)
  ask : Class → ℕ → ℕ → ℕ → Call
  -- (off t k)
  off : ℕ → ℕ → Call
  -- (reserve t k n b)
  reserve : ℕ → ℕ → ℕ → ℕ → Call
  -- (until t)
  until : ℕ → Call
  -- a step with bound t
  step : ℕ → Call

-- the time of an event, or the bound of a step
abbrev pub time : Call → ℕ
time (ask c t k b) = t
time (off t k) = t
time (reserve t k n b) = t
time (until t) = t
time (step t) = t

pub data Answer : Type 0 where
  -- an event was accepted
  taken : Answer
  -- a call was refused, with its number
  refused : ℕ → Answer
  -- time, node, class, end and moves
  grant : ℕ → ℕ → Class → ℕ → ℕ → Answer
  -- time and moves
  rest : ℕ → ℕ → Answer
  quiet : Answer
