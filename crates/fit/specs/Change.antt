-- What a planner hears of one offer: request 9's number where that isn't 17, and else a change, or that there is none.
use Rattle.std.specs.Prelude.{ℕ, Result, Ok, Err}
use Rattle.cells.specs.declared.Refusal.{Refusal}
use Rattle.cells.specs.Step.{refusal_number}
use Rattle.fit.specs.declared.Fit as code
use Rattle.fit.specs.declared.Fit.TheVariants as change

pub data Fit : Type 0 where
  Answer : ℕ → Fit
  Packets : ℕ → Fit
  Bits : ℕ → Fit
  Release : ℕ → Fit
  Nothing : Fit

-- an offer that is granted has the number 0
abbrev pub told_fit : Result code.Fit Refusal → Fit
told_fit (Ok change.Granted) = Answer 0
told_fit (Ok (change.Packets n)) = Packets n
told_fit (Ok (change.Bits b)) = Bits b
told_fit (Ok (change.Release j)) = Release j
told_fit (Ok change.Nothing) = Nothing
told_fit (Err r) = Answer (refusal_number r)
