-- A run over a list of calls from a fresh hub, each call given what the last one left.
use Rattle.std.specs.Prelude.{List, [], ◌∷◌, map, reverse}
use Rattle.rules.specs.Plan.{Plan}
use Rattle.rules.specs.Call.{Call, Answer}
use Rattle.rules.specs.Core.{fresh}
use Rattle.rules.specs.Machine.{Machine, Hub, perform}

-- a call with its answer
pub record Entry : Type 0 where
  pub call : Call
  pub answer : Answer

-- the calls made so far with their answers, the latest first, and the hub that they left
pub record Made (S : Type 0) : Type 0 where
  pub past : List Entry
  pub hub : Hub S

module _ (p : Plan) (M : Machine) where
  -- a taken plan's hub before any event
  abbrev pub fresh_hub : Hub M.State
  fresh_hub = record { core = fresh; turn = M.start }

  abbrev pub next : Call → Made M.State → Made M.State
  next call m =
      let o = perform p M call m.hub in
      record { past = record { call = call; answer = o.answer } ∷ m.past; hub = o.hub }

  -- the run of a list of calls, the latest first: a place of the run is what stands behind an entry
  unfoldable pub made : List Call → Made M.State
  made [] = record { past = []; hub = fresh_hub }
  made (call ∷ earlier) = next call (made earlier)

  -- the answers of a list of calls, both in the order in which they are made
  abbrev pub answers : List Call → List Answer
  answers calls = map (λ (e : Entry). e.answer) (reverse (made (reverse calls)).past)
