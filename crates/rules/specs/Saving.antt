-- Request 4 of document 02: what the new rule 2 keeps of the old one, and what it saves.
use Rattle.std.specs.Prelude.{◌≤◌, ◌≡◌}
use Rattle.rules.specs.Plan.{Plan}
use Rattle.rules.specs.Call.{Call}
use Rattle.rules.specs.Machine.{Hub, Outcome, perform}
use Rattle.rules.specs.Control.{Control, control, from_root}
use Rattle.rules.specs.Agree.{unmoved, moves_of}

-- the answer but for its moves is the same, and the core that is left; the moves are at most the old ones
pub record Saves (new old : Outcome Control) : Type 0 where
  pub answer : unmoved new.answer ≡ unmoved old.answer
  pub core : new.hub.core ≡ old.hub.core
  pub moves : moves_of new.answer ≤ moves_of old.answer

-- one call on the same hub, by the new rule 2 and by the old
abbrev pub SavesOn : Plan → Hub Control → Call → Type 0
SavesOn p h call = Saves (perform p (control p) call h) (perform p (from_root p) call h)
