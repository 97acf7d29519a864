-- The worst case of a call on the cells, in mask cells that it writes: within a frame by the
-- levels of the plan, and not by its nodes; at a frame's start by its nodes and hubs.
use Rattle.std.specs.Prelude.{ℕ, ◌+◌, ◌-◌, ◌*◌, ◌≤◌, ◌≡◌, true, false, List, eqb, get_or, if◌then◌else◌}
use Rattle.rules.specs.Choice.{sum}
use Rattle.rules.specs.Plan.{Plan, most_hubs, levels}
use Rattle.rules.specs.Call.{Call, ask, off, reserve, until, step}
use Rattle.rules.specs.Core.{frame_of}
use Rattle.cells.specs.Layout.{clock_cell, time_at, mask_cell}
use Rattle.cells.specs.Calls.{perform_by}
use Rattle.cells.specs.Written.{call_writes}

-- 1 where cell i isn't the same in both
abbrev pub differs : List ℕ → List ℕ → ℕ → ℕ
differs s r i = if eqb (get_or r i 0) (get_or s i 0) then 0 else 1

-- how many mask cells aren't
abbrev pub changed_masks : List ℕ → List ℕ → ℕ
changed_masks s r = sum most_hubs (λ g. differs s r (mask_cell false g) + differs s r (mask_cell true g))

-- within a frame: one mask of each level, in each class that the call concerns. A request can come in place
-- of one of the other class, and then it concerns both; one that is removed, by `off` or by its grant, its own
abbrev pub most_by : Plan → Call → ℕ
most_by p (ask c t k b) = 2 * levels p
most_by p (off t k) = levels p
most_by p (reserve t k n b) = 0
most_by p (until t) = 0
most_by p (step t) = levels p

-- more at a frame's start: both masks of each hub are cleared, each node's port is shown
-- in one, and each hub but the root is shown in both masks of its parent
abbrev pub most_at_start : Plan → ℕ
most_at_start p = 2 * p.hubs + p.nodes + 2 * (p.hubs - 1)

-- the clock's frame
abbrev pub frame_in : Plan → List ℕ → ℕ
frame_in p s = frame_of p (time_at s clock_cell)

-- Of every further call on the cells s
pub record FewWrites (P : List ℕ) (p : Plan) (s : List ℕ) : Type 0 where
  -- within a frame
  pub within : (call : Call) → frame_in p (perform_by P call s).cells ≡ frame_in p s → call_writes P call s ≤ most_by p call
  -- and where one starts
  pub over_start : (call : Call) → call_writes P call s ≤ most_by p call + most_at_start p
  -- no more masks change than are counted; where a frame starts this says little, since clearing alone counts two a hub
  pub counted : (call : Call) → changed_masks s (perform_by P call s).cells ≤ call_writes P call s
