-- The class sought and the due instant, read off the root's two masks and the number of standing requests.
use Rattle.std.specs.Prelude.{ℕ, ◌+◌, ◌*◌, Bool, true, false, not, ◌||◌, List, eqb, get_or, if◌then◌else◌, Option, Some, None}
use Rattle.rules.specs.Plan.{Plan}
use Rattle.rules.specs.Core as rules
use Rattle.cells.specs.Sought.{Sought, Class, Nothing}
use Rattle.cells.specs.Layout.{mask_cell, clock_cell, end_cell, busy_cell, standing_cell, time_at, class_of}

-- whether the root sees a request that counts in a class
abbrev pub root_shows : Bool → List ℕ → Bool
root_shows is_high s = not (eqb (get_or s (mask_cell is_high 1) 0) 0)

unfoldable pub sought_by : List ℕ → Sought
sought_by s = if root_shows true s then Class true else (if root_shows false s then Class false else Nothing)

-- while the line rests: at the clock if some request counts, else at the next frame start if one stands (it is held then), else never
unfoldable pub resting_due : Plan → List ℕ → Option ℕ
resting_due p s =
    if root_shows true s || root_shows false s then Some (time_at s clock_cell) else
    (if eqb (get_or s standing_cell 0) 0 then None else Some ((rules.frame_of p (time_at s clock_cell) + 1) * p.frame))

unfoldable pub due_by : Plan → List ℕ → Option ℕ
due_by p s = if eqb (get_or s busy_cell 0) 0 then resting_due p s else Some (time_at s end_cell)

-- the words of `rules` for these
abbrev pub due_in : Option ℕ → rules.Due
due_in (Some d) = rules.at d
due_in None = rules.never

abbrev pub sought_in : Sought → rules.Sought
sought_in (Class is_high) = rules.class (class_of is_high)
sought_in Nothing = rules.nothing
