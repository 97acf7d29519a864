-- The worst case of a step: how many looks at a hub it makes, by the levels of the plan and not by its nodes.
--
-- A look is a search of a hub's ports from its pointer, or a test of a hub's pointer on the way up the holder's line.
-- To read the root's two masks (whether a turn is due, and of what class), a hub's level (the moves up) or a mask
-- that is mended is none; the masks that a call writes are counted in cells/specs/Written.antt.
use Rattle.std.specs.Prelude.{ℕ, zero, suc, ◌+◌, ◌-◌, ◌*◌, ◌≤◌, ◌≡◌, Bool, true, List, ◌∷◌, ◌++◌, eqb, if◌then◌else◌}
use Rattle.rules.specs.Plan.{Plan, Port, node, empty, hub, most_levels, levels}
use Rattle.rules.specs.Call.{Class, same, Answer, taken, refused, grant, rest, quiet}
use Rattle.rules.specs.Core.{advance, counts_in}
use Rattle.rules.specs.Machine.{Hub}
use Rattle.rules.specs.Control.{Control, at_port, lowest, point, hand_to, down, up, most_looks, turning}
use Rattle.rules.specs.Run.{Entry}
use Rattle.rules.specs.Agree.{moves_of}
use Rattle.rules.specs.Travel.{call_returns, left_by, grants_in}

-- Looks at a hub, beside the walk as the returns of `Travel` are: `take_looks`, `hand_up_looks`, `look_looks`
-- and `walk_looks` have one case for each case of `take`, `hand_up`, `look_at` and `walk`, and each look counts 1
module _ (p : Plan) (c : Class) (f : ℕ → Bool) where
  -- rule 3 at port q: a node ends the walk, at a hub it goes on
  abbrev pub take_looks : (Control → ℕ) → Control → ℕ → Port → ℕ
  take_looks again σ q (node k) = 1
  take_looks again σ q empty = 1
  take_looks again σ q (hub h) = again (down c q h σ) + 1

  -- rule 4: the root goes to port 1 and looks again, any other hub hands up
  abbrev pub hand_up_looks : (Control → ℕ) → Control → ℕ
  hand_up_looks again σ =
      if eqb σ.holder 1 then again (point c 1 (at_port 1) σ) + 1
      else again (up p c σ) + 1

  abbrev pub look_looks : (Control → ℕ) → Control → ℕ → ℕ
  look_looks again σ q =
      if eqb q 0 then hand_up_looks again σ
      else take_looks again σ q (p.port σ.holder q)

  unfoldable pub walk_looks : ℕ → Control → ℕ
  walk_looks zero σ = 0
  walk_looks (suc looks) σ = look_looks (walk_looks looks) σ (lowest p f σ.holder (σ.pointer c σ.holder).port)

-- To find where control turns, from the holder g. `nearest` says which hub that is and not how it is found: as it is
-- written, it goes through the line above each hub anew, with up to L × (L - 1) / 2 tests at L levels. The code finds
-- the same hub in one pass up the line (`nearest_by` in cells/specs/Turns.antt), and that is what is counted: one test of
-- each hub from g up to the root, so g's level
unfoldable pub nearest_looks : Plan → ℕ → ℕ → ℕ
nearest_looks p zero g = 0
nearest_looks p (suc l) g = if eqb g 1 then 1 else nearest_looks p l (p.parent g) + 1

-- in a turn of class c: the walk of `choose_by`, and before it, where the class changes, that pass
unfoldable pub choose_looks : Plan → Class → (ℕ → Bool) → Control → ℕ
choose_looks p c f σ =
    if same c σ.latest then walk_looks p c f most_looks σ
    else nearest_looks p most_levels σ.holder + walk_looks p c f most_looks (hand_to (turning p c σ) σ)

-- in the call to which hub h gave this answer: only a grant has a walk, and a rest reads the holder's level
abbrev pub call_looks : Plan → Hub Control → Answer → ℕ
call_looks p h taken = 0
call_looks p h (refused n) = 0
call_looks p h (grant s k c end moves) = choose_looks p c (counts_in c (advance p s h.core)) h.turn
call_looks p h (rest s moves) = 0
call_looks p h quiet = 0

-- down a marked line, up it, once round at the root and down again
abbrev pub most_in_walk : Plan → ℕ
most_in_walk p = 3 * levels p - 1

-- and before it, where the class changes, from the holder up to the root
abbrev pub most_in_call : Plan → ℕ
most_in_call p = 4 * levels p - 1

-- an entry of a list of calls and answers, which was made behind `before`
pub record PlaceOf (whole : List Entry) : Type 0 where
  pub before : List Entry
  pub entry : Entry
  pub later : List Entry
  pub place : whole ≡ later ++ (entry ∷ before)

module _ (p : Plan) {whole : List Entry} (e : PlaceOf whole) where
  -- the cascade to which the call was made
  abbrev pub there : Hub Control
  there = left_by p e.before

  abbrev pub looks_at : ℕ
  looks_at = call_looks p there e.entry.answer

  -- it grants in the class of the latest grant before it
  abbrev pub same_class : Bool
  same_class = grants_in there.turn.latest e.entry.answer

-- Of every call in a list: its looks are at most 4 × L - 1; in a grant of the class of the latest grant they are at most
-- 3 × L - 1, and each of them but the last is followed by a move, or by a return of the root's pointer to port 1
pub record FewLooks (p : Plan) (whole : List Entry) : Type 0 where
  pub few : (e : PlaceOf whole) → looks_at p e ≤ most_in_call p
  pub few_in_class : (e : PlaceOf whole) → same_class p e ≡ true → looks_at p e ≤ most_in_walk p
  pub told : (e : PlaceOf whole) → same_class p e ≡ true
      → looks_at p e ≡ moves_of e.entry.answer + call_returns p (there p e) e.entry.answer + 1
