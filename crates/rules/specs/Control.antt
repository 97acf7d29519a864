-- "Control, hub by hub": rules 1 to 4, with rule 2 as request 4 of document 02 changed it.
use Rattle.std.specs.Prelude.{ℕ, zero, suc, ◌+◌, ◌-◌, ◌*◌, Bool, true, false, ◌&&◌, eqb, if◌then◌else◌}
use Rattle.rules.specs.Choice.{put, any, first}
use Rattle.rules.specs.Plan.{Plan, Port, node, empty, hub, most_levels}
use Rattle.rules.specs.Call.{Class, normal, same}
use Rattle.rules.specs.Machine.{Machine, Turn, Rest}

-- a pointer to a port, with a mark (unfinished) or none
pub record Pointer : Type 0 where
  pub port : ℕ
  pub marked : Bool

-- which hub has control, the class of the latest grant (before the first
-- one control is at the root, so none is needed), and each hub's pointers
pub record Control : Type 0 where
  pub holder : ℕ
  pub latest : Class
  pub pointer : Class → ℕ → Pointer

abbrev pub at_port : ℕ → Pointer
at_port q = record { port = q; marked = false }

abbrev pub marking : ℕ → Pointer
marking q = record { port = q; marked = true }

-- at first the root has control, and each pointer is port 1 without mark
abbrev pub at_first : Control
at_first = record { holder = 1; latest = normal; pointer = λ c g. at_port 1 }

-- "A hub sees of each port only which classes count there or below it":
-- of one class, whether a node that counts stands in hub g or below it
module _ (p : Plan) (f : ℕ → Bool) where
  abbrev pub seen : (ℕ → Bool) → Port → Bool
  seen below (node k) = f k
  seen below empty = false
  seen below (hub h) = below h

  -- by levels left, since no hub stands deeper than the levels allow
  unfoldable pub below : ℕ → ℕ → Bool
  below zero g = false
  below (suc l) g = any (p.ports g) (λ q. seen (below l) (p.port g q))

  -- what hub g sees at its port q
  abbrev pub shows : ℕ → ℕ → Bool
  shows g q = seen (below most_levels) (p.port g q)

  -- the lowest-numbered port of hub g at or after a port that shows a request, or 0
  unfoldable pub lowest : ℕ → ℕ → ℕ
  lowest g q = first (shows g) q (p.ports g + 1 - q)

-- hub g's pointer of class c becomes x
abbrev pub point : Class → ℕ → Pointer → Control → Control
point c g x σ =
    record {
      holder = σ.holder;
      latest = σ.latest;
      pointer = λ d. (if same d c then put (σ.pointer c) g x else σ.pointer d);
    }

abbrev pub hand_to : ℕ → Control → Control
hand_to g σ = record { holder = g; latest = σ.latest; pointer = σ.pointer }

abbrev pub granted : Class → Control → Control
granted c σ = record { holder = σ.holder; latest = c; pointer = σ.pointer }

-- moves from hub g up to the root: one for each level
abbrev pub climb : Plan → ℕ → ℕ
climb p g = p.level g - 1

-- rule 3, a hub h found at port q: the pointer is that port, marked, and control goes down. h
-- resumes if that port was the pointer's own and was marked; otherwise it starts afresh at port 1
abbrev pub down : Class → ℕ → ℕ → Control → Control
down c q h σ =
    let here = σ.pointer c σ.holder in
    let left = point c σ.holder (marking q) σ in
    hand_to h (if eqb q here.port && here.marked then left else point c h (at_port 1) left)

-- rule 4: a lower hub hands control up, and its parent's pointer becomes the port behind it
abbrev pub up : Plan → Class → Control → Control
up p c σ =
    let g = σ.holder in
    hand_to (p.parent g) (point c (p.parent g) (at_port (p.place g + 1)) σ)

-- rules 3 and 4, repeated: at most `looks` looks at a hub; `moves` counts the passings so far
module _ (p : Plan) (c : Class) (f : ℕ → Bool) where
  -- rule 3 at port q of the holder, which shows a request
  abbrev pub take : (Control → ℕ → Turn Control) → Control → ℕ → ℕ → Port → Turn Control
  take again σ moves q (node k) =
      record { node = k; state = granted c (point c σ.holder (at_port (q + 1)) σ); moves = moves }
  take again σ moves q empty = record { node = 0; state = σ; moves = moves }
  take again σ moves q (hub h) = again (down c q h σ) (moves + 1)

  -- rule 4: the root goes to port 1, unmarked
  abbrev pub hand_up : (Control → ℕ → Turn Control) → Control → ℕ → Turn Control
  hand_up again σ moves =
      if eqb σ.holder 1 then again (point c 1 (at_port 1) σ) moves
      else again (up p c σ) (moves + 1)

  abbrev pub look_at : (Control → ℕ → Turn Control) → Control → ℕ → ℕ → Turn Control
  look_at again σ moves q =
      if eqb q 0 then hand_up again σ moves
      else take again σ moves q (p.port σ.holder q)

  unfoldable pub walk : ℕ → Control → ℕ → Turn Control
  walk zero σ moves = record { node = 0; state = σ; moves = moves }
  walk (suc looks) σ moves =
      look_at (walk looks) σ moves (lowest p f σ.holder (σ.pointer c σ.holder).port)

-- no turn needs more looks: down a marked line, up it, once round at the root, and down again
abbrev pub most_looks : ℕ
most_looks = 3 * most_levels

-- the hub above g has its pointer marked and on g's line: its port is the one where g stands
abbrev pub leads_to : Plan → (ℕ → Pointer) → ℕ → Bool
leads_to p P g = eqb (p.place g) (P (p.parent g)).port && (P (p.parent g)).marked

-- every hub above g on its line has its pointer so; by levels left, since no line is longer
unfoldable pub led : Plan → (ℕ → Pointer) → ℕ → ℕ → Bool
led p P zero g = false
led p P (suc l) g = if eqb g 1 then true else leads_to p P g && led p P l (p.parent g)

-- the lowest hub of g's line, g included, for which every hub above it on that line has its pointer so
unfoldable pub nearest : Plan → (ℕ → Pointer) → ℕ → ℕ → ℕ
nearest p P zero g = 1
nearest p P (suc l) g = if led p P most_levels g then g else nearest p P l (p.parent g)

-- where control turns to class c: the holder's line, and the pointers of class c
abbrev pub turning : Plan → Class → Control → ℕ
turning p c σ = nearest p (σ.pointer c) most_levels σ.holder

-- rule 2, as request 4 of document 02 has it: where the class sought differs
-- from that of the latest grant, control goes up to that hub first
unfoldable pub choose_by : Plan → Class → (ℕ → Bool) → Control → Turn Control
choose_by p c f σ =
    if same c σ.latest then walk p c f most_looks σ 0
    else walk p c f most_looks (hand_to (turning p c σ) σ) (climb p σ.holder - climb p (turning p c σ))

-- rule 2 as document 01 had it before that request: control goes up to the root first
unfoldable pub choose_from_root : Plan → Class → (ℕ → Bool) → Control → Turn Control
choose_from_root p c f σ =
    if same c σ.latest then walk p c f most_looks σ 0
    else walk p c f most_looks (hand_to 1 σ) (climb p σ.holder)

-- rule 1: nothing counts, and control goes up to the root; pointers stay
abbrev pub rested_by : Plan → Control → Rest Control
rested_by p σ = record { state = hand_to 1 σ; moves = climb p σ.holder }

abbrev pub control : Plan → Machine
control p = record { State = Control; start = at_first; choose = choose_by p; rested = rested_by p }

-- the same control by the old rule 2, to compare them
abbrev pub from_root : Plan → Machine
from_root p = record { State = Control; start = at_first; choose = choose_from_root p; rested = rested_by p }
