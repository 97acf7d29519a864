-- Request 13 of document 02, "A round's travel": how far control travels in a run
-- of grants of one class, by how often the root's pointer returns to port 1.
use Rattle.std.specs.Prelude.{ℕ, zero, suc, ◌+◌, ◌-◌, ◌*◌, ◌≤◌, ◌≡◌, Bool, true, false, ◌&&◌, List, [], ◌∷◌, ◌++◌, map, eqb, leb, if◌then◌else◌}
use Rattle.rules.specs.Plan.{Plan, Port, node, empty, hub}
use Rattle.rules.specs.Call.{Class, same, Answer, taken, refused, grant, rest, quiet}
use Rattle.rules.specs.Core.{advance, counts_in}
use Rattle.rules.specs.Machine.{Hub}
use Rattle.rules.specs.Control.{Control, at_port, lowest, point, hand_to, down, up, most_looks, turning, control}
use Rattle.rules.specs.Run.{Entry, made}
use Rattle.rules.specs.Agree.{moves_of}

-- Returns of the root's pointer to port 1, look by look beside the walk: `take_returns`, `hand_up_returns`,
-- `look_returns` and `walk_returns` have one case for each case of `take`, `hand_up`, `look_at` and `walk`
module _ (p : Plan) (c : Class) (f : ℕ → Bool) where
  -- rule 3 at port q: a node ends the walk, at a hub it goes on
  abbrev pub take_returns : (Control → ℕ) → Control → ℕ → Port → ℕ
  take_returns again σ q (node k) = 0
  take_returns again σ q empty = 0
  take_returns again σ q (hub h) = again (down c q h σ)

  -- rule 4: at the root it is a return
  abbrev pub hand_up_returns : (Control → ℕ) → Control → ℕ
  hand_up_returns again σ =
      if eqb σ.holder 1 then again (point c 1 (at_port 1) σ) + 1
      else again (up p c σ)

  abbrev pub look_returns : (Control → ℕ) → Control → ℕ → ℕ
  look_returns again σ q =
      if eqb q 0 then hand_up_returns again σ
      else take_returns again σ q (p.port σ.holder q)

  unfoldable pub walk_returns : ℕ → Control → ℕ
  walk_returns zero σ = 0
  walk_returns (suc looks) σ = look_returns (walk_returns looks) σ (lowest p f σ.holder (σ.pointer c σ.holder).port)

-- in a turn of class c, beside `choose_by`: its walk starts at the holder or,
-- where the class differs from that of the latest grant, where control turns
unfoldable pub choose_returns : Plan → Class → (ℕ → Bool) → Control → ℕ
choose_returns p c f σ =
    if same c σ.latest then walk_returns p c f most_looks σ
    else walk_returns p c f most_looks (hand_to (turning p c σ) σ)

-- in the call to which hub h gave this answer: only a grant has a walk
abbrev pub call_returns : Plan → Hub Control → Answer → ℕ
call_returns p h taken = 0
call_returns p h (refused n) = 0
call_returns p h (grant s k c end moves) = choose_returns p c (counts_in c (advance p s h.core)) h.turn
call_returns p h (rest s moves) = 0
call_returns p h quiet = 0

-- the cascade that a list of calls leaves, the latest first
abbrev pub left_by : Plan → List Entry → Hub Control
left_by p past = (made p (control p) (map (λ (e : Entry). e.call) past)).hub

-- w: the returns in the calls `since`, which were made behind `before`
unfoldable pub returns : Plan → List Entry → List Entry → ℕ
returns p before [] = 0
returns p before (e ∷ since) = returns p before since + call_returns p (left_by p (since ++ before)) e.answer

-- the moves in the calls `since`
unfoldable pub travel : List Entry → ℕ
travel [] = 0
travel (e ∷ since) = travel since + moves_of e.answer

abbrev pub grants_in : Class → Answer → Bool
grants_in c taken = false
grants_in c (refused n) = false
grants_in c (grant s k d end moves) = same d c
grants_in c (rest s moves) = false
grants_in c quiet = false

-- no rest and no grant of the other class; events, refused calls and quiet steps may stand between
abbrev pub goes_on : Class → Answer → Bool
goes_on c taken = true
goes_on c (refused n) = true
goes_on c (grant s k d end moves) = same d c
goes_on c (rest s moves) = false
goes_on c quiet = true

unfoldable pub unbroken : Class → List Entry → Bool
unbroken c [] = true
unbroken c (e ∷ since) = goes_on c e.answer && unbroken c since

-- a run of grants of class c in a list of calls and answers: the grant `first`, and the calls `since` then, up to some place
pub record RunOfGrants (c : Class) (whole : List Entry) : Type 0 where
  pub before : List Entry
  pub first : Entry
  pub since : List Entry
  pub later : List Entry
  pub place : whole ≡ later ++ (since ++ (first ∷ before))
  pub starts : grants_in c first.answer ≡ true
  pub goes_on : unbroken c since ≡ true

-- 2 × (H - 1) × (w + 1)
abbrev pub farthest : Plan → ℕ → ℕ
farthest p w = 2 * (p.hubs - 1) * (w + 1)

-- the node of the latest grant in a list, 0 before the first
abbrev pub node_by : ℕ → Answer → ℕ
node_by j taken = j
node_by j (refused n) = j
node_by j (grant s k c end moves) = k
node_by j (rest s moves) = j
node_by j quiet = j

unfoldable pub latest_node : List Entry → ℕ
latest_node [] = 0
latest_node (e ∷ past) = node_by (latest_node past) e.answer

-- w as the answers alone tell it: grants to a node that doesn't stand behind the one granted before it
abbrev pub round_by : ℕ → Answer → ℕ
round_by j taken = 0
round_by j (refused n) = 0
round_by j (grant s k c end moves) = if leb k j then 1 else 0
round_by j (rest s moves) = 0
round_by j quiet = 0

unfoldable pub rounds : List Entry → List Entry → ℕ
rounds before [] = 0
rounds before (e ∷ since) = rounds before since + round_by (latest_node (since ++ before)) e.answer

-- Of every run: the moves after its first grant are at most those, by the returns
-- in the steps behind that grant; and these returns can be read off the answers
pub record Travels (p : Plan) (whole : List Entry) : Type 0 where
  pub few : (c : Class) (r : RunOfGrants c whole) → travel r.since ≤ farthest p (returns p (r.first ∷ r.before) r.since)
  pub read_off : (c : Class) (r : RunOfGrants c whole) → returns p (r.first ∷ r.before) r.since ≡ rounds (r.first ∷ r.before) r.since
