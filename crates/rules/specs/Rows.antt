-- "Where each no is said": the rows for events and steps, in the table's order, and what an accepted event changes.
use Rattle.std.specs.Prelude.{ℕ, ◌+◌, ◌*◌, Bool, false, not, ◌||◌, List, [], ◌∷◌, ltb, eqb, if◌then◌else◌}
use Rattle.rules.specs.Choice.{put, sum}
use Rattle.rules.specs.Plan.{Plan, shortest, longest}
use Rattle.rules.specs.Call.{Class, normal, high, Call, ask, off, reserve, until, step}
use Rattle.rules.specs.Core.{Core, Share, Request, none, standing, advance, due, before}

-- a row of the table: its number, and whether its condition holds
pub record Row : Type 0 where
  pub number : ℕ
  pub applies : Bool

pub data Verdict : Type 0 where
  accept : Verdict
  refuse : ℕ → Verdict

-- the first row decides
abbrev pub first_row : List Row → Verdict
first_row [] = accept
first_row (r ∷ rs) = if r.applies then refuse r.number else first_row rs

-- 10^15, the greatest time
abbrev pub last_time : ℕ
last_time = 1000000000000000

-- n × c of a reservation, c = b + O
abbrev pub load : Plan → Share → ℕ
load p r = r.packets * (r.bits + p.overhead)

-- the sum of n × c over all nodes
abbrev pub loads : Plan → (ℕ → Share) → ℕ
loads p r = sum p.nodes (λ k. load p (r k))

-- 11: t above 10^15, or before the clock
abbrev pub row11 : Core → ℕ → Row
row11 s t = record { number = 11; applies = ltb last_time t || ltb t s.clock }

-- 12: an instant strictly before t is due
abbrev pub row12 : Plan → Core → ℕ → Row
row12 p s t = record { number = 12; applies = before (due p s) t }

-- 13: k is 0 or above N
abbrev pub row13 : Plan → ℕ → Row
row13 p k = record { number = 13; applies = eqb k 0 || ltb p.nodes k }

-- 14: n above 64
abbrev pub row14 : ℕ → Row
row14 n = record { number = 14; applies = ltb 64 n }

-- 15: b outside 512 to the plan's longest packet
abbrev pub row15 : Plan → ℕ → Row
row15 p b = record { number = 15; applies = ltb b (shortest p) || ltb (longest p) b }

-- 15 in a reserve: with n = 0 instead, b not 0
abbrev pub row15r : Plan → ℕ → ℕ → Row
row15r p n b =
    record { number = 15; applies = if eqb n 0 then not (eqb b 0) else (ltb b (shortest p) || ltb (longest p) b) }

-- 16, of a high request by the reservation in force at t: with n = 0 the plan is strict, else b is above the b in force
abbrev pub unreserved : Plan → Share → Class → ℕ → Bool
unreserved p r normal b = false
unreserved p r high b = if eqb r.packets 0 then p.strict else ltb r.bits b

abbrev pub row16 : Plan → Core → Class → ℕ → ℕ → ℕ → Row
row16 p s c t k b = record { number = 16; applies = unreserved p ((advance p t s).force k) c b }

-- 17: the frame can't hold it, by the latest accepted reservations with the new one in place of k's old
abbrev pub row17 : Plan → Core → ℕ → Share → Row
row17 p s k r = record { number = 17; applies = ltb p.frame (p.interrupt + loads p (put s.latest k r)) }

abbrev pub rows : Plan → Core → Call → List Row
rows p s (ask c t k b) = row11 s t ∷ row12 p s t ∷ row13 p k ∷ row15 p b ∷ row16 p s c t k b ∷ []
rows p s (off t k) = row11 s t ∷ row12 p s t ∷ row13 p k ∷ []
rows p s (reserve t k n b) =
    row11 s t ∷ row12 p s t ∷ row13 p k ∷ row14 n ∷ row15r p n b ∷ row17 p s k (record { packets = n; bits = b }) ∷ []
rows p s (until t) = row11 s t ∷ row12 p s t ∷ []
rows p s (step t) = row11 s t ∷ []

abbrev pub with_request : ℕ → Request → Core → Core
with_request k r s =
    record {
      clock = s.clock;
      line = s.line;
      request = put s.request k r;
      force = s.force;
      latest = s.latest;
      granted = s.granted;
    }

abbrev pub with_latest : ℕ → Share → Core → Core
with_latest k r s =
    record {
      clock = s.clock;
      line = s.line;
      request = s.request;
      force = s.force;
      latest = put s.latest k r;
      granted = s.granted;
    }

-- the class that an accepted event puts up, by the reservation in force: with n = 0 a high request is taken as a normal one
abbrev pub put_up : Share → Class → Class
put_up r normal = normal
put_up r high = if eqb r.packets 0 then normal else high

-- what an accepted event changes, once the clock has come to its time
abbrev pub change : Call → Core → Core
change (ask c t k b) s = with_request k (standing (put_up (s.force k) c) b) s
change (off t k) s = with_request k none s
change (reserve t k n b) s = with_latest k (record { packets = n; bits = b }) s
change (until t) s = s
change (step t) s = s
