-- A made-up table beside the hub, as an example: a bell that counts the grants since it was rung, and whose ringing moves the clock.
use Rattle.std.specs.Prelude.{ℕ, ◌+◌, ◌≡◌, List, [], ◌∷◌, ◌++◌, reverse}
use Rattle.rules.specs.Call.{normal, high, ask, reserve, until, step, Answer, taken, refused, grant, rest, quiet}
use Rattle.rules.specs.Plan.{Plan}
use Rattle.rules.specs.Rows.{Row, Verdict, accept, refuse, first_row, row13}
use Rattle.rules.specs.Run.{Entry}
use Rattle.plan.specs.Tables.{plan_of}
use Rattle.plan.specs.Reading.{reading}
use Rattle.plan_theory.specs.Taken.{TakenAs}
use Rattle.cells.specs.Decode.{plan_in}
use Rattle.cells.specs.Calls.{rows_by}
use Rattle.trials.specs.Plans.{plan01}
use Rattle.beside.specs.Beside.{Reply, refusal, told, Effect, stays, comes_to, Beside, entry, Item, of_hub, aside, projected}
use Rattle.beside.specs.Extended.{Extended}
use Rattle.beside.specs.SameHub.{ExtendedDemands}
use Rattle.beside.specs.Run.{ran}

pub data BellCall : Type 0 where
  -- how many grants there were since the bell was rung
  count : BellCall
  -- it is rung at t for node k, tells that number too, and counts from 0
  ring : ℕ → ℕ → BellCall

-- ring's rows: `until`'s, 11 and 12, and then 13 of its own
abbrev pub ring_rows : Plan → List ℕ → ℕ → ℕ → List Row
ring_rows p s t k = rows_by p s (until t) ++ row13 p k ∷ []

abbrev pub tells : Verdict → ℕ → Reply ℕ
tells accept n = told n
tells (refuse row) n = refusal row

unfoldable pub bell_reply : List ℕ → List ℕ → BellCall → ℕ → Reply ℕ
bell_reply P s count n = told n
bell_reply P s (ring t k) n = tells (first_row (ring_rows (plan_in P) s t k)) n

unfoldable pub bell_next : List ℕ → List ℕ → BellCall → ℕ → ℕ
bell_next P s count n = n
bell_next P s (ring t k) n = 0

abbrev pub bell_effect : BellCall → ℕ → Effect
bell_effect count n = stays
bell_effect (ring t k) n = comes_to t

abbrev pub one_grant : Answer → ℕ → ℕ
one_grant taken n = n
one_grant (refused row) n = n
one_grant (grant s k c end moves) n = n + 1
one_grant (rest s moves) n = n
one_grant quiet n = n

abbrev pub bell : Beside
bell =
    record {
      State = ℕ;
      start = 0;
      Ask = BellCall;
      Told = λ q. ℕ;
      reply = bell_reply;
      next = bell_next;
      effect = bell_effect;
      watch = λ P s e n. one_grant e.answer n;
    }

-- ---- a worked list, on document 01's plan

abbrev pub P01 : List ℕ
P01 = (reading plan01).tables

-- Both kinds of calls, here in the order in which they are made. The bell rings at a frame's start, which brings node 3's reservation into
-- force.
abbrev pub worked : List (Item bell)
worked =
    reverse
    (of_hub (entry (reserve 0 3 2 4000) taken)
    ∷ of_hub (entry (ask normal 0 1 12000) taken)
    ∷ of_hub (entry (step 100000) (grant 0 1 normal 13000 0))
    ∷ aside count (told 1)
    ∷ aside (ring 100000 2) (refusal 12)
    ∷ of_hub (entry (ask high 13000 3 4000) (refused 16))
    ∷ of_hub (entry (step 100000) (rest 13000 0))
    ∷ aside (ring 100000 9) (refusal 13)
    ∷ aside (ring 100000 2) (told 1)
    ∷ of_hub (entry (ask high 100000 3 4000) taken)
    ∷ of_hub (entry (step 200000) (grant 100000 3 high 105000 1))
    ∷ aside (ring 99999 2) (refusal 11)
    ∷ aside count (told 1)
    ∷ [])

-- and what the hub saw of them
abbrev pub worked_seen : List Entry
worked_seen =
    reverse
    (entry (reserve 0 3 2 4000) taken
    ∷ entry (ask normal 0 1 12000) taken
    ∷ entry (step 100000) (grant 0 1 normal 13000 0)
    ∷ entry (ask high 13000 3 4000) (refused 16)
    ∷ entry (step 100000) (rest 13000 0)
    ∷ entry (until 100000) taken
    ∷ entry (ask high 100000 3 4000) taken
    ∷ entry (step 200000) (grant 100000 3 high 105000 1)
    ∷ [])

pub record Worked : Type 0 where
  -- the plan's text is taken, with 4 nodes and 2 hubs; it ends at byte 100, and the next line would be line 13
  pub taken : TakenAs plan01 4 2 100 13
  -- made by computing, the calls are answered as they stand there, and 1 grant was counted since the bell was rung
  pub answered : (ran bell P01 worked).items ≡ worked
  pub counted : (ran bell P01 worked).state ≡ 1
  pub projection : projected bell worked ≡ worked_seen
  -- so it is an extended list, and all the demands hold of it
  pub list : Extended bell P01 worked 1 (ran bell P01 worked).cells
  pub demands : ExtendedDemands bell P01 (plan_of P01) worked (ran bell P01 worked).cells
