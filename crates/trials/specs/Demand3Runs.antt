-- Demand 3 worked: lists of calls on document 01's plan as it is read from its text, with `(strict)` and without it, and on one with
-- framing 5. In the first, third and fourth the nth packet ends just at the limit, in the second one bit time before it. In each of the
-- others one premise fails alone, and the claim with it.
use Rattle.std.specs.Prelude.{ℕ, ◌+◌, ◌*◌, ◌≡◌, Bool, true, false, ◌&&◌, List, [], ◌∷◌, ◌++◌, map, reverse}
use Rattle.rules.specs.Plan.{Plan}
use Rattle.rules.specs.Call.{normal, high, ask, off, reserve, until, step, taken, refused, grant, rest, quiet}
use Rattle.rules.specs.Control.{control}
use Rattle.rules.specs.Run.{Entry, made}
use Rattle.rules.specs.Words.{reserved, high_grants}
use Rattle.rules.specs.Demand.{Unbroken, NextTurns, RunTo, Demand3}
use Rattle.plan.specs.Answer as plan
use Rattle.plan.specs.Answer.{Taken}
use Rattle.plan.specs.Tables.{plan_of}
use Rattle.plan.specs.Reading.{reading}
use Rattle.trials.specs.Row.{◌⟶◌}
use Rattle.trials.specs.Plans.{plan01, plan01_default, ring}
use Rattle.trials.specs.Demand3Tests.{unbroken, next_turns, limit, exactly, in_time, run_to}

-- what is worked out of a list
pub record Figures : Type 0 where
  -- n; the ends of k's high grants in f, the latest first; and f × T plus the delay limit
  pub packets : ℕ
  pub ends : List ℕ
  pub limit : ℕ
  -- whether each premise holds, and each half of the claim
  pub unbroken : Bool
  pub next_turns : Bool
  pub run_to : Bool
  pub exactly : Bool
  pub in_time : Bool

pub record Worked : Type 0 where
  -- the bytes of the plan's text, and how it is answered
  pub text : List ℕ
  pub read : plan.Answer
  -- k and f
  pub node : ℕ
  pub frame : ℕ
  -- the calls in the order in which they are made, each with its answer
  pub list : List Entry
  pub expected : Figures

module _ (x : Worked) where
  abbrev pub plan_read : Plan
  plan_read = plan_of (reading x.text).tables

  -- the calls are made on the fresh hub of that plan
  abbrev pub whole : List Entry
  whole = (made plan_read (control plan_read) (reverse (map (λ (e : Entry). e.call) x.list))).past

  abbrev pub frame_end : ℕ
  frame_end = (x.frame + 1) * plan_read.frame

  -- what the definitions give
  unfoldable pub figures : Figures
  figures =
      let n = (reserved plan_read x.node x.frame whole).packets in
      record {
        packets = n;
        ends = high_grants plan_read x.node x.frame whole;
        limit = limit plan_read x.node x.frame whole;
        unbroken = unbroken plan_read x.node x.frame whole;
        next_turns = next_turns plan_read x.node x.frame n whole;
        run_to = run_to frame_end whole;
        exactly = exactly plan_read x.node x.frame whole;
        in_time = in_time plan_read x.node x.frame whole;
      }

-- the text is taken, with 4 nodes and 2 hubs; it ends at byte 100, and the next line would be line 13
abbrev pub on01 : ℕ → ℕ → List Entry → Figures → Worked
on01 k f list expected = record { text = plan01; read = Taken 4 2 100 13; node = k; frame = f; list = list; expected = expected }

-- Node 4 has two packets of 512; nodes 1, 2 and 3 have three of 4,000, one of 3,000 and two of 2,000. Its limit
-- in frame 1 is 100,000 + 13,000 + 2 × 1,512 + 2 × 5,000 + 1 × 4,000 + 2 × 3,000 = 136,024
abbrev pub reserves : List Entry
reserves =
    reserve 0 1 3 4000 ⟶ taken
    ∷ reserve 0 2 1 3000 ⟶ taken
    ∷ reserve 0 3 2 2000 ⟶ taken
    ∷ reserve 0 4 2 512 ⟶ taken
    ∷ reserve 0 4 64 2000 ⟶ refused 17
    ∷ ask high 0 4 512 ⟶ refused 16
    ∷ []

-- At t a normal packet of b bits begins, which ends at u, and at that same time node 4 puts up its request. While the
-- packet runs the others ask, and all of them go before node 4. e is the bound of the steps, the frame's end
abbrev pub first_round : ℕ → ℕ → ℕ → ℕ → List Entry
first_round b t u e =
    ask normal t 2 b ⟶ taken
    ∷ step e ⟶ grant t 2 normal u 1
    ∷ ask high t 4 512 ⟶ taken
    ∷ ask high t 1 4000 ⟶ taken
    ∷ step u ⟶ quiet
    ∷ ask normal (t + 5000) 3 12000 ⟶ taken
    ∷ off (t + 6000) 3 ⟶ taken
    ∷ ask high (t + 6000) 2 3001 ⟶ refused 16
    ∷ ask high (t + 6000) 2 3000 ⟶ taken
    ∷ ask high u 3 2000 ⟶ taken
    ∷ step e ⟶ grant u 1 high (u + 5000) 1
    ∷ ask high u 1 4000 ⟶ taken
    ∷ step e ⟶ grant (u + 5000) 2 high (u + 9000) 1
    ∷ step e ⟶ grant (u + 9000) 3 high (u + 12000) 0
    ∷ ask high (u + 9000) 3 2000 ⟶ taken
    ∷ []

-- Node 4 has its first packet and asks for its second; nodes 1 and 3 go before it again, and node 2's request is held
abbrev pub second_round : ℕ → ℕ → List Entry
second_round u e =
    step e ⟶ grant (u + 12000) 4 high (u + 13512) 1
    ∷ ask high (u + 12000) 4 512 ⟶ taken
    ∷ ask high (u + 12000) 2 3000 ⟶ taken
    ∷ step e ⟶ grant (u + 13512) 1 high (u + 18512) 0
    ∷ ask high (u + 13512) 1 4000 ⟶ taken
    ∷ step e ⟶ grant (u + 18512) 3 high (u + 21512) 1
    ∷ []

-- Its second one goes before node 1's third. Then the clock moves to the frame's end
abbrev pub last_turns : ℕ → ℕ → List Entry
last_turns u e =
    step e ⟶ grant (u + 21512) 4 high (u + 23024) 1
    ∷ until e ⟶ refused 12
    ∷ step e ⟶ grant (u + 23024) 1 high (u + 28024) 0
    ∷ step e ⟶ rest (u + 28024) 0
    ∷ until e ⟶ taken
    ∷ []

-- All premises hold: the normal packet begins just at the frame's start, and node 4's second packet ends just at the limit
abbrev pub at_the_limit : Worked
at_the_limit =
    on01 4 1 (reserves ++ first_round 12000 100000 113000 200000 ++ second_round 113000 200000 ++ last_turns 113000 200000)
    (record {
      packets = 2;
      ends = 136024 ∷ 126512 ∷ [];
      limit = 136024;
      unbroken = true;
      next_turns = true;
      run_to = true;
      exactly = true;
      in_time = true;
    })

-- Nodes 3, 4, 1 and 2 have a packet each in this order, three times, from t on. Behind
-- its first one node 2 asks normal, and high only as the next turn comes
abbrev pub three_rounds : ℕ → List Entry
three_rounds t =
    step 300000 ⟶ grant t 3 high (t + 5000) 1
    ∷ ask high t 3 4000 ⟶ taken
    ∷ step 300000 ⟶ grant (t + 5000) 4 high (t + 8000) 1
    ∷ ask high (t + 5000) 4 2000 ⟶ taken
    ∷ step 300000 ⟶ grant (t + 8000) 1 high (t + 21000) 0
    ∷ ask high (t + 8000) 1 12000 ⟶ taken
    ∷ step 300000 ⟶ grant (t + 21000) 2 high (t + 29000) 1
    ∷ ask normal (t + 21000) 2 600 ⟶ taken
    ∷ ask high (t + 29000) 2 7000 ⟶ taken
    ∷ step 300000 ⟶ grant (t + 29000) 3 high (t + 34000) 0
    ∷ ask high (t + 29000) 3 4000 ⟶ taken
    ∷ step 300000 ⟶ grant (t + 34000) 4 high (t + 37000) 1
    ∷ ask high (t + 34000) 4 2000 ⟶ taken
    ∷ step 300000 ⟶ grant (t + 37000) 1 high (t + 50000) 0
    ∷ ask high (t + 37000) 1 12000 ⟶ taken
    ∷ step 300000 ⟶ grant (t + 50000) 2 high (t + 58000) 1
    ∷ ask high (t + 50000) 2 7000 ⟶ taken
    ∷ step 300000 ⟶ grant (t + 58000) 3 high (t + 63000) 0
    ∷ step 300000 ⟶ grant (t + 63000) 4 high (t + 66000) 1
    ∷ step 300000 ⟶ grant (t + 66000) 1 high (t + 79000) 0
    ∷ step 300000 ⟶ grant (t + 79000) 2 high (t + 87000) 1
    ∷ []

-- All premises hold, over a frame's start. In frame 2 each node has three packets, and they fill the frame: the limit is its
-- end, 200,000 + 13,000 + 3 × (13,000 + 8,000 + 5,000 + 3,000). Node 2's third packet ends one bit time before it
abbrev pub over_the_start : Worked
over_the_start =
    on01 2 2
    (reserve 0 2 1 7000 ⟶ taken
    ∷ reserve 0 3 1 5000 ⟶ taken
    -- node 3 has its one packet of frame 1, and its next request is held
    ∷ ask high 110000 3 5000 ⟶ taken
    ∷ step 110001 ⟶ grant 110000 3 high 116000 1
    ∷ ask high 110000 3 5000 ⟶ taken
    ∷ step 200000 ⟶ rest 116000 1
    -- what each node has from frame 2 on
    ∷ reserve 120000 1 3 12000 ⟶ taken
    ∷ reserve 120000 2 3 7000 ⟶ taken
    ∷ reserve 120000 3 3 4000 ⟶ taken
    ∷ reserve 120000 4 3 2001 ⟶ refused 17
    ∷ reserve 120000 4 3 2000 ⟶ taken
    -- node 2 has its one packet of frame 1, and its next request is held
    ∷ ask high 150000 2 7000 ⟶ taken
    ∷ step 150001 ⟶ grant 150000 2 high 158000 3
    ∷ ask high 150000 2 7000 ⟶ taken
    ∷ step 200000 ⟶ rest 158000 1
    ∷ step 200000 ⟶ quiet
    -- a normal packet begins one bit time before frame 2, whose start makes node 3's request normal; it asks anew
    ∷ ask normal 199999 4 12000 ⟶ taken
    ∷ step 200000 ⟶ grant 199999 4 normal 212999 0
    ∷ ask high 200000 1 12000 ⟶ taken
    ∷ ask high 205000 3 4000 ⟶ taken
    ∷ ask high 205000 4 2000 ⟶ taken
    ∷ three_rounds 212999
    ++ (step 300000 ⟶ rest 299999 1 ∷ step 300000 ⟶ quiet ∷ []))
    (record {
      packets = 3;
      ends = 299999 ∷ 270999 ∷ 241999 ∷ [];
      limit = 300000;
      unbroken = true;
      next_turns = true;
      run_to = true;
      exactly = true;
      in_time = true;
    })

-- All premises hold, with framing 5: the packet in progress has 36,000 bits, and the nth packet again ends just at the limit,
-- 200,000 + 37,000 + 2 × 1,512 + 2 × 5,000 + 1 × 4,000 + 2 × 3,000. The framing's line has 12 bytes
abbrev pub ring_at_the_limit : Worked
ring_at_the_limit =
    record {
      text = ring;
      read = Taken 4 2 112 14;
      node = 4;
      frame = 1;
      list = reserves ++ first_round 36000 200000 237000 400000 ++ second_round 237000 400000 ++ last_turns 237000 400000;
      expected =
          record {
            packets = 2;
            ends = 260024 ∷ 250512 ∷ [];
            limit = 260024;
            unbroken = true;
            next_turns = true;
            run_to = true;
            exactly = true;
            in_time = true;
          };
    }

-- the same plan without `(strict)`: its text has the line's 9 bytes fewer
abbrev pub by_default : ℕ → ℕ → List Entry → Figures → Worked
by_default k f list expected =
    record { text = plan01_default; read = Taken 4 2 91 12; node = k; frame = f; list = list; expected = expected }

-- All premises hold, without `(strict)`: a laptop, node 2, calls its packets high and has nothing reserved. Its first one is in
-- progress as the frame starts, and node 1's second packet ends just at the limit, 100,000 + 13,000 + 2 × 5,000
abbrev pub behind_a_laptop : Worked
behind_a_laptop =
    by_default 1 1
    (reserve 0 1 2 4000 ⟶ taken
    ∷ ask high 100000 2 12000 ⟶ taken
    ∷ step 100001 ⟶ grant 100000 2 normal 113000 1
    ∷ ask high 100000 1 4000 ⟶ taken
    ∷ ask high 100000 2 12000 ⟶ taken
    ∷ step 200000 ⟶ grant 113000 1 high 118000 1
    ∷ ask high 113000 1 4000 ⟶ taken
    ∷ step 200000 ⟶ grant 118000 1 high 123000 0
    ∷ step 200000 ⟶ grant 123000 2 normal 136000 3
    ∷ step 200000 ⟶ rest 136000 1
    ∷ step 200000 ⟶ quiet
    ∷ [])
    (record {
      packets = 2;
      ends = 123000 ∷ 118000 ∷ [];
      limit = 123000;
      unbroken = true;
      next_turns = true;
      run_to = true;
      exactly = true;
      in_time = true;
    })

-- `Unbroken` fails alone, without `(strict)`. Node 3's high request stands as frame 1 starts, where it has
-- a packet reserved; but it was put up in frame 0, where it had none, and so taken as a normal one
abbrev pub taken_as_normal : Worked
taken_as_normal =
    by_default 3 1
    (reserve 0 3 1 1000 ⟶ taken
    ∷ ask normal 99000 1 12000 ⟶ taken
    ∷ step 99999 ⟶ grant 99000 1 normal 112000 0
    ∷ ask high 99999 3 1000 ⟶ taken
    ∷ step 200000 ⟶ grant 112000 3 normal 114000 1
    ∷ step 200000 ⟶ rest 114000 1
    ∷ step 200000 ⟶ quiet
    ∷ [])
    (record {
      packets = 1;
      ends = [];
      limit = 115000;
      unbroken = false;
      next_turns = true;
      run_to = true;
      exactly = false;
      in_time = true;
    })

-- `Unbroken` fails alone. The first list one bit time later: node 4's request isn't there at the
-- frame's start, and its second packet ends one bit time behind the limit
abbrev pub asked_late : Worked
asked_late =
    on01 4 1 (reserves ++ first_round 12000 100001 113001 200000 ++ second_round 113001 200000 ++ last_turns 113001 200000)
    (record {
      packets = 2;
      ends = 136025 ∷ 126513 ∷ [];
      limit = 136024;
      unbroken = false;
      next_turns = true;
      run_to = true;
      exactly = true;
      in_time = false;
    })

-- `Unbroken` fails alone. Node 4 withdraws its request as its first turn comes, and puts it up again
-- right behind that turn, which node 1 has instead: all three packets of node 1 go before its second one
abbrev pub withdrawn_once : Worked
withdrawn_once =
    on01 4 1
    (reserves
    ++ first_round 12000 100000 113000 200000
    ++ (off 125000 4 ⟶ taken
    ∷ step 125001 ⟶ grant 125000 1 high 130000 1
    ∷ ask high 125000 4 512 ⟶ taken
    ∷ ask high 125000 1 4000 ⟶ taken
    ∷ step 200000 ⟶ grant 130000 3 high 133000 1
    ∷ step 200000 ⟶ grant 133000 4 high 134512 1
    ∷ ask high 133000 4 512 ⟶ taken
    ∷ step 200000 ⟶ grant 134512 1 high 139512 0
    ∷ step 200000 ⟶ grant 139512 4 high 141024 0
    ∷ step 200000 ⟶ rest 141024 0
    ∷ until 200000 ⟶ taken
    ∷ []))
    (record {
      packets = 2;
      ends = 141024 ∷ 134512 ∷ [];
      limit = 136024;
      unbroken = false;
      next_turns = true;
      run_to = true;
      exactly = true;
      in_time = false;
    })

-- `Unbroken` fails alone. Node 4's request stands before the frame's start and behind it, but
-- is longer than what it has reserved from there on: the start makes it normal
abbrev pub made_normal : Worked
made_normal =
    on01 4 2
    (reserve 0 4 2 1000 ⟶ taken
    ∷ reserve 150000 4 2 512 ⟶ taken
    ∷ ask normal 195000 2 12000 ⟶ taken
    ∷ step 200000 ⟶ grant 195000 2 normal 208000 1
    ∷ ask high 195000 4 1000 ⟶ taken
    ∷ step 300000 ⟶ grant 208000 4 normal 210000 1
    ∷ step 300000 ⟶ rest 210000 0
    ∷ step 300000 ⟶ quiet
    ∷ [])
    (record {
      packets = 2;
      ends = [];
      limit = 216024;
      unbroken = false;
      next_turns = true;
      run_to = true;
      exactly = false;
      in_time = true;
    })

-- `NextTurns` fails alone, at one step. Node 4 withdraws its second request as its
-- turn comes, and puts it up again right behind: node 1's third packet goes first
abbrev pub turn_missed : Worked
turn_missed =
    on01 4 1
    (reserves
    ++ first_round 12000 100000 113000 200000
    ++ second_round 113000 200000
    ++ (off 134512 4 ⟶ taken
    ∷ step 134513 ⟶ grant 134512 1 high 139512 1
    ∷ ask high 134512 4 512 ⟶ taken
    ∷ step 200000 ⟶ grant 139512 4 high 141024 0
    ∷ step 200000 ⟶ rest 141024 0
    ∷ until 200000 ⟶ taken
    ∷ []))
    (record {
      packets = 2;
      ends = 141024 ∷ 126512 ∷ [];
      limit = 136024;
      unbroken = true;
      next_turns = false;
      run_to = true;
      exactly = true;
      in_time = false;
    })

-- `NextTurns` fails alone. Node 4 never asks for its second packet
abbrev pub asked_once : Worked
asked_once =
    on01 4 1
    (reserves
    ++ first_round 12000 100000 113000 200000
    ++ (step 200000 ⟶ grant 125000 4 high 126512 1
    ∷ step 200000 ⟶ grant 126512 1 high 131512 0
    ∷ step 200000 ⟶ grant 131512 3 high 134512 1
    ∷ step 200000 ⟶ rest 134512 1
    ∷ until 200000 ⟶ taken
    ∷ []))
    (record {
      packets = 2;
      ends = 126512 ∷ [];
      limit = 136024;
      unbroken = true;
      next_turns = false;
      run_to = true;
      exactly = false;
      in_time = true;
    })

-- `RunTo` fails alone. The steps are run up to node 4's second turn, and the instant there is still to be handled
abbrev pub not_run : Worked
not_run =
    on01 4 1 (reserves ++ first_round 12000 100000 113000 200000 ++ second_round 113000 200000 ++ (step 134512 ⟶ quiet ∷ []))
    (record {
      packets = 2;
      ends = 126512 ∷ [];
      limit = 136024;
      unbroken = true;
      next_turns = true;
      run_to = false;
      exactly = false;
      in_time = true;
    })

abbrev pub demand3_runs : List Worked
demand3_runs =
    at_the_limit ∷ over_the_start ∷ ring_at_the_limit ∷ behind_a_laptop ∷ asked_late ∷ withdrawn_once ∷ made_normal ∷ taken_as_normal ∷ turn_missed
    ∷ asked_once ∷ not_run ∷ []

-- row by row: the text is answered so, the calls on its hub are answered so, and the figures are those
pub record AllRight (rows : List Worked) : Type 0 where
  pub read : map (λ (x : Worked). (reading x.text).answer) rows ≡ map (λ (x : Worked). x.read) rows
  pub answered : map whole rows ≡ map (λ (x : Worked). reverse x.list) rows
  pub figured : map figures rows ≡ map (λ (x : Worked). x.expected) rows

-- what a row's Bool says of a premise, or of the claim
abbrev pub Says : Bool → Type 0 → Type 0
Says true A = A
Says false A = A → ⊥

-- demand 3's premises and its claim, of a row's own list
module _ (x : Worked) where
  abbrev pub UnbrokenOf : Type 0
  UnbrokenOf = Unbroken (plan_read x) x.node x.frame (whole x)

  abbrev pub NextTurnsOf : Type 0
  NextTurnsOf = NextTurns (plan_read x) x.node x.frame (whole x) (reserved (plan_read x) x.node x.frame (whole x)).packets

  abbrev pub RunToOf : Type 0
  RunToOf = RunTo (frame_end x) (whole x)

  abbrev pub ClaimOf : Type 0
  ClaimOf = Demand3 (plan_read x) x.node x.frame (whole x)

-- each of them holds or fails as the row has it
pub record Shown (x : Worked) : Type 0 where
  pub unbroken : Says x.expected.unbroken (UnbrokenOf x)
  pub next_turns : Says x.expected.next_turns (NextTurnsOf x)
  pub run_to : Says x.expected.run_to (RunToOf x)
  pub claim : Says (x.expected.exactly && x.expected.in_time) (ClaimOf x)

unfoldable pub AllShown : List Worked → Type 0
AllShown [] = Unit {0}
AllShown (x ∷ more) = Shown x × AllShown more
