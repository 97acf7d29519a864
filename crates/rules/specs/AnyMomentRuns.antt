-- Lists worked out by hand for request 5 of document 02, on document 01's plan: three in which the request waits just as
-- long as it may, in two of them over a frame's start, and replaced three times in one of these; one in which other nodes
-- ask again and again; and five in which one premise fails, and the grant comes too late, not at all, or in class normal.
use Rattle.std.specs.Prelude.{ℕ, ◌+◌, ◌-◌, ◌≡◌, Bool, true, false, not, ◌&&◌, ◌||◌, List, [], ◌∷◌, ◌++◌, reverse, map, ltb, leb, eqb, length, take, drop}
use Rattle.rules.specs.Choice.{any}
use Rattle.rules.specs.Plan.{Plan}
use Rattle.rules.specs.Call.{normal, high, Call, ask, off, reserve, until, step, Answer, taken, refused, grant, rest, quiet}
use Rattle.rules.specs.Core.{Share, frame_of}
use Rattle.rules.specs.Control.{control}
use Rattle.rules.specs.Run.{Entry, made, answers}
use Rattle.rules.specs.Words.{clock_at, reserved, high_grants, quiet_to}
use Rattle.rules.specs.AnyMoment.{Grant, none, granted, first_grant, kept_standing, packets_then, last_frame, latest_grant, far_enough}
use Rattle.rules.specs.Sample.{plan01}

-- what is worked out of a list of calls: the answers; whether each premise holds of the request; the grant to its node, and the limit
pub record Figures : Type 0 where
  pub told : List Answer
  pub left : Bool
  pub stands : Bool
  pub unchanged : Bool
  pub run : Bool
  pub grant : Grant
  pub limit : ℕ

pub record Worked : Type 0 where
  pub plan : Plan
  -- the node, the time and the length of the request
  pub node : ℕ
  pub time : ℕ
  pub bits : ℕ
  -- the calls in the order in which they are made, and how many of them stand behind the request
  pub calls : List Call
  pub behind : ℕ
  pub expected : Figures

abbrev pub same_share : Share → Share → Bool
same_share r q = eqb r.packets q.packets && eqb r.bits q.bits

-- run to a time, as `RunTo` has it
abbrev pub ran_to : ℕ → List Entry → Bool
ran_to time [] = false
ran_to time (e ∷ past) = leb time (clock_at (e ∷ past)) || quiet_to time e.call e.answer

module _ (x : Worked) where
  abbrev pub whole : List Entry
  whole = (made x.plan (control x.plan) (reverse x.calls)).past

  -- before the request with it, and since
  abbrev pub up_to : List Entry
  up_to = drop x.behind whole

  abbrev pub since : List Entry
  since = take x.behind whole

  abbrev pub frame : ℕ
  frame = frame_of x.plan x.time

  abbrev pub last : ℕ
  last = last_frame x.plan x.node x.time whole since

  -- whether some node has something else reserved in one of the frames behind the request's, up to the last one of the wait
  abbrev pub some_change : Bool
  some_change =
      any (last - frame)
      (λ i. any x.plan.nodes (λ j. not (same_share (reserved x.plan j (frame + i) whole) (reserved x.plan j frame whole))))

  -- what the definitions give
  unfoldable pub figures : Figures
  figures =
      record {
        told = answers x.plan (control x.plan) x.calls;
        left = ltb (length (high_grants x.plan x.node frame (drop 1 up_to))) (packets_then x.plan x.node x.time whole);
        stands = kept_standing x.node since;
        unchanged = not some_change;
        run = ran_to (far_enough x.plan x.node x.time whole) whole;
        grant = first_grant x.node since;
        limit = latest_grant x.plan x.node x.time whole;
      }

-- the entry of the request
abbrev pub put_up : Worked → Entry
put_up x = record { call = ask high x.time x.node x.bits; answer = taken }

-- nodes 1, 2 and 3 have one packet each of 4,000, 3,000 and 2,000, node 4 has two of 512
abbrev pub reserves : List Call
reserves = reserve 0 1 1 4000 ∷ reserve 0 2 1 3000 ∷ reserve 0 3 1 2000 ∷ reserve 0 4 2 512 ∷ []

-- Within a frame: at 150,000 a normal packet of 12,000 has just begun, and nodes 1, 2 and 3 go before node 4.
-- 150,000 + 13,000 + 5,000 + 4,000 + 3,000. That node 1 gives its packet up from frame 2 on makes no difference
abbrev pub full_wait : Worked
full_wait =
    record {
      plan = plan01;
      node = 4;
      time = 150000;
      bits = 512;
      calls =
          reserves
          ++ (reserve 110000 1 0 0 ∷ ask normal 150000 2 12000 ∷ step 200000 ∷ ask high 150000 4 512
          ∷ ask high 150000 1 4000 ∷ ask high 150000 2 3000 ∷ ask high 163000 3 2000 ∷ step 200000 ∷ step 200000 ∷ step 200000 ∷ step 200000 ∷ step 200000 ∷ []);
      behind = 8;
      expected =
          record {
            told =
                taken ∷ taken ∷ taken ∷ taken
                ∷ taken ∷ taken ∷ grant 150000 2 normal 163000 1 ∷ taken
                ∷ taken ∷ taken ∷ taken ∷ grant 163000 1 high 168000 1 ∷ grant 168000 2 high 172000 1 ∷ grant 172000 3 high 175000 0
                ∷ grant 175000 4 high 176512 1 ∷ rest 176512 0 ∷ [];
            left = true;
            stands = true;
            unchanged = true;
            run = true;
            grant = granted high 175000;
            limit = 175000;
          };
    }

-- Over a frame's start: node 4 has had one of its two packets in frame 1, and node 1 its only one. So
-- node 1's next request is held; in frame 2, where it counts from 0 anew, it goes before node 4 all the
-- same. 195,000 + 13,000 + 5,000 + 4,000 + 3,000. Behind its grant node 4 asks for its next one
abbrev pub full_wait_across : Worked
full_wait_across =
    record {
      plan = plan01;
      node = 4;
      time = 195000;
      bits = 512;
      calls =
          reserves
          ++ (ask high 110000 1 4000 ∷ step 190000 ∷ ask high 115000 4 512 ∷ step 190000 ∷ step 190000
          ∷ ask normal 195000 2 12000 ∷ step 300000 ∷ ask high 195000 4 512
          ∷ ask high 195000 1 4000 ∷ ask high 200000 2 3000 ∷ ask high 208000 3 2000 ∷ step 300000 ∷ step 300000 ∷ step 300000 ∷ step 300000
          ∷ ask high 221512 4 512 ∷ step 300000 ∷ step 220001 ∷ []);
      behind = 10;
      expected =
          record {
            told =
                taken ∷ taken ∷ taken ∷ taken
                ∷ taken ∷ grant 110000 1 high 115000 0 ∷ taken ∷ grant 115000 4 high 116512 0 ∷ rest 116512 0
                ∷ taken ∷ grant 195000 2 normal 208000 1 ∷ taken
                ∷ taken ∷ taken ∷ taken ∷ grant 208000 1 high 213000 1 ∷ grant 213000 2 high 217000 1 ∷ grant 217000 3 high 220000 0
                ∷ grant 220000 4 high 221512 1 ∷ taken ∷ grant 221512 4 high 223024 0 ∷ refused 11 ∷ [];
            left = true;
            stands = true;
            unchanged = true;
            run = true;
            grant = granted high 220000;
            limit = 220000;
          };
    }

-- The same wait from 195,000 on, with a packet of 1,000 first. While it stands, node 4 puts a longer one in its place, in
-- frame 2 a shorter one, and as its turn comes a longer one again, which is sent. The limit is the first one's, 220,000
abbrev pub replaced_wait : Worked
replaced_wait =
    record {
      plan = plan01;
      node = 4;
      time = 195000;
      bits = 1000;
      calls =
          reserves
          ++ (reserve 0 4 1 2000 ∷ ask normal 195000 2 12000 ∷ step 300000 ∷ ask high 195000 4 1000
          ∷ ask high 195000 1 4000 ∷ ask high 197000 4 2000 ∷ ask high 200000 2 3000 ∷ ask high 205000 4 512 ∷ ask high 208000 3 2000
          ∷ step 300000 ∷ step 300000 ∷ step 300000 ∷ ask high 220000 4 2000 ∷ step 300000 ∷ step 300000 ∷ []);
      behind = 11;
      expected =
          record {
            told =
                taken ∷ taken ∷ taken ∷ taken
                ∷ taken ∷ taken ∷ grant 195000 2 normal 208000 1 ∷ taken
                ∷ taken ∷ taken ∷ taken ∷ taken ∷ taken
                ∷ grant 208000 1 high 213000 1 ∷ grant 213000 2 high 217000 1 ∷ grant 217000 3 high 220000 0
                ∷ taken ∷ grant 220000 4 high 223000 1 ∷ rest 223000 0 ∷ [];
            left = true;
            stands = true;
            unchanged = true;
            run = true;
            grant = granted high 220000;
            limit = 220000;
          };
    }

-- Nodes 2 and 3 ask again behind each of their grants, in frame 1 and in frame 2, and have
-- packets left in both. Each goes before node 1 once all the same: the pointer goes round once
abbrev pub passed_once : Worked
passed_once =
    record {
      plan = plan01;
      node = 1;
      time = 196000;
      bits = 4000;
      calls =
          reserve 0 1 2 4000 ∷ reserve 0 2 3 3000 ∷ reserve 0 3 2 2000 ∷ ask high 110000 1 4000 ∷ step 190000 ∷ step 190000
          ∷ ask high 196000 2 3000 ∷ ask high 196000 1 4000
          ∷ ask high 196000 3 2000 ∷ step 300000 ∷ ask high 200000 2 3000 ∷ step 300000 ∷ ask high 203000 3 2000 ∷ step 300000
          ∷ step 300000 ∷ step 300000 ∷ step 300000 ∷ step 217000 ∷ [];
      behind = 10;
      expected =
          record {
            told =
                taken ∷ taken ∷ taken ∷ taken ∷ grant 110000 1 high 115000 0 ∷ rest 115000 0
                ∷ taken ∷ taken
                ∷ taken ∷ grant 196000 2 high 200000 1 ∷ taken ∷ grant 200000 3 high 203000 0 ∷ taken ∷ grant 203000 1 high 208000 1
                ∷ grant 208000 2 high 212000 1 ∷ grant 212000 3 high 215000 0 ∷ rest 215000 1 ∷ quiet ∷ [];
            left = true;
            stands = true;
            unchanged = true;
            run = true;
            grant = granted high 203000;
            limit = 216000;
          };
    }

-- Node 4 has had its one packet of frame 1, so its request is held. That it has two in frame 2 doesn't help
abbrev pub share_spent : Worked
share_spent =
    record {
      plan = plan01;
      node = 4;
      time = 120000;
      bits = 512;
      calls =
          reserve 0 1 1 4000 ∷ reserve 0 2 1 3000 ∷ reserve 0 3 1 2000 ∷ reserve 0 4 1 512 ∷ ask high 110000 4 512 ∷ step 190000 ∷ step 190000
          ∷ reserve 115000 4 2 512 ∷ ask high 120000 4 512
          ∷ step 146000 ∷ [];
      behind = 1;
      expected =
          record {
            told =
                taken ∷ taken ∷ taken ∷ taken ∷ taken ∷ grant 110000 4 high 111512 0 ∷ rest 111512 0
                ∷ taken ∷ taken
                ∷ quiet ∷ [];
            left = false;
            stands = true;
            unchanged = true;
            run = true;
            grant = none;
            limit = 145000;
          };
    }

-- The request is withdrawn
abbrev pub withdrawn : Worked
withdrawn =
    record {
      plan = plan01;
      node = 4;
      time = 150000;
      bits = 512;
      calls = reserves ++ (ask high 150000 4 512 ∷ off 150000 4 ∷ until 176000 ∷ []);
      behind = 2;
      expected =
          record {
            told = taken ∷ taken ∷ taken ∷ taken ∷ taken ∷ taken ∷ taken ∷ [];
            left = true;
            stands = false;
            unchanged = true;
            run = true;
            grant = none;
            limit = 175000;
          };
    }

-- A normal request of its node takes its place
abbrev pub asked_normal : Worked
asked_normal =
    record {
      plan = plan01;
      node = 4;
      time = 150000;
      bits = 512;
      calls = reserves ++ (ask high 150000 4 512 ∷ ask normal 150000 4 512 ∷ step 190000 ∷ step 190000 ∷ until 176000 ∷ []);
      behind = 4;
      expected =
          record {
            told = taken ∷ taken ∷ taken ∷ taken ∷ taken ∷ taken ∷ grant 150000 4 normal 151512 0 ∷ rest 151512 0 ∷ taken ∷ [];
            left = true;
            stands = false;
            unchanged = true;
            run = true;
            grant = granted normal 150000;
            limit = 175000;
          };
    }

-- From frame 2 on node 1 has a packet of 12,000 reserved
abbrev pub more_reserved : Worked
more_reserved =
    record {
      plan = plan01;
      node = 4;
      time = 195000;
      bits = 512;
      calls =
          reserves
          ++ (reserve 150000 1 1 12000 ∷ ask normal 195000 2 12000 ∷ step 300000 ∷ ask high 195000 4 512
          ∷ ask high 200000 1 12000 ∷ ask high 200000 2 3000 ∷ ask high 200000 3 2000 ∷ step 300000 ∷ step 300000 ∷ step 300000 ∷ step 300000 ∷ []);
      behind = 7;
      expected =
          record {
            told =
                taken ∷ taken ∷ taken ∷ taken
                ∷ taken ∷ taken ∷ grant 195000 2 normal 208000 1 ∷ taken
                ∷ taken ∷ taken ∷ taken ∷ grant 208000 1 high 221000 1 ∷ grant 221000 2 high 225000 1 ∷ grant 225000 3 high 228000 0
                ∷ grant 228000 4 high 229512 1 ∷ [];
            left = true;
            stands = true;
            unchanged = false;
            run = true;
            grant = granted high 228000;
            limit = 220000;
          };
    }

-- The steps are run to the limit, but not above it: the instant at the limit itself is still to be handled
abbrev pub not_run : Worked
not_run =
    record {
      plan = plan01;
      node = 4;
      time = 150000;
      bits = 512;
      calls =
          reserves
          ++ (ask normal 150000 2 12000 ∷ step 200000 ∷ ask high 150000 4 512
          ∷ ask high 150000 1 4000 ∷ ask high 150000 2 3000 ∷ ask high 150000 3 2000 ∷ step 200000 ∷ step 200000 ∷ step 200000 ∷ step 175000 ∷ []);
      behind = 7;
      expected =
          record {
            told =
                taken ∷ taken ∷ taken ∷ taken
                ∷ taken ∷ grant 150000 2 normal 163000 1 ∷ taken
                ∷ taken ∷ taken ∷ taken ∷ grant 163000 1 high 168000 1 ∷ grant 168000 2 high 172000 1 ∷ grant 172000 3 high 175000 0 ∷ quiet ∷ [];
            left = true;
            stands = true;
            unchanged = true;
            run = false;
            grant = none;
            limit = 175000;
          };
    }

abbrev pub worked_waits : List Worked
worked_waits =
    full_wait ∷ full_wait_across ∷ replaced_wait ∷ passed_once
    ∷ share_spent ∷ withdrawn ∷ asked_normal ∷ more_reserved ∷ not_run ∷ []

-- row by row
abbrev pub AllRight : List Worked → Type 0
AllRight rows = map figures rows ≡ map (λ (x : Worked). x.expected) rows

-- the request of each row is the entry at its place
abbrev pub AllPutUp : List Worked → Type 0
AllPutUp rows = map (λ (x : Worked). take 1 (up_to x)) rows ≡ map (λ (x : Worked). put_up x ∷ []) rows
