-- Lists of calls worked out by hand for request 1 of document 02, with the wait of each grant: document 01's log, and one list for
-- each thing that keeps a request's time or sets it anew. All of them are on document 01's plan, four of these without the line `(strict)`.
use Rattle.std.specs.Prelude.{ℕ, ◌-◌, ◌≡◌, false, List, [], ◌∷◌, reverse, map}
use Rattle.rules.specs.Plan.{Plan, with_strict}
use Rattle.rules.specs.Call.{normal, high, Call, ask, off, reserve, until, step, Answer, taken, refused, grant, rest, quiet}
use Rattle.rules.specs.Control.{control}
use Rattle.rules.specs.Run.{Entry, made, answers}
use Rattle.rules.specs.WaitWords.{Stand, absent, stands, stand_at}
use Rattle.rules.specs.Waits.{Timed, watched}
use Rattle.rules.specs.Sample.{plan01}

-- a wait is put before the earlier ones where the answer is a grant
abbrev pub of_grant : Answer → ℕ → List ℕ → List ℕ
of_grant (grant s k c end moves) wait waits = wait ∷ waits
of_grant taken wait waits = waits
of_grant (refused n) wait waits = waits
of_grant (rest s moves) wait waits = waits
of_grant quiet wait waits = waits

-- the waits of the grants of a watched run, the latest first
unfoldable pub waits_seen : List Timed → List ℕ
waits_seen [] = []
waits_seen (e ∷ past) = of_grant e.entry.answer e.wait (waits_seen past)

-- the wait of a grant by the words: its time less the time told at the place just before
abbrev pub since_of : Stand → ℕ
since_of absent = 0
since_of (stands c since) = since

abbrev pub told_wait : Plan → Answer → List Entry → ℕ
told_wait p (grant s k c end moves) past = s - since_of (stand_at p k s past)
told_wait p taken past = 0
told_wait p (refused n) past = 0
told_wait p (rest s moves) past = 0
told_wait p quiet past = 0

unfoldable pub waits_told : Plan → List Entry → List ℕ
waits_told p [] = []
waits_told p (e ∷ past) = of_grant e.answer (told_wait p e.answer past) (waits_told p past)

-- what is worked out of a list of calls: the answers, and the waits of the grants in order, as they are recorded and as the words tell them
pub record Figures : Type 0 where
  pub told : List Answer
  pub seen : List ℕ
  pub by_words : List ℕ

pub record Worked : Type 0 where
  pub plan : Plan
  -- the calls in the order in which they are made, the answers, and the waits of the grants
  pub calls : List Call
  pub told : List Answer
  pub waits : List ℕ

-- what the definitions give
unfoldable pub figures : Worked → Figures
figures x =
    record {
      told = answers x.plan (control x.plan) x.calls;
      seen = reverse (waits_seen (watched x.plan (control x.plan) (reverse x.calls)).past);
      by_words = reverse (waits_told x.plan (made x.plan (control x.plan) (reverse x.calls)).past);
    }

abbrev pub expected : Worked → Figures
expected x = record { told = x.told; seen = x.waits; by_words = x.waits }

-- document 01's log
abbrev pub the_log : Worked
the_log =
    record {
      plan = plan01;
      calls =
          reserve 0 3 2 4000 ∷ ask normal 0 1 12000 ∷ ask normal 0 4 6000 ∷ ask high 0 3 4000
          ∷ step 99000 ∷ step 99000 ∷ step 99000 ∷ step 99000 ∷ ask normal 99000 2 12000
          ∷ step 100000 ∷ step 100000 ∷ ask high 100000 3 4000 ∷ ask normal 100000 1 1000
          ∷ step 200000 ∷ step 200000 ∷ step 200000 ∷ step 200000 ∷ until 200000 ∷ [];
      told =
          taken ∷ taken ∷ taken ∷ refused 16
          ∷ grant 0 1 normal 13000 0 ∷ grant 13000 4 normal 20000 0 ∷ rest 20000 0 ∷ quiet ∷ taken
          ∷ grant 99000 2 normal 112000 1 ∷ quiet ∷ taken ∷ taken
          ∷ grant 112000 3 high 117000 2 ∷ grant 117000 1 normal 119000 1 ∷ rest 119000 0 ∷ quiet ∷ taken ∷ [];
      waits = 0 ∷ 13000 ∷ 0 ∷ 12000 ∷ 17000 ∷ [];
    }

-- Behind node 1's packet node 2's normal request of 1,000 waits. A high one, one before the clock and one that is
-- too long are refused and change nothing; the normal one of 5,000 takes its place and keeps its time: 13,000 - 1,000
abbrev pub replaced_normal : Worked
replaced_normal =
    record {
      plan = plan01;
      calls =
          ask normal 0 1 12000 ∷ step 100000 ∷ ask normal 1000 2 512
          ∷ ask high 2000 2 512 ∷ ask normal 500 2 512 ∷ ask normal 3000 2 12001 ∷ ask normal 5000 2 2000 ∷ step 100000 ∷ [];
      told =
          taken ∷ grant 0 1 normal 13000 0 ∷ taken
          ∷ refused 16 ∷ refused 11 ∷ refused 15 ∷ taken ∷ grant 13000 2 normal 16000 1 ∷ [];
      waits = 0 ∷ 12000 ∷ [];
    }

-- A high request of 195,000 stays high at the start of frame 2, and a longer one of 201,000 keeps its time: 203,000 - 195,000
abbrev pub replaced_high : Worked
replaced_high =
    record {
      plan = plan01;
      calls =
          reserve 0 2 1 2000 ∷ ask normal 190000 1 12000 ∷ step 300000
          ∷ ask high 195000 2 1000 ∷ ask high 201000 2 2000 ∷ step 300000 ∷ [];
      told = taken ∷ taken ∷ grant 190000 1 normal 203000 0 ∷ taken ∷ taken ∷ grant 203000 2 high 206000 1 ∷ [];
      waits = 0 ∷ 8000 ∷ [];
    }

-- The high request of 160,000 is new, whatever stood in class normal: 163,000 - 160,000
abbrev pub normal_then_high : Worked
normal_then_high =
    record {
      plan = plan01;
      calls =
          reserve 0 2 1 2000 ∷ ask normal 150000 1 12000 ∷ step 200000
          ∷ ask normal 151000 2 1000 ∷ ask high 160000 2 1000 ∷ step 200000 ∷ [];
      told = taken ∷ taken ∷ grant 150000 1 normal 163000 0 ∷ taken ∷ taken ∷ grant 163000 2 high 165000 1 ∷ [];
      waits = 0 ∷ 3000 ∷ [];
    }

-- And back again: the second normal request has nothing of the first one's time
abbrev pub there_and_back : Worked
there_and_back =
    record {
      plan = plan01;
      calls =
          reserve 0 2 1 2000 ∷ ask normal 150000 1 12000 ∷ step 200000
          ∷ ask normal 151000 2 1000 ∷ ask high 155000 2 1000 ∷ ask normal 161000 2 1000 ∷ step 200000 ∷ [];
      told = taken ∷ taken ∷ grant 150000 1 normal 163000 0 ∷ taken ∷ taken ∷ taken ∷ grant 163000 2 normal 165000 1 ∷ [];
      waits = 0 ∷ 2000 ∷ [];
    }

-- Node 2 gives its packet up from frame 2 on, so its high request of 196,000 becomes normal at 200,000,
-- though the next call comes to 208,000: its wait is the 8,000 since the frame's start
abbrev pub turned_at_the_start : Worked
turned_at_the_start =
    record {
      plan = plan01;
      calls =
          reserve 0 2 1 2000 ∷ reserve 110000 2 0 0 ∷ ask normal 195000 1 12000 ∷ step 300000
          ∷ ask high 196000 2 1000 ∷ step 300000 ∷ [];
      told = taken ∷ taken ∷ taken ∷ grant 195000 1 normal 208000 0 ∷ taken ∷ grant 208000 2 normal 210000 1 ∷ [];
      waits = 0 ∷ 8000 ∷ [];
    }

-- Here the reservation's length falls below the request's. A normal request of 205,000 finds it normal already, and keeps the start's time
abbrev pub found_turned : Worked
found_turned =
    record {
      plan = plan01;
      calls =
          reserve 0 2 1 2000 ∷ reserve 110000 2 1 512 ∷ ask normal 195000 1 12000 ∷ step 300000
          ∷ ask high 196000 2 1000 ∷ ask normal 205000 2 3000 ∷ step 300000 ∷ [];
      told = taken ∷ taken ∷ taken ∷ grant 195000 1 normal 208000 0 ∷ taken ∷ taken ∷ grant 208000 2 normal 212000 1 ∷ [];
      waits = 0 ∷ 8000 ∷ [];
    }

-- Node 2's second high request is held to the end of frame 1, and its packet given up. At 200,000 it becomes normal and is granted at once
abbrev pub held_then_turned : Worked
held_then_turned =
    record {
      plan = plan01;
      calls =
          reserve 0 2 1 1000 ∷ ask high 110000 2 1000 ∷ step 190000 ∷ ask high 111000 2 1000 ∷ step 190000
          ∷ reserve 115000 2 0 0 ∷ step 300000 ∷ [];
      told =
          taken ∷ taken ∷ grant 110000 2 high 112000 1 ∷ taken ∷ rest 112000 1
          ∷ taken ∷ grant 200000 2 normal 202000 1 ∷ [];
      waits = 0 ∷ 0 ∷ [];
    }

-- A request that is withdrawn takes its time along: 13,000 - 3,000
abbrev pub withdrawn_and_new : Worked
withdrawn_and_new =
    record {
      plan = plan01;
      calls =
          ask normal 0 1 12000 ∷ step 100000 ∷ ask normal 1000 2 512 ∷ off 2000 2 ∷ ask normal 3000 2 512 ∷ step 100000 ∷ [];
      told = taken ∷ grant 0 1 normal 13000 0 ∷ taken ∷ taken ∷ taken ∷ grant 13000 2 normal 14512 1 ∷ [];
      waits = 0 ∷ 10000 ∷ [];
    }

-- Without the line `(strict)` node 2's high request is taken as normal, and so keeps the time of the normal one that it replaces
abbrev pub taken_as_normal : Worked
taken_as_normal =
    record {
      plan = with_strict false plan01;
      calls = ask normal 0 1 12000 ∷ step 100000 ∷ ask normal 1000 2 512 ∷ ask high 5000 2 1000 ∷ step 100000 ∷ [];
      told = taken ∷ grant 0 1 normal 13000 0 ∷ taken ∷ taken ∷ grant 13000 2 normal 15000 1 ∷ [];
      waits = 0 ∷ 12000 ∷ [];
    }

-- Class changed and changed back at one instant is two changes: 163,000 - 155,000
abbrev pub at_one_instant : Worked
at_one_instant =
    record {
      plan = plan01;
      calls =
          reserve 0 2 1 2000 ∷ ask normal 150000 1 12000 ∷ step 200000
          ∷ ask normal 151000 2 1000 ∷ ask high 155000 2 1000 ∷ ask normal 155000 2 1000 ∷ step 200000 ∷ [];
      told = taken ∷ taken ∷ grant 150000 1 normal 163000 0 ∷ taken ∷ taken ∷ taken ∷ grant 163000 2 normal 165000 1 ∷ [];
      waits = 0 ∷ 8000 ∷ [];
    }

-- A normal request keeps its time over a frame's start: 108,000 - 96,000
abbrev pub normal_over_a_start : Worked
normal_over_a_start =
    record {
      plan = plan01;
      calls =
          reserve 0 2 1 2000 ∷ ask normal 95000 1 12000 ∷ step 200000 ∷ ask normal 96000 2 1000 ∷ ask normal 104000 2 1000 ∷ step 200000 ∷ [];
      told = taken ∷ taken ∷ grant 95000 1 normal 108000 0 ∷ taken ∷ taken ∷ grant 108000 2 normal 110000 1 ∷ [];
      waits = 0 ∷ 12000 ∷ [];
    }

-- A high request at a frame's start itself finds its reservation in force, and is new over the normal one: 108,000 - 100,000
abbrev pub put_up_at_the_start : Worked
put_up_at_the_start =
    record {
      plan = plan01;
      calls =
          reserve 0 2 1 2000 ∷ ask normal 95000 1 12000 ∷ step 200000
          ∷ ask normal 96000 2 1000 ∷ ask high 100000 2 1000 ∷ ask high 104000 2 2000 ∷ step 200000 ∷ [];
      told = taken ∷ taken ∷ grant 95000 1 normal 108000 0 ∷ taken ∷ taken ∷ taken ∷ grant 108000 2 high 111000 1 ∷ [];
      waits = 0 ∷ 8000 ∷ [];
    }

-- Taken as normal in frame 0, and then a high one over it, with the reservation in force: 108,000 - 104,000
abbrev pub reserved_between : Worked
reserved_between =
    record {
      plan = with_strict false plan01;
      calls =
          reserve 0 2 1 2000 ∷ ask normal 95000 1 12000 ∷ step 200000 ∷ ask high 96000 2 1000 ∷ ask high 104000 2 2000 ∷ step 200000 ∷ [];
      told = taken ∷ taken ∷ grant 95000 1 normal 108000 0 ∷ taken ∷ taken ∷ grant 108000 2 high 111000 1 ∷ [];
      waits = 0 ∷ 4000 ∷ [];
    }

-- That reservation alone changes no class, and so no time: 108,000 - 96,000
abbrev pub reserved_between_alone : Worked
reserved_between_alone =
    record {
      plan = with_strict false plan01;
      calls =
          reserve 0 2 1 2000 ∷ ask normal 95000 1 12000 ∷ step 200000 ∷ ask high 96000 2 1000 ∷ step 200000 ∷ [];
      told = taken ∷ taken ∷ grant 95000 1 normal 108000 0 ∷ taken ∷ grant 108000 2 normal 110000 1 ∷ [];
      waits = 0 ∷ 12000 ∷ [];
    }

-- Turned at 200,000 for its length; a shorter one in the same frame is high, and new: 208,000 - 205,000
abbrev pub turned_and_high_again : Worked
turned_and_high_again =
    record {
      plan = plan01;
      calls =
          reserve 0 2 1 2000 ∷ reserve 110000 2 1 512 ∷ ask normal 195000 1 12000 ∷ step 300000
          ∷ ask high 196000 2 1000 ∷ ask high 205000 2 512 ∷ step 300000 ∷ [];
      told = taken ∷ taken ∷ taken ∷ grant 195000 1 normal 208000 0 ∷ taken ∷ taken ∷ grant 208000 2 high 209512 1 ∷ [];
      waits = 0 ∷ 3000 ∷ [];
    }

-- Turned at 200,000; high ones of that time and of a later one are taken as normal, and keep the start's time: 208,000 - 200,000
abbrev pub turned_then_taken_as_normal : Worked
turned_then_taken_as_normal =
    record {
      plan = with_strict false plan01;
      calls =
          reserve 0 2 1 2000 ∷ reserve 110000 2 0 0 ∷ ask normal 195000 1 12000 ∷ step 300000
          ∷ ask high 196000 2 1000 ∷ ask high 200000 2 1000 ∷ ask high 205000 2 1000 ∷ step 300000 ∷ [];
      told = taken ∷ taken ∷ taken ∷ grant 195000 1 normal 208000 0 ∷ taken ∷ taken ∷ taken ∷ grant 208000 2 normal 210000 1 ∷ [];
      waits = 0 ∷ 8000 ∷ [];
    }

-- A reservation of the start's own time comes too late for that frame: the request is turned there all the same
abbrev pub reserved_at_the_start : Worked
reserved_at_the_start =
    record {
      plan = plan01;
      calls =
          reserve 0 2 1 2000 ∷ reserve 110000 2 0 0 ∷ ask normal 195000 1 12000 ∷ step 300000
          ∷ ask high 196000 2 1000 ∷ reserve 200000 2 1 2000 ∷ step 300000 ∷ [];
      told = taken ∷ taken ∷ taken ∷ grant 195000 1 normal 208000 0 ∷ taken ∷ taken ∷ grant 208000 2 normal 210000 1 ∷ [];
      waits = 0 ∷ 8000 ∷ [];
    }

abbrev pub worked_waits : List Worked
worked_waits =
    the_log ∷ replaced_normal ∷ replaced_high ∷ normal_then_high ∷ there_and_back
    ∷ turned_at_the_start ∷ found_turned ∷ held_then_turned ∷ withdrawn_and_new ∷ taken_as_normal
    ∷ at_one_instant ∷ normal_over_a_start ∷ put_up_at_the_start ∷ reserved_between ∷ reserved_between_alone ∷ turned_and_high_again ∷ turned_then_taken_as_normal ∷ reserved_at_the_start ∷ []

-- row by row
abbrev pub AllRight : List Worked → Type 0
AllRight rows = map figures rows ≡ map expected rows
