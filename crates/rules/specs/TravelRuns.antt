-- Runs worked out by hand for request 13 of document 02: three that travel as far as a run may, one that doesn't, and
-- two lists that travel farther, since in one there is a rest between, and in the other a grant of the other class.
use Rattle.std.specs.Prelude.{ℕ, ◌≡◌, Bool, true, false, ◌&&◌, List, [], ◌∷◌, reverse, map, get_or, take, drop}
use Rattle.rules.specs.Plan.{Plan, node, empty, hub}
use Rattle.rules.specs.Call.{Class, normal, high, Call, ask, reserve, step, Answer, taken, refused, grant, rest, quiet}
use Rattle.rules.specs.Control.{control}
use Rattle.rules.specs.Run.{Entry, made, answers}
use Rattle.rules.specs.Travel.{returns, rounds, travel, grants_in, unbroken, farthest}
use Rattle.rules.specs.Sample.{plan01}

-- what is worked out of a list of calls: the answers; of the calls behind the first grant, whether they and it are a run of grants, their
-- moves, the returns of the root's pointer, and these as the answers tell them; and how far a run with so many returns may travel
pub record Figures : Type 0 where
  pub told : List Answer
  pub is_run : Bool
  pub moves : ℕ
  pub returned : ℕ
  pub by_answers : ℕ
  pub most : ℕ

pub record Worked : Type 0 where
  pub plan : Plan
  pub class : Class
  -- the calls in the order in which they are made, and how many of them stand behind the first grant
  pub calls : List Call
  pub behind : ℕ
  pub expected : Figures

module _ (x : Worked) where
  abbrev pub whole : List Entry
  whole = (made x.plan (control x.plan) (reverse x.calls)).past

  -- up to the first grant, and since
  abbrev pub up_to : List Entry
  up_to = drop x.behind whole

  abbrev pub since : List Entry
  since = take x.behind whole

  abbrev pub starts : List Entry → Bool
  starts [] = false
  starts (first ∷ before) = grants_in x.class first.answer

  -- what the definitions give
  unfoldable pub figures : Figures
  figures =
      record {
        told = answers x.plan (control x.plan) x.calls;
        is_run = starts up_to && unbroken x.class since;
        moves = travel since;
        returned = returns x.plan up_to since;
        by_answers = rounds up_to since;
        most = farthest x.plan (returns x.plan up_to since);
      }

-- plan01's figures; hub 1 has node 1, hub 2 and node 5, hub 2 has node 2, hub 3 and node 4, hub 3 has node 3
abbrev pub nested : Plan
nested =
    record {
      frame = plan01.frame;
      overhead = plan01.overhead;
      interrupt = plan01.interrupt;
      framing = plan01.framing;
      strict = plan01.strict;
      nodes = 5;
      hubs = 3;
      ports = λ g. get_or (0 ∷ 3 ∷ 3 ∷ 1 ∷ []) g 0;
      port = λ g q.
          get_or (get_or ([] ∷ (empty ∷ node 1 ∷ hub 2 ∷ node 5 ∷ []) ∷ (empty ∷ node 2 ∷ hub 3 ∷ node 4 ∷ []) ∷ (empty ∷ node 3 ∷ []) ∷ []) g []) q
          empty;
      parent = λ g. get_or (0 ∷ 0 ∷ 1 ∷ 2 ∷ []) g 0;
      place = λ g. get_or (0 ∷ 0 ∷ 2 ∷ 2 ∷ []) g 0;
      level = λ g. get_or (0 ∷ 1 ∷ 2 ∷ 3 ∷ []) g 0;
    }

-- from node 1 to node 5, down into both lower hubs and out of them again: 2 ×
-- 2 × 1. An event between is taken, one is refused, and a step is quiet
abbrev pub one_round : Worked
one_round =
    record {
      plan = nested;
      class = normal;
      calls =
          ask normal 0 1 512 ∷ ask normal 0 2 512 ∷ ask normal 0 3 512 ∷ ask normal 0 4 512 ∷ step 100000
          ∷ ask normal 0 5 512 ∷ step 100000 ∷ ask high 2000 3 512 ∷ step 100000 ∷ step 4536 ∷ step 100000 ∷ step 100000 ∷ [];
      behind = 7;
      expected =
          record {
            told =
                taken ∷ taken ∷ taken ∷ taken ∷ grant 0 1 normal 1512 0
                ∷ taken ∷ grant 1512 2 normal 3024 1 ∷ refused 16 ∷ grant 3024 3 normal 4536 1 ∷ quiet ∷ grant 4536 4 normal 6048 1
                ∷ grant 6048 5 normal 7560 1 ∷ [];
            is_run = true;
            moves = 4;
            returned = 0;
            by_answers = 0;
            most = 4;
          };
    }

-- and round again: at the second grant to node 1 the root's pointer returns, 2 × 2 × 2
abbrev pub two_rounds : Worked
two_rounds =
    record {
      plan = nested;
      class = normal;
      calls =
          ask normal 0 1 512 ∷ ask normal 0 2 512 ∷ ask normal 0 3 512 ∷ ask normal 0 4 512 ∷ ask normal 0 5 512 ∷ step 100000
          ∷ step 100000 ∷ step 100000 ∷ step 100000 ∷ step 100000
          ∷ ask normal 6048 1 512 ∷ ask normal 6048 2 512 ∷ ask normal 6048 3 512 ∷ ask normal 6048 4 512 ∷ ask normal 6048 5 512
          ∷ step 100000 ∷ step 100000 ∷ step 100000 ∷ step 100000 ∷ step 100000 ∷ [];
      behind = 14;
      expected =
          record {
            told =
                taken ∷ taken ∷ taken ∷ taken ∷ taken ∷ grant 0 1 normal 1512 0
                ∷ grant 1512 2 normal 3024 1 ∷ grant 3024 3 normal 4536 1 ∷ grant 4536 4 normal 6048 1 ∷ grant 6048 5 normal 7560 1
                ∷ taken ∷ taken ∷ taken ∷ taken ∷ taken
                ∷ grant 7560 1 normal 9072 0 ∷ grant 9072 2 normal 10584 1 ∷ grant 10584 3 normal 12096 1 ∷ grant 12096 4 normal 13608 1
                ∷ grant 13608 5 normal 15120 1 ∷ [];
            is_run = true;
            moves = 8;
            returned = 1;
            by_answers = 1;
            most = 8;
          };
    }

-- in class high, on document 01's plan: 2 × 1 × 2
abbrev pub high_rounds : Worked
high_rounds =
    record {
      plan = plan01;
      class = high;
      calls =
          reserve 0 1 2 512 ∷ reserve 0 2 2 512 ∷ reserve 0 4 2 512
          ∷ ask high 100000 1 512 ∷ ask high 100000 2 512 ∷ ask high 100000 4 512 ∷ step 200000
          ∷ ask high 100000 1 512 ∷ step 200000 ∷ ask high 101512 2 512 ∷ step 200000 ∷ ask high 103024 4 512
          ∷ step 200000 ∷ step 200000 ∷ step 200000 ∷ [];
      behind = 8;
      expected =
          record {
            told =
                taken ∷ taken ∷ taken
                ∷ taken ∷ taken ∷ taken ∷ grant 100000 1 high 101512 0
                ∷ taken ∷ grant 101512 2 high 103024 1 ∷ taken ∷ grant 103024 4 high 104536 1 ∷ taken
                ∷ grant 104536 1 high 106048 0 ∷ grant 106048 2 high 107560 1 ∷ grant 107560 4 high 109072 1 ∷ [];
            is_run = true;
            moves = 4;
            returned = 1;
            by_answers = 1;
            most = 4;
          };
    }

-- node 2 twice on end: the search goes round, up to the root and down again
abbrev pub once_more : Worked
once_more =
    record {
      plan = plan01;
      class = normal;
      calls = ask normal 0 2 512 ∷ step 100000 ∷ ask normal 0 2 512 ∷ step 100000 ∷ [];
      behind = 2;
      expected =
          record {
            told = taken ∷ grant 0 2 normal 1512 1 ∷ taken ∷ grant 1512 2 normal 3024 2 ∷ [];
            is_run = true;
            moves = 2;
            returned = 1;
            by_answers = 1;
            most = 4;
          };
    }

-- behind the grant to node 2 control rests, and goes down into hub 2 a second time without a return
abbrev pub with_a_rest : Worked
with_a_rest =
    record {
      plan = plan01;
      class = normal;
      calls =
          ask normal 0 2 512 ∷ step 100000
          ∷ step 100000 ∷ ask normal 2000 3 512 ∷ step 100000 ∷ ask normal 2000 4 512 ∷ step 100000 ∷ [];
      behind = 5;
      expected =
          record {
            told =
                taken ∷ grant 0 2 normal 1512 1
                ∷ rest 1512 1 ∷ taken ∷ grant 2000 3 normal 3512 1 ∷ taken ∷ grant 3512 4 normal 5024 1 ∷ [];
            is_run = false;
            moves = 3;
            returned = 0;
            by_answers = 0;
            most = 2;
          };
    }

-- behind it node 4's high request takes control up to the root, and node 3's
-- normal one down again; the answers would tell a return where there was none
abbrev pub with_the_other_class : Worked
with_the_other_class =
    record {
      plan = plan01;
      class = normal;
      calls =
          reserve 0 4 1 512 ∷ ask normal 100000 2 512 ∷ step 200000
          ∷ ask high 100000 4 512 ∷ step 200000 ∷ ask normal 101512 3 512 ∷ step 200000 ∷ ask normal 103024 4 512 ∷ step 200000 ∷ [];
      behind = 6;
      expected =
          record {
            told =
                taken ∷ taken ∷ grant 100000 2 normal 101512 1
                ∷ taken ∷ grant 101512 4 high 103024 1 ∷ taken ∷ grant 103024 3 normal 104536 1 ∷ taken ∷ grant 104536 4 normal 106048 1 ∷ [];
            is_run = false;
            moves = 3;
            returned = 0;
            by_answers = 1;
            most = 2;
          };
    }

abbrev pub worked_runs : List Worked
worked_runs = one_round ∷ two_rounds ∷ high_rounds ∷ once_more ∷ with_a_rest ∷ with_the_other_class ∷ []

-- row by row
abbrev pub AllRight : List Worked → Type 0
AllRight rows = map figures rows ≡ map (λ (x : Worked). x.expected) rows
