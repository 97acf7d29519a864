-- Lists of calls worked out by hand that make as many looks at hubs as a call may: after a
-- change of class on three levels and on one, and after a rest in the class of the latest grant.
use Rattle.std.specs.Prelude.{ℕ, ◌≡◌, List, [], ◌∷◌, reverse, map, get_or}
use Rattle.rules.specs.Plan.{Plan, node, empty, hub}
use Rattle.rules.specs.Call.{normal, high, Call, ask, reserve, step, Answer, taken, grant, rest}
use Rattle.rules.specs.Control.{control}
use Rattle.rules.specs.Run.{Entry, made, answers}
use Rattle.rules.specs.Travel.{left_by}
use Rattle.rules.specs.Looks.{call_looks, most_in_walk, most_in_call}
use Rattle.rules.specs.Sample.{plan01}

-- the looks of each call of a list, the latest first
unfoldable pub looks : Plan → List Entry → List ℕ
looks p [] = []
looks p (e ∷ past) = call_looks p (left_by p past) e.answer ∷ looks p past

-- what is worked out of a list of calls: the answers, the looks of each call, and the most in a call and in a walk
pub record Figures : Type 0 where
  pub told : List Answer
  pub looked : List ℕ
  pub in_call : ℕ
  pub in_walk : ℕ

pub record Worked : Type 0 where
  pub plan : Plan
  -- the calls in the order in which they are made
  pub calls : List Call
  pub expected : Figures

-- what the definitions give
unfoldable pub figures : Worked → Figures
figures x =
    record {
      told = answers x.plan (control x.plan) x.calls;
      looked = reverse (looks x.plan (made x.plan (control x.plan) (reverse x.calls)).past);
      in_call = most_in_call x.plan;
      in_walk = most_in_walk x.plan;
    }

-- plan01's figures; hub 1 has hubs 2 and 4, hub 2 has hub 3 with nodes 1 and 2, and hub 4 has hub 5 with node 3
abbrev pub two_lines : Plan
two_lines =
    record {
      frame = plan01.frame;
      overhead = plan01.overhead;
      interrupt = plan01.interrupt;
      framing = plan01.framing;
      strict = plan01.strict;
      nodes = 3;
      hubs = 5;
      ports = λ g. get_or (0 ∷ 2 ∷ 1 ∷ 2 ∷ 1 ∷ 1 ∷ []) g 0;
      port = λ g q.
          get_or
          (get_or
          ([] ∷ (empty ∷ hub 2 ∷ hub 4 ∷ []) ∷ (empty ∷ hub 3 ∷ []) ∷ (empty ∷ node 1 ∷ node 2 ∷ []) ∷ (empty ∷ hub 5 ∷ []) ∷ (empty ∷ node 3 ∷ []) ∷ [])
          g []) q empty;
      parent = λ g. get_or (0 ∷ 0 ∷ 1 ∷ 2 ∷ 1 ∷ 4 ∷ []) g 0;
      place = λ g. get_or (0 ∷ 0 ∷ 1 ∷ 1 ∷ 2 ∷ 1 ∷ []) g 0;
      level = λ g. get_or (0 ∷ 1 ∷ 2 ∷ 3 ∷ 2 ∷ 3 ∷ []) g 0;
    }

-- and one hub with node 1
abbrev pub one_hub : Plan
one_hub =
    record {
      frame = plan01.frame;
      overhead = plan01.overhead;
      interrupt = plan01.interrupt;
      framing = plan01.framing;
      strict = plan01.strict;
      nodes = 1;
      hubs = 1;
      ports = λ g. get_or (0 ∷ 1 ∷ []) g 0;
      port = λ g q. get_or (get_or ([] ∷ (empty ∷ node 1 ∷ []) ∷ []) g []) q empty;
      parent = λ g. 0;
      place = λ g. 0;
      level = λ g. get_or (0 ∷ 1 ∷ []) g 0;
    }

-- The third grant looks up hub 5's line, down the marked line to hub 3, up it, round and down again: 4 × 3 - 1
abbrev pub class_changes : Worked
class_changes =
    record {
      plan = two_lines;
      calls =
          reserve 0 1 2 512 ∷ ask high 100000 1 512 ∷ step 200000
          ∷ ask normal 100000 3 512 ∷ step 200000 ∷ ask high 101512 1 512 ∷ step 200000 ∷ [];
      expected =
          record {
            told =
                taken ∷ taken ∷ grant 100000 1 high 101512 2
                ∷ taken ∷ grant 101512 3 normal 103024 4 ∷ taken ∷ grant 103024 1 high 104536 8 ∷ [];
            looked = 0 ∷ 0 ∷ 4 ∷ 0 ∷ 6 ∷ 0 ∷ 11 ∷ [];
            in_call = 11;
            in_walk = 8;
          };
    }

-- behind the rest the marked line is gone down from the root: 3 × 3 - 1
abbrev pub after_a_rest : Worked
after_a_rest =
    record {
      plan = two_lines;
      calls = ask normal 0 1 512 ∷ step 100000 ∷ step 100000 ∷ ask normal 2000 1 512 ∷ step 100000 ∷ [];
      expected =
          record {
            told = taken ∷ grant 0 1 normal 1512 2 ∷ rest 1512 2 ∷ taken ∷ grant 2000 1 normal 3512 6 ∷ [];
            looked = 0 ∷ 3 ∷ 0 ∷ 0 ∷ 8 ∷ [];
            in_call = 11;
            in_walk = 8;
          };
    }

-- the one hub is looked at for where control turns, and twice for the node: 4 × 1 - 1
abbrev pub on_one_level : Worked
on_one_level =
    record {
      plan = one_hub;
      calls =
          reserve 0 1 2 512 ∷ ask high 100000 1 512 ∷ step 200000
          ∷ ask normal 100000 1 512 ∷ step 200000 ∷ ask high 101512 1 512 ∷ step 200000 ∷ [];
      expected =
          record {
            told =
                taken ∷ taken ∷ grant 100000 1 high 101512 0
                ∷ taken ∷ grant 101512 1 normal 103024 0 ∷ taken ∷ grant 103024 1 high 104536 0 ∷ [];
            looked = 0 ∷ 0 ∷ 2 ∷ 0 ∷ 2 ∷ 0 ∷ 3 ∷ [];
            in_call = 3;
            in_walk = 2;
          };
    }

abbrev pub worked_looks : List Worked
worked_looks = class_changes ∷ after_a_rest ∷ on_one_level ∷ []

-- row by row
abbrev pub AllRight : List Worked → Type 0
AllRight rows = map figures rows ≡ map (λ (x : Worked). x.expected) rows
