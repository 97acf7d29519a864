-- "What each entry point must say", c: the hubs that must be rejected, nearest first. Each is the right hub but for one thing, and
-- has a run on which it answers otherwise. (The last of the list is of plans: must-fail edits of `plan_tree` and `plan` make such hubs.)
use Rattle.std.specs.Prelude.{ℕ, ◌+◌, ◌-◌, ◌*◌, ◌≡◌, Bool, true, false, List, [], ◌∷◌, map, leb, eqb, if◌then◌else◌}
use Rattle.rules.specs.Choice.{put}
use Rattle.rules.specs.Plan.{Plan, levels}
use Rattle.rules.specs.Call.{normal, high, Call, ask, off, reserve, until, step, time, Answer, taken, refused, grant, rest, quiet}
use Rattle.rules.specs.Core.{Core, none, advance, due, before, nothing}
use Rattle.rules.specs.Rows.{loads, with_request}
use Rattle.rules.specs.Machine.{Machine, Hub, Outcome, handled, perform}
use Rattle.rules.specs.Flat.{flat}
use Rattle.rules.specs.Control.{Control, at_first, choose_by, rested_by, control}
use Rattle.rules.specs.Run.{Entry, fresh_hub, answers}
use Rattle.rules.specs.Agree.{unmoved}
use Rattle.rules.specs.Demand.{Holds3}
use Rattle.rules.specs.Sample.{plan01}
use Rattle.rules.specs.Slips.{Slip, Shown, answers_by, narrow}

-- which part of demand 2 rejects a wrong hub
pub data Part : Type 0 where
  -- but for their moves its answers are not the flat hub's
  turns : Part
  -- they are, and the moves are not those of control hub by hub
  moves : Part

pub record WrongHub : Type 0 where
  pub slip : Slip
  pub part : Part

abbrev pub Against : Part → Slip → Type 0
Against turns x = map unmoved x.wrong_answers ≡ map unmoved x.right_answers → ⊥
Against moves x = map unmoved x.wrong_answers ≡ map unmoved x.right_answers

pub record Rejected (x : WrongHub) : Type 0 where
  pub shown : Shown x.slip
  -- the flat hub answers as the right hub does, but for the moves
  pub flat : answers x.slip.plan (flat x.slip.plan) x.slip.calls ≡ map unmoved x.slip.right_answers
  pub against : Against x.part x.slip

-- Where the right hub grants node k at s, a wrong one does x of s and k; elsewhere o, as the right one does.
-- It grants just where an instant is due before t and a request counts there.
abbrev pub where_granted : (ℕ → ℕ → Outcome Control) → Outcome Control → Answer → Outcome Control
where_granted x o (grant s k c end m) = x s k
where_granted x o (rest s m) = o
where_granted x o quiet = o
where_granted x o taken = o
where_granted x o (refused n) = o

-- where the right hub takes an event, a wrong one does x; elsewhere o
abbrev pub where_taken : Outcome Control → Outcome Control → Answer → Outcome Control
where_taken x o taken = x
where_taken x o (refused n) = o
where_taken x o (grant s k c end m) = o
where_taken x o (rest s m) = o
where_taken x o quiet = o

-- a hub that repeats a node keeps that node too, 0 before the first grant
pub record Repeating : Type 0 where
  pub turn : Control
  pub node : ℕ

module _ (p : Plan) where
  abbrev pub right : Call → Hub Control → Outcome Control
  right = perform p (control p)

  -- "answers a step with quiet .. though an instant is due before t and a request counts there"
  abbrev pub quiet_though_due : Call → Hub Control → Outcome Control
  quiet_though_due call h = where_granted (λ s k. record { answer = quiet; hub = h }) (right call h) (right call h).answer

  -- ".. or rest", as the right hub does where nothing counts
  abbrev pub rest_though_due : Call → Hub Control → Outcome Control
  rest_though_due call h =
      where_granted (λ s k. handled p (control p) s nothing (advance p s h.core) h.turn) (right call h) (right call h).answer

  -- ".. or rest", and k's request, which counts there and whose turn it is, is lost: no later step takes it up
  abbrev pub rest_and_lose : Call → Hub Control → Outcome Control
  rest_and_lose call h =
      let o = right call h in
      where_granted (λ s k. handled p (control p) s nothing (with_request k none (advance p s h.core)) h.turn) o o.answer

  -- "right for its first grant and then repeating that node"
  abbrev pub repeating : Machine
  repeating =
      record {
        State = Repeating;
        start = record { turn = at_first; node = 0 };
        choose = λ c f σ.
            (let t = choose_by p c f σ.turn in
            let k = (if eqb σ.node 0 then t.node else σ.node) in
            record { node = k; state = record { turn = t.state; node = k }; moves = t.moves });
        rested = λ σ.
            (let r = rested_by p σ.turn in
            record { state = record { turn = r.state; node = σ.node }; moves = r.moves });
      }

  -- "reports zero or the limit as its moves"
  abbrev pub reporting : ℕ → Machine
  reporting m =
      record {
        State = Control;
        start = at_first;
        choose = λ c f σ. (let t = choose_by p c f σ in record { node = t.node; state = t.state; moves = m });
        rested = λ σ. record { state = (rested_by p σ).state; moves = m };
      }

  abbrev pub zero_as_moves : Machine
  zero_as_moves = reporting 0

  -- no answer passes the limit, so it is the count itself that rejects this one
  abbrev pub limit_as_moves : Machine
  limit_as_moves = reporting (4 * (levels p - 1))

  -- "says 12 or 17 of an event that it could take": n of those of which `says` holds
  abbrev pub saying : ℕ → (Call → Core → Bool) → Call → Hub Control → Outcome Control
  saying n says call h =
      if says call h.core then where_taken (record { answer = refused n; hub = h }) (right call h) (right call h).answer
      else right call h

  -- 12 of an event at the very instant that is due
  abbrev pub at_its_instant : Call → Core → Bool
  at_its_instant call s = before (due p s) (time call + 1)

  -- 17 of a reserve that fills the frame just to its end
  abbrev pub just_full : Call → Core → Bool
  just_full (reserve t k n b) s = leb p.frame (p.interrupt + loads p (put s.latest k (record { packets = n; bits = b })))
  just_full (ask c t k b) s = false
  just_full (off t k) s = false
  just_full (until t) s = false
  just_full (step t) s = false

  -- "grants node 1 always"
  abbrev pub node_1_always : Machine
  node_1_always =
      record {
        State = Control;
        start = at_first;
        choose = λ c f σ. (let t = choose_by p c f σ in record { node = 1; state = t.state; moves = t.moves });
        rested = rested_by p;
      }

  -- "changes no state"
  abbrev pub unchanging : Call → Hub Control → Outcome Control
  unchanging call h = record { answer = (right call h).answer; hub = h }

  -- "turns every event down", by 12 where no row does
  abbrev pub turning_down : Call → Hub Control → Outcome Control
  turning_down = saying 12 (λ call s. true)

-- The runs, all on document 01's plan. The answers of a hub that performs calls in another way than `perform`:
abbrev pub by : (Plan → Call → Hub Control → Outcome Control) → List Call → List Answer
by wrong = answers_by (wrong plan01) (fresh_hub plan01 (control plan01))

-- node 3's reserved packet is due at the frame's start
abbrev pub reserved_packet : List Call
reserved_packet = reserve 0 3 1 4000 ∷ ask high 100000 3 4000 ∷ step 200000 ∷ []

abbrev pub quiet_instead : Slip
quiet_instead =
    record {
      plan = plan01;
      wrong = by quiet_though_due;
      calls = reserved_packet;
      right_answers = taken ∷ taken ∷ grant 100000 3 high 105000 1 ∷ [];
      wrong_answers = taken ∷ taken ∷ quiet ∷ [];
    }

abbrev pub rest_instead : Slip
rest_instead =
    record {
      plan = plan01;
      wrong = by rest_though_due;
      calls = reserved_packet;
      right_answers = taken ∷ taken ∷ grant 100000 3 high 105000 1 ∷ [];
      wrong_answers = taken ∷ taken ∷ rest 100000 0 ∷ [];
    }

-- a second step finds no request and so no instant that is due: the frame ends, and the packet is never sent
abbrev pub never_taken_up : Slip
never_taken_up =
    record {
      plan = plan01;
      wrong = by rest_and_lose;
      calls = reserve 0 3 1 4000 ∷ ask high 100000 3 4000 ∷ step 200000 ∷ step 200000 ∷ [];
      right_answers = taken ∷ taken ∷ grant 100000 3 high 105000 1 ∷ rest 105000 1 ∷ [];
      wrong_answers = taken ∷ taken ∷ rest 100000 0 ∷ quiet ∷ [];
    }

-- nodes 2 and 3 ask while node 2's packet runs: it is node 3's turn
abbrev pub repeated : Slip
repeated =
    record {
      plan = plan01;
      wrong = answers plan01 (repeating plan01);
      calls = ask normal 0 2 512 ∷ step 1 ∷ ask normal 1 2 512 ∷ ask normal 1 3 512 ∷ step 5000 ∷ [];
      right_answers = taken ∷ grant 0 2 normal 1512 1 ∷ taken ∷ taken ∷ grant 1512 3 normal 3024 0 ∷ [];
      wrong_answers = taken ∷ grant 0 2 normal 1512 1 ∷ taken ∷ taken ∷ grant 1512 2 normal 3024 0 ∷ [];
    }

-- control goes down to node 2's hub, one move, and up again at the rest; the plan has two levels, so that the limit is 4
abbrev pub down_and_up : List Call
down_and_up = ask normal 0 2 512 ∷ step 1 ∷ step 5000 ∷ []

abbrev pub zero_told : Slip
zero_told =
    record {
      plan = plan01;
      wrong = answers plan01 (zero_as_moves plan01);
      calls = down_and_up;
      right_answers = taken ∷ grant 0 2 normal 1512 1 ∷ rest 1512 1 ∷ [];
      wrong_answers = taken ∷ grant 0 2 normal 1512 0 ∷ rest 1512 0 ∷ [];
    }

abbrev pub limit_told : Slip
limit_told =
    record {
      plan = plan01;
      wrong = answers plan01 (limit_as_moves plan01);
      calls = down_and_up;
      right_answers = taken ∷ grant 0 2 normal 1512 1 ∷ rest 1512 1 ∷ [];
      wrong_answers = taken ∷ grant 0 2 normal 1512 4 ∷ rest 1512 4 ∷ [];
    }

-- two ask at once: an instant is due at 0, and not before it
abbrev pub twelve_said : Slip
twelve_said =
    record {
      plan = plan01;
      wrong = by (λ p. saying p 12 (at_its_instant p));
      calls = ask normal 0 1 512 ∷ ask normal 0 2 512 ∷ step 1 ∷ [];
      right_answers = taken ∷ taken ∷ grant 0 1 normal 1512 0 ∷ [];
      wrong_answers = taken ∷ refused 12 ∷ grant 0 1 normal 1512 0 ∷ [];
    }

-- M5's: 13,000 + 29 × 3,000 = 100,000
abbrev pub seventeen_said : Slip
seventeen_said =
    record {
      plan = plan01;
      wrong = by (λ p. saying p 17 (just_full p));
      calls = reserve 0 3 29 2000 ∷ reserve 0 3 29 2001 ∷ [];
      right_answers = taken ∷ refused 17 ∷ [];
      wrong_answers = refused 17 ∷ refused 17 ∷ [];
    }

-- only node 2 asks; node 1, which doesn't, has no bits to send, and the line is busy for the overhead alone
abbrev pub node_1_granted : Slip
node_1_granted =
    record {
      plan = plan01;
      wrong = answers plan01 (node_1_always plan01);
      calls = ask normal 0 2 512 ∷ step 1 ∷ [];
      right_answers = taken ∷ grant 0 2 normal 1512 1 ∷ [];
      wrong_answers = taken ∷ grant 0 1 normal 1000 1 ∷ [];
    }

-- neither the request nor the clock is kept
abbrev pub nothing_kept : Slip
nothing_kept =
    record {
      plan = plan01;
      wrong = by unchanging;
      calls = ask normal 5 1 512 ∷ step 6 ∷ until 3 ∷ [];
      right_answers = taken ∷ grant 5 1 normal 1517 0 ∷ refused 11 ∷ [];
      wrong_answers = taken ∷ quiet ∷ taken ∷ [];
    }

-- one event of each kind; row 16 refuses the high one, since its reserve was turned down
abbrev pub all_turned_down : Slip
all_turned_down =
    record {
      plan = plan01;
      wrong = by turning_down;
      calls = reserve 0 3 1 512 ∷ ask normal 0 1 512 ∷ off 0 1 ∷ until 100000 ∷ ask high 100000 3 512 ∷ step 100001 ∷ [];
      right_answers = taken ∷ taken ∷ taken ∷ taken ∷ taken ∷ grant 100000 3 high 101512 1 ∷ [];
      wrong_answers = refused 12 ∷ refused 12 ∷ refused 12 ∷ refused 12 ∷ refused 16 ∷ quiet ∷ [];
    }

-- list c as one table, in its order, and that each of a table is rejected
abbrev pub list_c : List WrongHub
list_c =
    record { slip = quiet_instead; part = turns }
    ∷ record { slip = rest_instead; part = turns }
    ∷ record { slip = never_taken_up; part = turns }
    ∷ record { slip = repeated; part = turns }
    ∷ record { slip = zero_told; part = moves }
    ∷ record { slip = limit_told; part = moves }
    ∷ record { slip = twelve_said; part = turns }
    ∷ record { slip = seventeen_said; part = turns }
    ∷ record { slip = node_1_granted; part = turns }
    ∷ record { slip = nothing_kept; part = turns }
    ∷ record { slip = all_turned_down; part = turns }
    ∷ []

abbrev pub EachRejected : List WrongHub → Type 0
EachRejected [] = Unit
EachRejected (x ∷ more) = Rejected x × EachRejected more

-- Demand 3 rejects `quiet_though_due`, `rest_and_lose` and `repeating` too, by a list of their calls and answers, the latest first.
-- (`rest_though_due` comes to no frame's end: its request still counts, and each step rests at the clock once more.)
abbrev pub listed : List Call → List Answer → List Entry → List Entry
listed [] told past = past
listed (call ∷ calls) [] past = past
listed (call ∷ calls) (answer ∷ told) past = listed calls told (record { call = call; answer = answer } ∷ past)

abbrev pub wrong_list : Slip → List Entry
wrong_list x = listed x.calls x.wrong_answers []

abbrev pub BreaksDemand3 : Slip → Type 0
BreaksDemand3 x = Holds3 x.plan (wrong_list x) → ⊥

-- node 2 had a normal packet in frame 0; in frame 1 it has every turn, and node 3's reserved packet is never sent
abbrev pub never_served : Slip
never_served =
    record {
      plan = narrow;
      wrong = answers narrow (repeating narrow);
      calls =
          reserve 0 3 1 512 ∷ ask normal 0 2 512 ∷ step 1 ∷ step 50000 ∷ ask high 100000 3 512
          ∷ step 200000 ∷ step 200000 ∷ step 200000 ∷ step 200000 ∷ step 200000 ∷ [];
      right_answers =
          taken ∷ taken ∷ grant 0 2 normal 31512 1 ∷ rest 31512 1 ∷ taken
          ∷ grant 100000 3 high 131512 1 ∷ rest 131512 1 ∷ quiet ∷ quiet ∷ quiet ∷ [];
      wrong_answers =
          taken ∷ taken ∷ grant 0 2 normal 31512 1 ∷ rest 31512 1 ∷ taken
          ∷ grant 100000 2 high 131000 1 ∷ grant 131000 2 high 162000 2 ∷ grant 162000 2 high 193000 2 ∷ grant 193000 2 high 224000 2 ∷ quiet ∷ [];
    }
