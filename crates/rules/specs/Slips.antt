-- "Slips of the turn list": wrong hubs, each wrong in one rule, and for each a run on which it answers otherwise than the right hub.
use Rattle.std.specs.Prelude.{ℕ, zero, suc, ◌+◌, ◌-◌, ◌≡◌, Bool, true, false, ◌&&◌, List, [], ◌∷◌, eqb, if◌then◌else◌}
use Rattle.rules.specs.Choice.{any}
use Rattle.rules.specs.Plan.{Plan}
use Rattle.rules.specs.Call.{Class, normal, high, same, Call, ask, off, reserve, until, step, Answer, taken, refused, grant, rest, quiet}
use Rattle.rules.specs.Core.{Core, none, frame_of, advance, is_class, held, Due, never, at, due, before, sought}
use Rattle.rules.specs.Rows.{Verdict, accept, refuse, first_row, rows}
use Rattle.rules.specs.Machine.{Machine, Turn, Rest, Hub, Outcome, handled, accepted, perform}
use Rattle.rules.specs.Control.{Control, at_first, at_port, marking, lowest, point, hand_to, climb, take, hand_up, walk, most_looks, turning, choose_by, rested_by, control}
use Rattle.rules.specs.Run.{fresh_hub, answers}
use Rattle.rules.specs.Sample.{plan01}

-- a slip: a plan, what the wrong hub answers to calls, calls that tell it from the right hub, and the answers of both
pub record Slip : Type 0 where
  pub plan : Plan
  pub wrong : List Call → List Answer
  pub calls : List Call
  pub right_answers : List Answer
  pub wrong_answers : List Answer

pub record Shown (x : Slip) : Type 0 where
  pub right : answers x.plan (control x.plan) x.calls ≡ x.right_answers
  pub wrong : x.wrong x.calls ≡ x.wrong_answers
  pub differ : x.right_answers ≡ x.wrong_answers → ⊥

-- "A pointer moved by a look that granted nothing". Rule 1, that pointers stay at
-- a rest, is wrong: this hub looks for a port by rules 3 and 4 all the same.
abbrev pub looking : Plan → Control → Rest Control
looking p σ =
    let looked = walk p σ.latest (λ k. false) most_looks σ 0 in
    record { state = looked.state; moves = looked.moves }

abbrev pub restless : Plan → Machine
restless p = record { State = Control; start = at_first; choose = choose_by p; rested = looking p }

-- "A lower hub always started afresh, or always resumed". The end of rule 3 is wrong: `own` says whether the port was
-- the pointer's own and was marked, which is when the lower hub resumes, and these hubs resume by `resumes` of it.
module _ (resumes : Bool → Bool) (p : Plan) (c : Class) (f : ℕ → Bool) where
  abbrev pub down_by : ℕ → ℕ → Control → Control
  down_by q h σ =
      let here = σ.pointer c σ.holder in
      let left = point c σ.holder (marking q) σ in
      hand_to h (if resumes (eqb q here.port && here.marked) then left else point c h (at_port 1) left)

  abbrev pub look_by : (Control → ℕ → Turn Control) → Control → ℕ → ℕ → Turn Control
  look_by again σ moves q =
      if eqb q 0 then hand_up p c f again σ moves
      else take p c f (λ τ. again (down_by q τ.holder σ)) σ moves q (p.port σ.holder q)

  unfoldable pub walk_by : ℕ → Control → ℕ → Turn Control
  walk_by zero σ moves = record { node = 0; state = σ; moves = moves }
  walk_by (suc looks) σ moves = look_by (walk_by looks) σ moves (lowest p f σ.holder (σ.pointer c σ.holder).port)

abbrev pub entering : (Bool → Bool) → Plan → Machine
entering resumes p =
    record {
      State = Control;
      start = at_first;
      choose = λ c f σ.
          (if same c σ.latest then walk_by resumes p c f most_looks σ 0
          else walk_by resumes p c f most_looks (hand_to (turning p c σ) σ) (climb p σ.holder - climb p (turning p c σ)));
      rested = rested_by p;
    }

abbrev pub always_afresh : Plan → Machine
always_afresh = entering (λ own. false)

abbrev pub always_resumed : Plan → Machine
always_resumed = entering (λ own. true)

-- The two slips that follow are not of the machine. The answers of a hub that performs calls in another way than `perform`:
unfoldable pub answers_by : {S : Type 0} → (Call → Hub S → Outcome S) → Hub S → List Call → List Answer
answers_by performs h [] = []
answers_by performs h (call ∷ calls) =
    let o = performs call h in
    o.answer ∷ answers_by performs o.hub calls

-- "A reservation in force in the frame of its request". The event reserve is
-- wrong: the latest accepted are in force at once, not from the next frame on.
abbrev pub at_once : Core → Core
at_once s =
    record {
      clock = s.clock;
      line = s.line;
      request = s.request;
      force = s.latest;
      latest = s.latest;
      granted = s.granted;
    }

unfoldable pub hasty : (p : Plan) (M : Machine) → Call → Hub M.State → Outcome M.State
hasty p M call h =
    let o = perform p M call h in
    record { answer = o.answer; hub = record { core = at_once o.hub.core; turn = o.hub.turn } }

-- the time that the packets granted high in frame f take
unfoldable pub high_time : Plan → ℕ → List Answer → ℕ
high_time p f [] = 0
high_time p f (taken ∷ later) = high_time p f later
high_time p f (refused n ∷ later) = high_time p f later
high_time p f (grant s k normal end moves ∷ later) = high_time p f later
high_time p f (grant s k high end moves ∷ later) = (if eqb (frame_of p s) f then end - s else 0) + high_time p f later
high_time p f (rest s moves ∷ later) = high_time p f later
high_time p f (quiet ∷ later) = high_time p f later

-- "Held requests shown upward as high". The class sought is wrong: it is high while any high request stands, held or not, so that meanwhile
-- no normal one is seen. The hub is the right one but for what it `sees` of its core when it asks what is due and what is sought.
abbrev pub held_as_high : Plan → Core → Core
held_as_high p s =
    record {
      clock = s.clock;
      line = s.line;
      request = λ k. (if any p.nodes (held s) && is_class normal (s.request k) then none else s.request k);
      force = s.force;
      latest = s.latest;
      granted = s.granted;
    }

module _ (sees : Core → Core) (p : Plan) (M : Machine) where
  abbrev pub step_seen : Due → ℕ → Hub M.State → Outcome M.State
  step_seen never t h = record { answer = quiet; hub = h }
  step_seen (at d) t h =
      if before (at d) t then handled p M d (sought p (sees (advance p d h.core))) (advance p d h.core) h.turn
      else record { answer = quiet; hub = h }

  abbrev pub accepted_seen : Call → Hub M.State → Outcome M.State
  accepted_seen (step t) h = step_seen (due p (sees h.core)) t h
  accepted_seen (ask c t k b) h = accepted p M (ask c t k b) h
  accepted_seen (off t k) h = accepted p M (off t k) h
  accepted_seen (reserve t k n b) h = accepted p M (reserve t k n b) h
  accepted_seen (until t) h = accepted p M (until t) h

  abbrev pub decided_seen : Verdict → Call → Hub M.State → Outcome M.State
  decided_seen (refuse n) call h = record { answer = refused n; hub = h }
  decided_seen accept call h = accepted_seen call h

  unfoldable pub seeing : Call → Hub M.State → Outcome M.State
  seeing call h = decided_seen (first_row (rows p (sees h.core) call)) call h

-- The runs. After a rest it is node 3's turn, behind node 2 in the lower hub; the restless hub gives it to node 1.
abbrev pub turn_lost : Slip
turn_lost =
    record {
      plan = plan01;
      wrong = answers plan01 (restless plan01);
      calls =
          ask normal 0 2 512 ∷ step 5000 ∷ step 5000 ∷ ask normal 5000 3 512 ∷ ask normal 5000 1 512
          ∷ step 9000 ∷ step 9000 ∷ step 9000 ∷ [];
      right_answers =
          taken ∷ grant 0 2 normal 1512 1 ∷ rest 1512 1 ∷ taken ∷ taken
          ∷ grant 5000 3 normal 6512 1 ∷ grant 6512 1 normal 8024 1 ∷ rest 8024 0 ∷ [];
      wrong_answers =
          taken ∷ grant 0 2 normal 1512 1 ∷ rest 1512 1 ∷ taken ∷ taken
          ∷ grant 5000 1 normal 6512 0 ∷ grant 6512 3 normal 8024 1 ∷ rest 8024 1 ∷ [];
    }

-- M4's: after a high grant elsewhere the lower hub goes on behind node 2; started afresh it grants 2 again before 3
abbrev pub started_afresh : Slip
started_afresh =
    record {
      plan = plan01;
      wrong = answers plan01 (always_afresh plan01);
      calls =
          reserve 0 4 2 512 ∷ ask normal 100000 2 12000 ∷ step 100001 ∷ ask high 100001 4 512 ∷ step 113001
          ∷ ask normal 113001 2 600 ∷ ask normal 113001 3 600 ∷ step 200000 ∷ step 200000 ∷ step 200000 ∷ [];
      right_answers =
          taken ∷ taken ∷ grant 100000 2 normal 113000 1 ∷ taken ∷ grant 113000 4 high 114512 1
          ∷ taken ∷ taken ∷ grant 114512 3 normal 116112 1 ∷ grant 116112 2 normal 117712 2 ∷ rest 117712 1 ∷ [];
      wrong_answers =
          taken ∷ taken ∷ grant 100000 2 normal 113000 1 ∷ taken ∷ grant 113000 4 high 114512 1
          ∷ taken ∷ taken ∷ grant 114512 2 normal 116112 1 ∷ grant 116112 3 normal 117712 0 ∷ rest 117712 1 ∷ [];
    }

-- the lower hub handed control up, and node 4 had its turn: the next round starts in it at node 2; resumed it starts at node 3
abbrev pub resumed_late : Slip
resumed_late =
    record {
      plan = plan01;
      wrong = answers plan01 (always_resumed plan01);
      calls =
          ask normal 0 2 512 ∷ ask normal 0 4 512 ∷ step 2000 ∷ step 2000 ∷ ask normal 2000 2 512 ∷ ask normal 2000 3 512 ∷ step 9000 ∷ [];
      right_answers =
          taken ∷ taken ∷ grant 0 2 normal 1512 1 ∷ grant 1512 4 normal 3024 1 ∷ taken ∷ taken ∷ grant 3024 2 normal 4536 1 ∷ [];
      wrong_answers =
          taken ∷ taken ∷ grant 0 2 normal 1512 1 ∷ grant 1512 4 normal 3024 1 ∷ taken ∷ taken ∷ grant 3024 3 normal 4536 1 ∷ [];
    }

-- plan01's tree with other figures: a packet of 12,000 takes 43,000, so that a frame holds D and one such packet
abbrev pub narrow : Plan
narrow =
    record {
      frame = 100000;
      overhead = 31000;
      interrupt = 43000;
      framing = 3;
      strict = plan01.strict;
      nodes = plan01.nodes;
      hubs = plan01.hubs;
      ports = plan01.ports;
      port = plan01.port;
      parent = plan01.parent;
      place = plan01.place;
      level = plan01.level;
    }

-- node 1 has spent its share, gives it up, and node 2 is let in; then node 2
-- does so, and node 3 is let in: three packets in a frame that holds one
abbrev pub overfilled : Slip
overfilled =
    record {
      plan = narrow;
      wrong = answers_by (hasty narrow (control narrow)) (fresh_hub narrow (control narrow));
      calls =
          reserve 0 1 1 12000 ∷ ask high 100000 1 12000 ∷ step 100001
          ∷ reserve 100001 1 0 0 ∷ reserve 100001 2 1 12000 ∷ ask high 100001 2 12000 ∷ step 143001
          ∷ reserve 143001 2 0 0 ∷ reserve 143001 3 1 12000 ∷ ask high 143001 3 12000 ∷ step 200000 ∷ [];
      right_answers =
          taken ∷ taken ∷ grant 100000 1 high 143000 0
          ∷ taken ∷ taken ∷ refused 16 ∷ rest 143000 0
          ∷ taken ∷ taken ∷ refused 16 ∷ quiet ∷ [];
      wrong_answers =
          taken ∷ taken ∷ grant 100000 1 high 143000 0
          ∷ taken ∷ taken ∷ taken ∷ grant 143000 2 high 186000 1
          ∷ taken ∷ taken ∷ taken ∷ grant 186000 3 high 229000 0 ∷ [];
    }

-- node 3 has spent its share and asks for more: meanwhile node 1's normal
-- request is granted; where the held one is shown as high, the line rests
abbrev pub normal_stopped : Slip
normal_stopped =
    record {
      plan = plan01;
      wrong = answers_by (seeing (held_as_high plan01) plan01 (control plan01)) (fresh_hub plan01 (control plan01));
      calls =
          reserve 0 3 1 4000 ∷ ask high 100000 3 4000 ∷ step 100500 ∷ ask high 100500 3 4000 ∷ ask normal 100500 1 1000
          ∷ step 200000 ∷ step 200000 ∷ step 300000 ∷ [];
      right_answers =
          taken ∷ taken ∷ grant 100000 3 high 105000 1 ∷ taken ∷ taken
          ∷ grant 105000 1 normal 107000 1 ∷ rest 107000 0 ∷ grant 200000 3 high 205000 3 ∷ [];
      wrong_answers =
          taken ∷ taken ∷ grant 100000 3 high 105000 1 ∷ taken ∷ taken
          ∷ rest 105000 1 ∷ quiet ∷ grant 200000 3 high 205000 3 ∷ [];
    }

-- the slips as one table, and that each of a table is shown
abbrev pub slips : List Slip
slips = turn_lost ∷ started_afresh ∷ resumed_late ∷ overfilled ∷ normal_stopped ∷ []

abbrev pub Each : List Slip → Type 0
Each [] = Unit
Each (x ∷ more) = Shown x × Each more
