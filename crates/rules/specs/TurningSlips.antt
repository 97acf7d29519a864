-- Wrong hubs, each wrong in one part of rule 2 as request 4 of document 02 has
-- it, and for each a run on which it answers otherwise than the right hub.
use Rattle.std.specs.Prelude.{ℕ, zero, suc, ◌-◌, Bool, true, false, ◌&&◌, List, [], ◌∷◌, eqb, get_or, if◌then◌else◌}
use Rattle.rules.specs.Plan.{Plan, node, empty, hub, most_levels}
use Rattle.rules.specs.Call.{normal, high, same, ask, reserve, step, taken, grant}
use Rattle.rules.specs.Machine.{Machine}
use Rattle.rules.specs.Control.{Pointer, Control, at_first, hand_to, climb, walk, most_looks, rested_by}
use Rattle.rules.specs.Run.{answers}
use Rattle.rules.specs.Sample.{plan01}
use Rattle.rules.specs.Slips.{Slip}

-- the parts: whether a pointer leads on, by whether it is on the line and whether it is marked; of which hub it is asked,
-- for hub g, whether every hub above leads to it; and up to which hub moves are counted where control turns at hub t
pub record Rule2 : Type 0 where
  pub leads : Bool → Bool → Bool
  pub asked : Plan → ℕ → ℕ
  pub counted : ℕ → ℕ

abbrev pub right_rule : Rule2
right_rule = record { leads = ◌&&◌; asked = λ p g. g; counted = λ t. t }

abbrev pub mark_ignored : Rule2
mark_ignored = record { leads = λ on marked. on; asked = λ p g. g; counted = λ t. t }

abbrev pub port_ignored : Rule2
port_ignored = record { leads = λ on marked. marked; asked = λ p g. g; counted = λ t. t }

abbrev pub too_low : Rule2
too_low = record { leads = ◌&&◌; asked = λ p g. p.parent g; counted = λ t. t }

abbrev pub counted_to_root : Rule2
counted_to_root = record { leads = ◌&&◌; asked = λ p g. g; counted = λ t. 1 }

-- `led`, `nearest` and control by such a rule
module _ (r : Rule2) (p : Plan) where
  unfoldable pub led_by : (ℕ → Pointer) → ℕ → ℕ → Bool
  led_by P zero g = false
  led_by P (suc l) g =
      if eqb g 1 then true
      else r.leads (eqb (p.place g) (P (p.parent g)).port) (P (p.parent g)).marked && led_by P l (p.parent g)

  unfoldable pub nearest_by : (ℕ → Pointer) → ℕ → ℕ → ℕ
  nearest_by P zero g = 1
  nearest_by P (suc l) g = if led_by P most_levels (r.asked p g) then g else nearest_by P l (p.parent g)

  abbrev pub turning_by : Machine
  turning_by =
      record {
        State = Control;
        start = at_first;
        choose = λ c f σ.
            (let t = nearest_by (σ.pointer c) most_levels σ.holder in
            if same c σ.latest then walk p c f most_looks σ 0
            else walk p c f most_looks (hand_to t σ) (climb p σ.holder - climb p (r.counted t)));
        rested = rested_by p;
      }

-- The runs. On document 01's plan node 1 has its turn behind node 2, so the root's normal pointer stands at the lower hub,
-- not marked: it is entered afresh, and node 2 goes before node 3. Turned in the lower hub itself it goes on behind node 2.
abbrev pub unmarked : Rule2 → Slip
unmarked r =
    record {
      plan = plan01;
      wrong = answers plan01 (turning_by r plan01);
      calls =
          reserve 0 2 1 512 ∷ ask normal 100000 2 512 ∷ step 100001 ∷ ask normal 100001 1 512 ∷ step 101513 ∷ ask high 101513 2 512 ∷ step 103025
          ∷ ask normal 103025 2 512 ∷ ask normal 103025 3 512 ∷ step 200000 ∷ [];
      right_answers =
          taken ∷ taken ∷ grant 100000 2 normal 101512 1 ∷ taken ∷ grant 101512 1 normal 103024 1 ∷ taken ∷ grant 103024 2 high 104536 1
          ∷ taken ∷ taken ∷ grant 104536 2 normal 106048 2 ∷ [];
      wrong_answers =
          taken ∷ taken ∷ grant 100000 2 normal 101512 1 ∷ taken ∷ grant 101512 1 normal 103024 1 ∷ taken ∷ grant 103024 2 high 104536 1
          ∷ taken ∷ taken ∷ grant 104536 3 normal 106048 0 ∷ [];
    }

-- plan01's figures; hub 1 has hubs 2 and 3, hub 2 has nodes 1 and 2, hub 3 has nodes 3 and 4
abbrev pub pair : Plan
pair =
    record {
      frame = plan01.frame;
      overhead = plan01.overhead;
      interrupt = plan01.interrupt;
      framing = plan01.framing;
      strict = plan01.strict;
      nodes = 4;
      hubs = 3;
      ports = λ g. get_or (0 ∷ 2 ∷ 2 ∷ 2 ∷ []) g 0;
      port = λ g q.
          get_or (get_or ([] ∷ (empty ∷ hub 2 ∷ hub 3 ∷ []) ∷ (empty ∷ node 1 ∷ node 2 ∷ []) ∷ (empty ∷ node 3 ∷ node 4 ∷ []) ∷ []) g []) q empty;
      parent = λ g. get_or (0 ∷ 0 ∷ 1 ∷ 1 ∷ []) g 0;
      place = λ g. get_or (0 ∷ 0 ∷ 1 ∷ 2 ∷ []) g 0;
      level = λ g. get_or (0 ∷ 1 ∷ 2 ∷ 2 ∷ []) g 0;
    }

-- hub 3 has passed node 3, and the root's normal pointer is marked at hub 2: hub 3 is entered afresh, and node 3 goes before node 4
abbrev pub elsewhere : Rule2 → Slip
elsewhere r =
    record {
      plan = pair;
      wrong = answers pair (turning_by r pair);
      calls =
          reserve 0 3 1 512 ∷ ask normal 100000 3 512 ∷ step 100001 ∷ ask normal 100001 1 512 ∷ step 101513 ∷ ask high 101513 3 512 ∷ step 103025
          ∷ ask normal 103025 3 512 ∷ ask normal 103025 4 512 ∷ step 200000 ∷ [];
      right_answers =
          taken ∷ taken ∷ grant 100000 3 normal 101512 1 ∷ taken ∷ grant 101512 1 normal 103024 2 ∷ taken ∷ grant 103024 3 high 104536 2
          ∷ taken ∷ taken ∷ grant 104536 3 normal 106048 2 ∷ [];
      wrong_answers =
          taken ∷ taken ∷ grant 100000 3 normal 101512 1 ∷ taken ∷ grant 101512 1 normal 103024 2 ∷ taken ∷ grant 103024 3 high 104536 2
          ∷ taken ∷ taken ∷ grant 104536 4 normal 106048 0 ∷ [];
    }

-- control turns in hub 2, in which nothing is left: up to the root and down to hub 3, two moves, as many as by the old rule 2
abbrev pub handed_up : Rule2 → Slip
handed_up r =
    record {
      plan = pair;
      wrong = answers pair (turning_by r pair);
      calls =
          reserve 0 2 1 512 ∷ ask normal 100000 1 512 ∷ step 100001 ∷ ask high 100001 2 512 ∷ step 101513 ∷ ask normal 101513 3 512 ∷ step 200000 ∷ [];
      right_answers =
          taken ∷ taken ∷ grant 100000 1 normal 101512 1 ∷ taken ∷ grant 101512 2 high 103024 2 ∷ taken ∷ grant 103024 3 normal 104536 2 ∷ [];
      wrong_answers =
          taken ∷ taken ∷ grant 100000 1 normal 101512 1 ∷ taken ∷ grant 101512 2 high 103024 2 ∷ taken ∷ grant 103024 3 normal 104536 3 ∷ [];
    }

abbrev pub turning_slips : List Slip
turning_slips = unmarked mark_ignored ∷ unmarked too_low ∷ elsewhere port_ignored ∷ handed_up counted_to_root ∷ []
