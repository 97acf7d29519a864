-- Request 13 of document 02: the runs worked out in `rules`, on plans that
-- are read from their texts, so that they are runs of plans that are taken.
use Rattle.std.specs.Prelude.{ℕ, List, [], ◌∷◌, ◌++◌, map}
use Rattle.rules.specs.TravelRuns as rules
use Rattle.rules.specs.TravelRuns.{Worked, one_round, two_rounds, high_rounds, once_more, with_a_rest, with_the_other_class}
use Rattle.rules.specs.Control.{control}
use Rattle.plan.specs.Tables.{plan_of}
use Rattle.plan.specs.Reading.{reading}
use Rattle.trials.specs.Text.{text_of}
use Rattle.trials.specs.Row.{Row, answered, AllRight}
use Rattle.trials.specs.Plans.{figures01, plan01}

-- strict; hub 1 has node 1, hub 2 and node 5, hub 2 has node 2, hub 3 and node 4, hub 3 has node 3
abbrev pub nested : List ℕ
nested = text_of (figures01 ++ "(strict)" ∷ "(hub" ∷ "(node)" ∷ "(hub" ∷ "(node)" ∷ "(hub" ∷ "(node)" ∷ ")" ∷ "(node)" ∷ ")" ∷ "(node)" ∷ ")" ∷ [])

-- a worked run, and the text of its plan with its numbers of nodes and hubs
pub record TextRun : Type 0 where
  pub text : List ℕ
  pub nodes : ℕ
  pub hubs : ℕ
  pub run : Worked

abbrev pub text_runs : List TextRun
text_runs =
    record { text = nested; nodes = 5; hubs = 3; run = one_round } ∷ record { text = nested; nodes = 5; hubs = 3; run = two_rounds }
    ∷ record { text = plan01; nodes = 4; hubs = 2; run = high_rounds } ∷ record { text = plan01; nodes = 4; hubs = 2; run = once_more }
    ∷ record { text = plan01; nodes = 4; hubs = 2; run = with_a_rest } ∷ record { text = plan01; nodes = 4; hubs = 2; run = with_the_other_class } ∷ []

-- the text is taken, and its hub answers the calls
abbrev pub row_of : TextRun → Row
row_of d = record { plan = d.text; calls = d.run.calls; expected = answered d.nodes d.hubs d.run.expected.told }

-- the same run on the plan that is read
abbrev pub on_text : TextRun → Worked
on_text d =
    let x = d.run in
    record { plan = plan_of (reading d.text).tables; class = x.class; calls = x.calls; behind = x.behind; expected = x.expected }

abbrev pub AllTaken : Type 0
AllTaken = AllRight control (map row_of text_runs)

abbrev pub AllAsWorked : Type 0
AllAsWorked = rules.AllRight (map on_text text_runs)
