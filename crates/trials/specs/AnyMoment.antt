-- Request 5 of document 02: the waits worked out in `rules`, on document 01's plan
-- as it is read from its text, so that they are waits on a plan that is taken.
use Rattle.std.specs.Prelude.{map}
use Rattle.rules.specs.AnyMomentRuns as rules
use Rattle.rules.specs.AnyMomentRuns.{Worked, full_wait_across, worked_waits}
use Rattle.rules.specs.AnyMoment.{Served}
use Rattle.plan.specs.Tables.{plan_of}
use Rattle.plan.specs.Reading.{reading}
use Rattle.plan_theory.specs.Taken.{TakenAs}
use Rattle.trials.specs.Plans.{plan01}

-- the text is taken, with 4 nodes and 2 hubs; it ends at byte 100, and the next line would be line 13
abbrev pub PlanTaken : Type 0
PlanTaken = TakenAs plan01 4 2 100 13

-- a worked wait on the plan that is read
abbrev pub on_text : Worked → Worked
on_text x =
    record {
      plan = plan_of (reading plan01).tables;
      node = x.node;
      time = x.time;
      bits = x.bits;
      calls = x.calls;
      behind = x.behind;
      expected = x.expected;
    }

abbrev pub AllAsWorked : Type 0
AllAsWorked = rules.AllRight (map on_text worked_waits) × rules.AllPutUp (map on_text worked_waits)

-- what the theorem says of the wait over a frame's start
abbrev pub across : Worked
across = on_text full_wait_across

abbrev pub AcrossServed : Type 0
AcrossServed = Served across.plan across.node across.time (rules.whole across) (rules.since across)
