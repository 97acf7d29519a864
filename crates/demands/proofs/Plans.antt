-- Demand 2, of plans, on the page of the demands: what `plan_theory` shows of every text.
use mathlib.Core.Path.{◌≡◌, refl}
use mathlib.Core.List.{List}
use mathlib.Core.Option.{Option}
use Prim.Native.Nat.{ℕ}
use Rattle.text.specs.Line.{lines}
use Rattle.plan.specs.Reading.{reading, leaves}
use Rattle.plan.proofs.Reading.AsBefore.{read_as_before, read_as_before_8}
use Rattle.plan_theory.specs.Tree.{with_strict_line, draw, good_figures, good_framing}
use Rattle.plan_theory.specs.Taken.{DrawnBy, RefusedAt}
use Rattle.plan_theory.proofs.Tree.Taken.{drawing_taken, taken_iff, refused_iff}
use Rattle.plan_theory.proofs.Tree.Strictness.{framing_stands, strict_told}
use Rattle.plan_theory.proofs.Tables.StrictAlone.{strict_alone}
use Rattle.plan_theory.proofs.First.Theorem.{refused_decided}
use Rattle.plan_theory.proofs.First.NoRow.{taken_no_row}
use Rattle.demands.specs.Demands.{PlanDemands}

left_alone : (text : List ℕ) (line number : ℕ) → RefusedAt text line number → (plan : List ℕ) → leaves (reading text) plan ≡ plan
left_alone text line number e plan = rw e refl

-- the same lines with `(strict)` or without it are drawn behind figures that are as good
other_drawn : (text : List ℕ) (d : DrawnBy text) (line : Option (Unit {0})) (other : List ℕ)
    → lines other ≡ draw (with_strict_line line d.fig) d.tree d.rest → DrawnBy other
unfolding good_figures good_framing
other_drawn text d line other e =
    record {
      fig = with_strict_line line d.fig;
      tree = d.tree;
      rest = d.rest;
      good = d.good;
      framed = d.framed;
      within = d.within;
      drawn = e;
    }

pub plan_demands : (text : List ℕ) → PlanDemands text
unfolding other_drawn
plan_demands text =
    record {
      taken_iff = taken_iff text;
      taken_for = drawing_taken text;
      refused_iff = refused_iff text;
      taken_no_row = taken_no_row text;
      first_line = refused_decided text;
      as_before_8 = read_as_before_8 text;
      as_before = read_as_before text;
      framing_stands = framing_stands text;
      strict_told = strict_told text;
      strict_alone = λ d line other e.
          rw ((drawing_taken text d).tables, (drawing_taken other (other_drawn text d line other e)).tables) (strict_alone d.fig d.tree line);
      refusal_changes_nothing = left_alone text;
    }
