-- The worked lists of demand 3, by computing; what they show of its premises and its claim; and
-- the theorem itself, of the three lists of which all premises hold.
use Prim.Native.Nat.{◌≤◌}
use mathlib.Core.Path.{◌≡◌, refl, ap}
use mathlib.Core.Bool.{Bool, true, false, ◌&&◌}
use mathlib.Core.List.{List, [], ◌∷◌, map, reverse}
use mathlib.Core.Logic.{◌↔◌}
use native.Mathlib.Omega.{arith}
use Rattle.text.specs.Number.{digit_run, keep_digit, well_formed, value_from, read_run, read_number}
use Rattle.text.specs.Line.{before, lines}
use Rattle.text.specs.Word.{starts_with, is_word}
use Rattle.text.specs.Form.{and_then, read_spaced, read_close, read_numbers, read_behind, read_form}
use Rattle.plan_tree.specs.Kind.{kind_of}
use Rattle.plan_tree.specs.Tables.{put_empty, put_node, put_hub, put_ports, put_root}
use Rattle.plan.specs.Tables.{put_figures, plan_of}
use Rattle.plan.specs.Reading.{hub_lines, root_line, strict_line, framing_line, interrupt_line, overhead_line, frame_line, reading}
use Rattle.plan_theory.specs.Taken.{TakenAs, TakenPlan}
use Rattle.plan_theory.proofs.TakenPlan.{taken_plan}
use Rattle.rules.specs.Choice.{any, sum, first}
use Rattle.rules.specs.Drawn.{Drawn}
use Rattle.rules.specs.Core.{advance, counts_in, counts, held, due, sought}
use Rattle.rules.specs.Control.{below, lowest, walk, led, nearest, choose_by}
use Rattle.rules.specs.Machine.{perform}
use Rattle.rules.specs.Run.{Entry, made}
use Rattle.rules.specs.Words.{clock_at, reserved, request_at, high_grants, delay_limit}
use Rattle.rules.proofs.Demand3.OfControl.{control_demand3}
use Rattle.rules.proofs.Laws.Passes.{true-false}
use Rattle.trials.specs.Text.{bytes, text_of}
use Rattle.trials.specs.Plans.{plan01, plan01_default, ring}
use Rattle.trials.specs.Demand3Tests.{is_high, unbroken, next_turns}
use Rattle.trials.specs.Demand3Runs.{Figures, Worked, plan_read, whole, frame_end, figures, demand3_runs, AllRight, Says, UnbrokenOf, NextTurnsOf, RunToOf, ClaimOf, Shown, AllShown, at_the_limit, over_the_start, ring_at_the_limit, behind_a_laptop}
use Rattle.trials.proofs.Demand3Tests.{unbroken_is, next_turns_is, demand3_is, run_to_is}

pub runs_right : AllRight demand3_runs
unfolding
    bytes text_of figures
    before lines digit_run keep_digit well_formed value_from read_run read_number starts_with is_word and_then read_spaced read_close read_numbers read_behind read_form
    kind_of reading frame_line overhead_line interrupt_line framing_line strict_line root_line hub_lines put_root put_node put_empty put_hub put_ports put_figures plan_of
    any sum first advance counts_in counts held due sought below lowest walk led nearest choose_by perform made
    clock_at reserved request_at high_grants delay_limit is_high unbroken next_turns
runs_right = record { read = refl; answered = refl; figured = refl }

says : (b t : Bool) {A : Type 0} → (t ≡ true) ↔ A → t ≡ b → Says b A
says true t is e = is.0 e
says false t is e = λ a. true-false (is.1 a) e

-- the tests decide
shown : (x : Worked) → figures x ≡ x.expected → Shown x
unfolding figures
shown x e =
    let p = plan_read x in
    let k = x.node in
    let f = x.frame in
    record {
      unbroken = says x.expected.unbroken _ (unbroken_is p k f (whole x)) (ap (λ (y : Figures). y.unbroken) e);
      next_turns = says x.expected.next_turns _ (next_turns_is p k f _ (whole x)) (ap (λ (y : Figures). y.next_turns) e);
      run_to = says x.expected.run_to _ (run_to_is (frame_end x) (whole x)) (ap (λ (y : Figures). y.run_to) e);
      claim = says (x.expected.exactly && x.expected.in_time) _ (demand3_is p k f (whole x)) (ap (λ (y : Figures). y.exactly && y.in_time) e);
    }

all_shown : (rows : List Worked) → map figures rows ≡ map (λ (x : Worked). x.expected) rows → AllShown rows
unfolding AllShown
all_shown [] e = tt
all_shown (x ∷ more) e = (shown x (cc), all_shown more (cc))

pub runs_shown : AllShown demand3_runs
runs_shown = all_shown demand3_runs runs_right.figured

-- where its premises hold of a row's list, the theorem speaks of that very list
pub its_claim : (x : Worked) → Drawn (plan_read x) → 1 ≤ x.node → x.node ≤ (plan_read x).nodes → UnbrokenOf x → NextTurnsOf x → RunToOf x → ClaimOf x
its_claim x drawn low up =
    (control_demand3 (plan_read x) drawn (reverse (map (λ (e : Entry). e.call) x.list))).demand x.node x.frame low up

plan_taken : TakenAs plan01 4 2 100 13
plan_taken = let e = runs_right.read in cc

on_the_plan : TakenPlan (reading plan01).tables 4 2
on_the_plan = taken_plan plan01 4 2 100 13 plan_taken

pub at_the_limit_kept : ClaimOf at_the_limit
unfolding AllShown
at_the_limit_kept =
    let s = runs_shown.0 in
    its_claim at_the_limit on_the_plan.plan (omega arith) (omega (arith, on_the_plan.nodes_told)) s.unbroken s.next_turns s.run_to

pub over_the_start_kept : ClaimOf over_the_start
unfolding AllShown
over_the_start_kept =
    let s = runs_shown.1.0 in
    its_claim over_the_start on_the_plan.plan (omega arith) (omega (arith, on_the_plan.nodes_told)) s.unbroken s.next_turns s.run_to

-- with framing 5, by the same theorem
ring_taken : TakenAs ring 4 2 112 14
ring_taken = let e = runs_right.read in cc

on_the_ring : TakenPlan (reading ring).tables 4 2
on_the_ring = taken_plan ring 4 2 112 14 ring_taken

pub ring_at_the_limit_kept : ClaimOf ring_at_the_limit
unfolding AllShown
ring_at_the_limit_kept =
    let s = runs_shown.1.1.0 in
    its_claim ring_at_the_limit on_the_ring.plan (omega arith) (omega (arith, on_the_ring.nodes_told)) s.unbroken s.next_turns s.run_to

-- without `(strict)`, by the same theorem
default_taken : TakenAs plan01_default 4 2 91 12
default_taken = let e = runs_right.read in cc

by_default_plan : TakenPlan (reading plan01_default).tables 4 2
by_default_plan = taken_plan plan01_default 4 2 91 12 default_taken

pub behind_a_laptop_kept : ClaimOf behind_a_laptop
unfolding AllShown
behind_a_laptop_kept =
    let s = runs_shown.1.1.1.0 in
    its_claim behind_a_laptop by_default_plan.plan (omega arith) (omega (arith, by_default_plan.nodes_told)) s.unbroken s.next_turns s.run_to
