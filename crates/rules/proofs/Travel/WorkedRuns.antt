-- The worked runs, by one computation. A lesser bound would be passed by
-- those that are runs, and the bound is passed where a run is broken.
use mathlib.Core.Path.{◌≡◌, refl, sym}
use mathlib.Core.Bool.{true}
use mathlib.Core.List.{List, [], ◌∷◌, ◌++◌}
use lib.ListN.{take-append-drop}
use Rattle.rules.specs.Choice.{any, sum, first}
use Rattle.rules.specs.Core.{advance, counts_in, counts, held, due, sought}
use Rattle.rules.specs.Control.{below, lowest, walk, led, nearest, choose_by}
use Rattle.rules.specs.Machine.{perform}
use Rattle.rules.specs.Run.{Entry, made}
use Rattle.rules.specs.Travel.{walk_returns, choose_returns, returns, latest_node, rounds, travel, unbroken, RunOfGrants}
use Rattle.rules.specs.TravelRuns.{Worked, whole, up_to, since, starts, figures, worked_runs, AllRight}
use Rattle.rules.proofs.Laws.Passes.{true-false, and_both}

pub worked_right : AllRight worked_runs
unfolding figures any sum first advance counts_in counts held due sought below lowest walk led nearest choose_by perform made
    walk_returns choose_returns returns latest_node rounds travel unbroken
worked_right = refl

-- the run that `Travels` speaks of, where the table calls a list one: its calls behind the first grant, and those up to it, are the table's
pub record ItsRun (x : Worked) : Type 0 where
  pub run : RunOfGrants x.class (whole x)
  pub its_since : run.since ≡ since x
  pub its_first : run.first ∷ run.before ≡ up_to x

pub is_run : (x : Worked) → (figures x).is_run ≡ true → ItsRun x
unfolding figures
is_run x e =
    let (a, b) = and_both (starts x (up_to x)) (unbroken x.class (since x)) e in
    go (up_to x) refl (take-append-drop x.behind (whole x)) a b
  where
    go : (l : List Entry) → l ≡ up_to x → since x ++ l ≡ whole x → starts x l ≡ true → unbroken x.class (since x) ≡ true → ItsRun x
    go [] i p a b = absurd (true-false a refl)
    go (first ∷ before) i p a b =
        record {
          run = record { before = before; first = first; since = since x; later = []; place = sym p; starts = a; goes_on = b };
          its_since = refl;
          its_first = i;
        }
