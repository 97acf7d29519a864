-- What would make it fit is a question beside the hub, so a list with it is, for the hub, the list of its six calls.
use Prim.Native.Nat.{ℕ}
use mathlib.Core.Path.{ap}
use mathlib.Core.List.{List}
use Rattle.plan.specs.Tables.{plan_of}
use Rattle.plan.specs.Reading.{reading}
use Rattle.plan_theory.specs.Taken.{TakenAs}
use Rattle.beside.specs.Beside.{told, Lawful, Item, projected}
use Rattle.beside.specs.Extended.{Extended}
use Rattle.beside.proofs.SameHub.{same_hub, extended_demands}
use Rattle.beside.proofs.Question.{question_lawful, no_trace, goes_on}
use Rattle.offers.specs.Offers.{Offer, clock_of}
use Rattle.offers_theory.proofs.AtClock.{at_clock}
use Rattle.fit.specs.Change.{Fit}
use Rattle.fit_theory.specs.Fitting.{heard_of, fitting, InLists}
use Rattle.fit_theory.proofs.Smallest.{smallest}

pub fit_lawful : Lawful fitting
fit_lawful = question_lawful Offer Fit heard_of

pub in_lists : (text : List ℕ) (nodes hubs at line : ℕ) → TakenAs text nodes hubs at line
    → {xs : List (Item fitting)} {s : List ℕ} → Extended fitting (reading text).tables xs tt s
    → InLists (reading text).tables (plan_of (reading text).tables) xs s
in_lists text nodes hubs at line t {xs = xs} {s = s} made =
    let P = (reading text).tables in
    let calls = (same_hub fitting fit_lawful P made).calls in
    let now = at_clock text nodes hubs at line t (projected fitting xs) s calls in
    record {
      demands = extended_demands fitting fit_lawful text nodes hubs at line t made;
      no_trace = no_trace Offer Fit heard_of xs;
      goes_on = λ o x e. goes_on Offer Fit heard_of made o (told x) (ap told e);
      at_clock = now;
      smallest = smallest text nodes hubs at line t (projected fitting xs) s calls (clock_of s) now.on_time;
      at_time = smallest text nodes hubs at line t (projected fitting xs) s calls;
    }
