-- Demand 3 of a plan with the line, or without it, is demand 3 of the plan: its premises carry over to the one, and
-- what is promised of the one is promised of the other.
use Prim.Native.Nat.{ℕ, ◌+◌, ◌*◌, ◌≤◌, ◌<◌}
use mathlib.Core.Path.{sym, ap, subst, subst₂, ◌∙◌}
use mathlib.Core.Bool.{Bool}
use mathlib.Core.List.{List, ◌++◌}
use lib.ListN.{length, get_or}
use Rattle.rules.specs.Plan.{Plan, with_strict}
use Rattle.rules.specs.Core.{Share}
use Rattle.rules.specs.Run.{Entry}
use Rattle.rules.specs.Words.{reserved, delay_limit}
use Rattle.rules.specs.Demand.{Unbroken, NextTurns, Demand3, Holds3}
use Rattle.rules.proofs.Strict.SameWords.{same-reserved, same_grants, same_turn, still_high}

module _ (b : Bool) (p : Plan) where
  module _ (k f : ℕ) (whole : List Entry) where
    still_unbroken : Unbroken p k f whole → Unbroken (with_strict b p) k f whole
    still_unbroken u =
        record {
          since = u.since;
          before = u.before;
          place = u.place;
          early = u.early;
          first = same_grants b p k f u.before ∙ u.first;
          high = λ later passed e none.
              still_high b p k (passed ++ u.before) (u.high later passed e (sym (same_grants b p k f (passed ++ u.before)) ∙ none));
        }

    still_next : (n : ℕ) → NextTurns p k f whole n → NextTurns (with_strict b p) k f whole n
    still_next n x =
        record {
          high = λ later e before split turn some few.
              let grants = same_grants b p k f before in
              still_high b p k before
              (x.high later e before split (sym (same_turn b p f e.call e.answer) ∙ turn)
              (subst (λ (l : List ℕ). 1 ≤ length l) grants some) (subst (λ (l : List ℕ). length l < n) grants few));
        }

    same_demand : Demand3 (with_strict b p) k f whole → Demand3 p k f whole
    unfolding delay_limit
    same_demand d =
        record {
          exactly =
              ap (λ (l : List ℕ). length l) (sym (same_grants b p k f whole)) ∙ d.exactly
              ∙ ap (λ (r : Share). r.packets) (same-reserved b p k f whole);
          in_time =
              subst₂ (λ (l : List ℕ) (r : ℕ → Share). get_or l 0 0 ≤ f * p.frame + delay_limit p k r) (same_grants b p k f whole)
              (λ i j. same-reserved b p j f whole i) d.in_time;
        }

  pub same_promise_of : (whole : List Entry) → Holds3 (with_strict b p) whole → Holds3 p whole
  same_promise_of whole h =
      record {
        demand = λ k f low up unbroken next run.
            same_demand k f whole
            (h.demand k f low up (still_unbroken k f whole unbroken)
            (subst (NextTurns (with_strict b p) k f whole) (ap (λ (r : Share). r.packets) (sym (same-reserved b p k f whole)))
            (still_next k f whole (reserved p k f whole).packets next))
            run);
      }
