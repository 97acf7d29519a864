-- Request 5 likewise: a high request that is put up in the plan is put up with the line and without it, and the limit
-- is the plan's.
use Prim.Native.Nat.{ℕ, ◌+◌, ◌≤◌, ◌<◌}
use mathlib.Core.Path.{◌≡◌, sym, subst, subst₂, ◌∙◌}
use mathlib.Core.Bool.{Bool}
use mathlib.Core.List.{List}
use lib.ListN.{length}
use Rattle.rules.specs.Plan.{Plan, with_strict}
use Rattle.rules.specs.Core.{Share, frame_of}
use Rattle.rules.specs.Run.{Entry}
use Rattle.rules.specs.Demand.{RunTo}
use Rattle.rules.specs.AnyMoment.{wait_limit, latest_grant, PutUp, Served, AnyMoment}
use Rattle.rules.proofs.Strict.SameWords.{same-reserved, same_grants}

module _ (b : Bool) (p : Plan) (k t : ℕ) (whole : List Entry) where
  still_put_up : PutUp p k t whole → PutUp (with_strict b p) k t whole
  still_put_up x =
      record {
        bits = x.bits;
        since = x.since;
        before = x.before;
        place = x.place;
        left =
            subst₂ (λ (l : List ℕ) (r : Share). length l < r.packets) (sym (same_grants b p k (frame_of p t) x.before))
            (sym (same-reserved b p k (frame_of p t) whole)) x.left;
        stands = x.stands;
        unchanged = λ j f v low up. same-reserved b p j f whole ∙ x.unchanged j f v low up ∙ sym (same-reserved b p j (frame_of p t) whole);
      }

  same-limit : latest_grant (with_strict b p) k t whole ≡ latest_grant p k t whole
  unfolding wait_limit
  same-limit = λ i. t + wait_limit p k (λ j. same-reserved b p j (frame_of p t) whole i)

  same_served : (since : List Entry) → Served (with_strict b p) k t whole since → Served p k t whole since
  same_served since s = record { time = s.time; is = s.is; soon = subst (λ (x : ℕ). s.time ≤ x) same-limit s.soon }

pub same_moment_of : (b : Bool) (p : Plan) (whole : List Entry) → AnyMoment (with_strict b p) whole → AnyMoment p whole
unfolding still_put_up
same_moment_of b p whole h =
    record {
      served = λ k t request run.
          same_served b p k t whole request.since
          (h.served k t (still_put_up b p k t whole request)
          (subst (λ (x : ℕ). RunTo (x + 1) whole) (sym (same-limit b p k t whole)) run));
    }
