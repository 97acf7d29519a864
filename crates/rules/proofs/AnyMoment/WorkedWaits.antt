-- The worked waits, by one computation each; and where a row says that all
-- premises hold, they are those of the theorem, of the row's own request.
use Prim.Native.Nat.{ℕ, ◌+◌, ◌-◌, ◌≤◌}
use mathlib.Core.Path.{◌≡◌, refl, sym, ap, ap₂, ◌∙◌, subst}
use mathlib.Core.Bool.{true, false}
use mathlib.Core.List.{List, [], ◌∷◌, ◌++◌, reverse}
use mathlib.Core.Logic.{⊎_elim}
use native.Mathlib.Omega.{arith}
use lib.Dec.{leb, eqb}
use lib.ListN.{take, drop, length, take-append-drop}
use borrow.Author.Tests.{ltb-true, leb-true, eqb-true, not-true, not-false}
use Rattle.rules.specs.Choice.{any, sum, first}
use Rattle.rules.specs.Drawn.{Within, Drawn}
use Rattle.rules.specs.Core.{Share, advance, counts_in, counts, held, due, sought}
use Rattle.rules.specs.Control.{below, lowest, walk, led, nearest, choose_by}
use Rattle.rules.specs.Machine.{perform}
use Rattle.rules.specs.Run.{Entry, made}
use Rattle.rules.specs.Words.{clock_at, reserved, high_grants, quiet_to}
use Rattle.rules.specs.Demand.{RunTo, by_clock, by_quiet}
use Rattle.rules.specs.AnyMoment.{first_grant, kept_standing, wait_limit, packets_then, far_enough, PutUp, Served}
use Rattle.rules.specs.AnyMomentRuns.{Worked, same_share, ran_to, whole, up_to, since, frame, last, some_change, figures, put_up, worked_waits, AllRight, AllPutUp}
use Rattle.rules.proofs.Laws.Passes.{any_none, and_both, or_cases, true-false}
use Rattle.rules.proofs.Laws.Rows.{all_right}
use Rattle.rules.proofs.Laws.Sums.{Same, it, other, same_or_not}
use Rattle.rules.proofs.AnyMoment.Theorem.{control_any_moment}
use Rattle.rules.proofs.Laws.Clash.{clash}

pub worked_right : AllRight worked_waits
unfolding figures any sum first advance counts_in counts held due sought below lowest walk led nearest choose_by perform made
    clock_at reserved high_grants first_grant kept_standing wait_limit
worked_right = all_right figures (λ (x : Worked). x.expected) worked_waits (refl, (refl, (refl, (refl, (refl, (refl, (refl, (refl, (refl, tt)))))))))

pub worked-put-up : AllPutUp worked_waits
unfolding any sum first advance counts_in counts held due sought below lowest walk led nearest choose_by perform made
worked-put-up = refl

-- the tests of the table, and what they say
ran_to_lem : (time : ℕ) (past : List Entry) → ran_to time past ≡ true → RunTo time past
ran_to_lem time [] e = absurd (true-false e refl)
ran_to_lem time (e ∷ past) q =
    ⊎_elim (λ h. by_clock (leb-true time (clock_at (e ∷ past)) h)) (λ h. by_quiet e past refl h)
    (or_cases (leb time (clock_at (e ∷ past))) (quiet_to time e.call e.answer) q)

same_share_lem : (r q : Share) → same_share r q ≡ true → r ≡ q
same_share_lem r q e =
    let (n, b) = and_both (eqb r.packets q.packets) (eqb r.bits q.bits) e in
    ap₂ (λ (x y : ℕ). record { packets = x; bits = y }) (eqb-true r.packets q.packets n) (eqb-true r.bits q.bits b)

-- what the theorem asks, of the row's own request
pub record ItsRequest (x : Worked) : Type 0 where
  pub request : PutUp x.plan x.node x.time (whole x)
  pub its_since : request.since ≡ since x
  pub run : RunTo (far_enough x.plan x.node x.time (whole x)) (whole x)

module _ (x : Worked) where
  same_shares : some_change x ≡ false → (j f : ℕ) → Within x.plan.nodes j → frame x ≤ f → f ≤ last x
      → reserved x.plan j f (whole x) ≡ reserved x.plan j (frame x) (whole x)
  same_shares e j f v low up = go (same_or_not f (frame x))
    where
      go : Same f (frame x) → reserved x.plan j f (whole x) ≡ reserved x.plan j (frame x) (whole x)
      go (it q) = ap (λ (y : ℕ). reserved x.plan j y (whole x)) q
      go (other d) =
          let i = f - frame x in
          let some = any_none (last x - frame x) _ e i (record { low = omega arith; up = omega arith }) in
          let same : reserved x.plan j (frame x + i) (whole x) ≡ reserved x.plan j (frame x) (whole x) =
          same_share_lem _ _ (not-false _ (any_none x.plan.nodes _ some j v)) in
          let at_f : frame x + i ≡ f = omega arith in
          subst (λ (y : ℕ). reserved x.plan j y (whole x) ≡ reserved x.plan j (frame x) (whole x)) at_f same

  pub its_request : take 1 (up_to x) ≡ put_up x ∷ [] → (figures x).left ≡ true → (figures x).stands ≡ true → (figures x).unchanged ≡ true → (figures x).run ≡ true
      → ItsRequest x
  unfolding figures
  its_request place left stands unchanged run = go (up_to x) refl (take-append-drop x.behind (whole x)) place
    where
      go : (l : List Entry) → l ≡ up_to x → since x ++ l ≡ whole x → take 1 l ≡ put_up x ∷ [] → ItsRequest x
      go [] i p e = clash (cc)
      go (asked ∷ before) i p e =
          let is : asked ≡ put_up x = cc in
          let few = ltb-true (length (high_grants x.plan x.node (frame x) (drop 1 (up_to x)))) (packets_then x.plan x.node x.time (whole x)) left in
          let behind = ap (λ (l : List Entry). length (high_grants x.plan x.node (frame x) (drop 1 l))) i in
          record {
            request =
                record {
                  bits = x.bits;
                  since = since x;
                  before = before;
                  place = sym p ∙ ap (λ (y : Entry). since x ++ (y ∷ before)) is;
                  left = omega arith;
                  stands = stands;
                  unchanged = same_shares (not-true (some_change x) unchanged);
                };
            its_since = refl;
            run = ran_to_lem (far_enough x.plan x.node x.time (whole x)) (whole x) run;
          }

  -- so the theorem speaks of it, on every plan that is taken
  pub its_grant : Drawn x.plan → ItsRequest x → Served x.plan x.node x.time (whole x) (since x)
  its_grant drawn r =
      subst (Served x.plan x.node x.time (whole x)) r.its_since
      ((control_any_moment x.plan drawn (reverse x.calls)).served x.node x.time r.request r.run)
