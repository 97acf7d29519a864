-- Calls that lead to cells and to a watched hub at once: the next call answers the same
-- over both, with the same wait, and leads on. The budget of steps is the same number.
use Prim.Native.Nat.{ℕ}
use mathlib.Core.Path.{◌≡◌, refl, sym, ap, subst₂, ◌∙◌}
use mathlib.Core.Bool.{Bool, true, false}
use mathlib.Core.List.{List, [], ◌∷◌}
use native.Mathlib.Omega.{arith}
use lib.Dec.{eqb, ltb}
use lib.ListN.{get_or}
use borrow.Author.Tests.{le-leb, lt-leb, ltb-true, ltb-false}
use Rattle.std.specs.Prelude.{if◌then◌else◌}
use Rattle.rules.specs.Plan.{Plan}
use Rattle.rules.specs.Drawn.{Within}
use Rattle.rules.specs.Call.{Call, Answer, quiet}
use Rattle.rules.specs.Core as core
use Rattle.rules.specs.Machine.{Hub, perform}
use Rattle.rules.specs.Control.{Control, control}
use Rattle.rules.specs.Run.{Entry, made}
use Rattle.rules.specs.Waits.{Watched, Answered, fresh_watched, perform_watched, wait_of, watch}
use Rattle.rules.proofs.Laws.Passes.{Which, which, yes', no', sum_same}
use Rattle.ports.specs.Mask.{digit}
use Rattle.cells.specs.Layout.{busy_cell, end_cell, time_at, request_cell, request_of}
use Rattle.cells.specs.Decode.{plan_in, core_of, hub_of}
use Rattle.cells.specs.Masks as masks
use Rattle.cells.specs.Waits.{times_of}
use Rattle.cells.specs.Fresh.{fresh_cells}
use Rattle.cells.specs.Calls.{perform_by}
use Rattle.cells.specs.Run.{made_by}
use Rattle.refinement.specs.Kept.{Ready, Kept}
use Rattle.log_spec.specs.Log.{stands, runs, budget}
use Rattle.log_spec.specs.Cells.{budget_by}
use Rattle.refinement.proofs.Runs.{run_good, run_tied}
use Rattle.refinement.proofs.Recorded.{TimedAgrees, timed, fresh-times}

-- the same budget

stands_same : (x : ℕ) → stands (request_of x) ≡ digit (masks.stands x)
stands_same x = go (which (ltb x 65536)) (which (ltb x 131072))
  where
    go : Which (ltb x 65536) → Which (ltb x 131072) → stands (request_of x) ≡ digit (masks.stands x)
    go (yes' e) b = rw (e, lt-leb 65536 x (ltb-true x 65536 e))
    go (no' e) (yes' f) = rw (e, f, le-leb 65536 x (ltb-false x 65536 e))
    go (no' e) (no' f) = rw (e, f, le-leb 65536 x (ltb-false x 65536 e))

pub budget_kept : (p : Plan) (s : List ℕ) → Kept p s → budget_by s ≡ budget p (core_of p s)
unfolding core_of
budget_kept p s K =
    let r = sum_same p.nodes (λ k. stands ((core_of p s).request k)) (λ k. digit (masks.stands (get_or s (request_cell k) 0))) node in
    rw (K.standing, r) (omega (arith, line (eqb (get_or s busy_cell 0) 0)))
  where
    node : (k : ℕ) → Within p.nodes k → stands ((core_of p s).request k) ≡ digit (masks.stands (get_or s (request_cell k) 0))
    node k w = rw (le-leb 1 k w.low, le-leb k p.nodes w.up) (stands_same (get_or s (request_cell k) 0))

    line : (b : Bool) → (if b then 0 else 1) ≡ runs (if b then core.resting else core.busy (time_at s end_cell))
    line true = refl
    line false = refl

-- the answer of the latest call
abbrev latest : List Entry → Answer
latest [] = quiet
latest (e ∷ past) = e.answer

module _ (P : List ℕ) where
  -- the hub of `rules` that calls make, with the times that the cells record
  abbrev led_to : List Call → Watched Control
  led_to calls = record { hub = (made (plan_in P) (control (plan_in P)) calls).hub; times = times_of (plan_in P) (made_by P calls).cells }

  -- these calls lead to cells s and to watched hub w
  pub record Leads (s : List ℕ) (w : Watched Control) : Type 0 where
    pub calls : List Call
    pub cells : s ≡ (made_by P calls).cells
    pub left : w ≡ led_to calls

  abbrev pub on_watched : Call → Watched Control → Answered Control
  on_watched call w = perform_watched (plan_in P) (control (plan_in P)) call w

  -- a call answers the same over s and over w, with the same wait, and leads on
  pub record Further (call : Call) (s : List ℕ) (w : Watched Control) : Type 0 where
    pub answer : (perform_by P call s).answer ≡ (on_watched call w).answer
    pub wait : (perform_by P call s).wait ≡ (on_watched call w).wait
    pub leads : Leads (perform_by P call s).cells (on_watched call w).left

  pub fresh_leads : Leads fresh_cells (fresh_watched (plan_in P) (control (plan_in P)))
  unfolding made_by made
  fresh_leads =
      record {
        calls = [];
        cells = refl;
        left = λ i. record { hub = (made (plan_in P) (control (plan_in P)) []).hub; times = sym (fresh-times (plan_in P)) i };
      }

  module _ (R : Ready P) where
    -- what the cells record of a call is what is watched of it
    recorded : (call : Call) (calls : List Call) → TimedAgrees P call (made_by P calls).cells
    recorded call calls =
        let t = run_tied P R calls in
        timed P R (made_by P calls).cells t.kept (run_good P R calls t) call

    made_further : (call : Call) (calls : List Call) → Further call (made_by P calls).cells (led_to calls)
    unfolding made_by made
    made_further call calls =
        let p = plan_in P in
        let times = times_of p (made_by P calls).cells in
        let same = (run_tied P R calls).hub in
        let told = recorded call calls in
        record {
          answer = ap latest (run_tied P R (call ∷ calls)).past;
          wait = told.wait ∙ ap (λ (h : Hub Control). wait_of p h.core (perform p (control p) call h).answer times) same;
          leads =
              record {
                calls = call ∷ calls;
                cells = refl;
                left =
                    λ i. record {
                      hub = (perform p (control p) call (made p (control p) calls).hub).hub;
                      times =
                          sym (told.times ∙ ap (λ (h : Hub Control). watch p h.core call (perform p (control p) call h).answer times) same) i;
                    };
              };
        }

    pub further : (call : Call) (s : List ℕ) (w : Watched Control) → Leads s w → Further call s w
    further call s w l = subst₂ (λ (r : List ℕ) (v : Watched Control). Further call r v) (sym l.cells) (sym l.left) (made_further call l.calls)

    pub same-budget : (s : List ℕ) (w : Watched Control) → Leads s w → budget_by s ≡ budget (plan_in P) w.hub.core
    same-budget s w l =
        let t = run_tied P R l.calls in
        rw (l.cells, l.left)
        (budget_kept (plan_in P) (made_by P l.calls).cells t.kept ∙ ap (λ (g : Hub Control). budget (plan_in P) g.core) t.hub)

    -- the cells that calls lead to are the watched hub that they lead to
    pub leads_left : (s : List ℕ) (w : Watched Control) → Leads s w → record { hub = hub_of (plan_in P) s; times = times_of (plan_in P) s } ≡ w
    leads_left s w l =
        rw (l.cells, l.left) (λ i. record { hub = (run_tied P R l.calls).hub i; times = times_of (plan_in P) (made_by P l.calls).cells })
