-- The steps before an event over the cells write the lines of the steps over the watched hub.
use Prim.Native.Nat.{ℕ, zero, suc}
use mathlib.Core.Path.{◌≡◌, refl, sym, subst₂}
use mathlib.Core.Bool.{Bool, true, false}
use mathlib.Core.List.{List, [], ◌∷◌}
use lib.Dec.{ltb, eqb}
use Rattle.std.specs.Prelude.{if◌then◌else◌, Option, Some, None}
use Rattle.rules.specs.Plan.{Plan}
use Rattle.rules.specs.Call.{step, Answer}
use Rattle.rules.specs.Machine.{perform}
use Rattle.rules.specs.Rows.{row11}
use Rattle.rules.specs.Control.{Control, control}
use Rattle.rules.specs.Waits.{Watched}
use Rattle.rules.proofs.Laws.Passes.{Which, which, yes', no'}
use Rattle.log_lines.specs.Lines.{class_number, grant_line, rest_line, step_line, answer_line}
use Rattle.cells.specs.Sought.{Sought, Class, Nothing}
use Rattle.cells.specs.Step as cells
use Rattle.cells.specs.Step.{Step, Grant, Rest, Quiet, Refused}
use Rattle.cells.specs.Decode.{plan_in}
use Rattle.cells.specs.Frames.{advance_by}
use Rattle.cells.specs.Instants.{due_by, sought_by}
use Rattle.cells.specs.Calls.{class_numbered, grant_by, rest_by, handled_by, step_due, row_by, step_by, step_answer, step_wait, perform_by}
use Rattle.refinement.specs.Kept.{Ready}
use Rattle.log_spec.specs.Log.{Logged, after_step, steps, steps_before, budget}
use Rattle.log_spec.specs.Cells.{Run, going_on, line, more, budget_by, steps_by}
use Rattle.log_spec.proofs.Writing.{Writes, writes_none, writes_line, writes_on}
use Rattle.log_spec.proofs.Leading.{Leads, on_watched, further, same-budget}

-- a grant names its class by 1 or 2
abbrev Numbered : Step → Type 0
Numbered (Grant s k class end moves wait) = class_number (class_numbered class) ≡ class
Numbered (Rest s moves) = Unit {0}
Numbered Quiet = Unit {0}
Numbered (Refused n) = Unit {0}

class_numbered_lem : (is_high : Bool) → class_number (class_numbered (cells.class_number is_high)) ≡ cells.class_number is_high
class_numbered_lem true = refl
class_numbered_lem false = refl

module _ (P : List ℕ) (t : ℕ) where
  handled_numbered : (d : ℕ) (c : Sought) (s : List ℕ) → Numbered (handled_by P d c s).answer
  unfolding handled_by grant_by rest_by
  handled_numbered d (Class is_high) s = class_numbered_lem is_high
  handled_numbered d Nothing s = tt

  due-numbered : (d : Option ℕ) (s : List ℕ) → Numbered (step_due P d t s).answer
  unfolding step_due
  due-numbered None s = tt
  due-numbered (Some d) s = go (ltb d t)
    where
      go : (b : Bool) → Numbered (if b then handled_by P d (sought_by (advance_by P d s)) (advance_by P d s) else record { answer = Quiet; cells = s }).answer
      go true = handled_numbered d (sought_by (advance_by P d s)) (advance_by P d s)
      go false = tt

  step_numbered : (s : List ℕ) → Numbered (step_by P t s).answer
  unfolding step_by
  step_numbered s = go (eqb (row_by P (step t) s) 0)
    where
      go : (b : Bool) → Numbered (if b then step_due P (due_by (plan_in P) s) t s else record { answer = Refused (row_by P (step t) s); cells = s }).answer
      go true = due-numbered (due_by (plan_in P) s) s
      go false = tt

-- a run over cells writes the log's lines, and leaves cells that lead to its watched hub
abbrev pub Logs : Bool → List ℕ → Logged → List ℕ → ℕ → Run → Type 0
Logs write P log buffer at r = Writes write log.written buffer at (λ s. Leads P s log.left) r

-- what follows a step's answer, where the steps behind it log
module _
    (write : Bool) (P : List ℕ) (n t : ℕ) (w : Watched Control)
    (again : (s b : List ℕ) (z : ℕ) → Leads P s w → Logs write P (steps (plan_in P) n t w) b z (steps_by write P n t s b z))
    (buffer : List ℕ) (at : ℕ) (s : List ℕ) (leads : Leads P s w)
  where
    written : (l : List ℕ)
        → Writes write (l ∷ (steps (plan_in P) n t w).written) buffer at (λ r. Leads P r (steps (plan_in P) n t w).left) (going_on (steps_by write P n t) (line write l s buffer at))
    written l =
        writes_on write buffer at (λ r. Leads P r w) _ (l ∷ []) (steps (plan_in P) n t w).written (line write l s buffer at) (steps_by write P n t)
        (writes_line write buffer at _ l s leads) again

    after : (a : Step) → Numbered a
        → Logs write P (after_step (plan_in P) (steps (plan_in P) n t) (step_answer a) (step_wait a) w) buffer at
        (if more a then going_on (steps_by write P n t) (line write (step_line a) s buffer at) else record { put = Some at; cells = s; buffer = buffer })
    unfolding step_answer step_wait step_line answer_line
    after (Grant d k class end moves wait) e = rw e (written (grant_line d k class end moves wait))
    after (Rest d moves) e = written (rest_line d moves)
    after Quiet e = writes_none write buffer at _ s leads
    after (Refused m) e = writes_none write buffer at _ s leads

module _ (write : Bool) (P : List ℕ) (R : Ready P) (t : ℕ) where
  -- at most n steps log, from all cells that lead to a watched hub
  abbrev StepsLog : ℕ → Type 0
  StepsLog n =
      (s : List ℕ) (w : Watched Control) → Leads P s w → (buffer : List ℕ) (at : ℕ)
      → Logs write P (steps (plan_in P) n t w) buffer at (steps_by write P n t s buffer at)

  no_step : StepsLog 0
  unfolding steps steps_by
  no_step s w leads buffer at = writes_none write buffer at _ s leads

  one_more : (n : ℕ) → StepsLog n → StepsLog (suc n)
  unfolding steps steps_by perform_by
  one_more n again s w leads buffer at =
      let f = further P R (step t) s w leads in
      let o = on_watched P (step t) w in
      subst₂
      (λ (x : Answer) (wait : ℕ). Logs write P (after_step (plan_in P) (steps (plan_in P) n t) x wait o.left) buffer at (steps_by write P (suc n) t s buffer at))
      f.answer f.wait
      (after write P n t o.left (λ r b z l. again r o.left l b z) buffer at (step_by P t s).cells f.leads (step_by P t s).answer (step_numbered P t s))

  pub steps_log : (n : ℕ) → StepsLog n
  steps_log zero = no_step
  steps_log (suc n) = one_more n (steps_log n)

-- where row 11 refuses the bound there is no step
late_steps : (p : Plan) (n t : ℕ) (w : Watched Control) → (row11 w.hub.core t).applies ≡ true → steps p n t w ≡ record { written = []; left = w }
unfolding steps perform
late_steps p zero t w e = refl
late_steps p (suc n) t w e = rw e

before_steps : (p : Plan) (t : ℕ) (w : Watched Control) → steps_before p t w ≡ steps p (budget p w.hub.core) t w
unfolding steps_before
before_steps p t w = go (which (row11 w.hub.core t).applies)
  where
    go : Which (row11 w.hub.core t).applies → steps_before p t w ≡ steps p (budget p w.hub.core) t w
    go (yes' e) = rw e (sym (late_steps p (budget p w.hub.core) t w e))
    go (no' e) = rw e

pub before_log : (write : Bool) (P : List ℕ) → Ready P → (t : ℕ) (s : List ℕ) (w : Watched Control) → Leads P s w → (buffer : List ℕ) (at : ℕ)
    → Logs write P (steps_before (plan_in P) t w) buffer at (steps_by write P (budget_by s) t s buffer at)
before_log write P R t s w leads buffer at =
    rw (before_steps (plan_in P) t w, same-budget P R s w leads) (steps_log write P R t (budget (plan_in P) w.hub.core) s w leads buffer at)
