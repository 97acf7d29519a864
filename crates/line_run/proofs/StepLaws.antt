-- The run of the steps, by what the step answered and whether its line fitted.
use Prim.Native.Nat.{ℕ, suc, ◌-◌}
use mathlib.Core.Path.{◌≡◌, refl, sym, ap, subst, ◌∙◌}
use mathlib.Core.Bool.{Bool, true, false}
use mathlib.Core.List.{List}
use native.Mathlib.Omega.{arith}
use Rattle.std.specs.Prelude.{if◌then◌else◌, Option, Some, None, Result, Ok}
use Rattle.writer.specs.Write.{put_answer, pass_buffer}
use Rattle.log_lines.specs.Lines.{step_line}
use Rattle.cells.specs.declared.Step as code
use Rattle.cells.specs.declared.Refusal.{Refusal}
use Rattle.cells.specs.Step.{Step, told_step}
use Rattle.cells.specs.Calls.{StepPromise}
use Rattle.log_spec.specs.Cells.{Run, line, going_on, more, steps_by}
use Rattle.line_run.specs.LineRun.{Moving, Ran}
use Rattle.line_run.proofs.Ran.{ran_same, onto, halted}

-- a step behind which more may follow is one that was made
pub was_made : (P : List ℕ) (t : ℕ) (s s' : List ℕ) (answer : Result code.Step Refusal) {step : code.Step} → Moving answer (Some step)
    → StepPromise P t s (told_step answer) s' → StepPromise P t s (told_step (Ok step)) s'
was_made P t s s' answer m w = subst (λ (x : Result code.Step Refusal). StepPromise P t s (told_step x) s') m.0 w

pub goes_on : (answer : Result code.Step Refusal) {step : code.Step} → Moving answer (Some step) → more (told_step (Ok step)) ≡ true
goes_on answer m = subst (λ (x : Result code.Step Refusal). more (told_step x) ≡ true) m.0 m.1

module _ (write : Bool) (P : List ℕ) (left t : ℕ) (s b : List ℕ) (at : ℕ) where
  pub no_steps : left ≡ 0 → Ran (steps_by write P left t s b at) (Some at) s b
  unfolding steps_by
  no_steps e = ran_same (ap (λ (n : ℕ). steps_by write P n t s b at) e) (refl, (refl, refl))

  module _ (some : left ≡ 0 → ⊥) {a : Step} {s' : List ℕ} (stepped : StepPromise P t s a s') where
    -- behind the step
    after : Run
    after =
        if more a then going_on (steps_by write P (left - 1) t) (line write (step_line a) s' b at)
        else record { put = Some at; cells = s'; buffer = b }

    split : steps_by write P left t s b at ≡ after
    unfolding steps_by after
    split =
        let e : left ≡ suc (left - 1) = omega arith in
        ap (λ (n : ℕ). steps_by write P n t s b at) e
        ∙ (λ i.
        if more (sym stepped.0 i) then going_on (steps_by write P (left - 1) t) (line write (step_line (sym stepped.0 i)) (sym stepped.1 i) b at)
        else record { put = Some at; cells = sym stepped.1 i; buffer = b })

    pub last_step : more a ≡ false → Ran (steps_by write P left t s b at) (Some at) s' b
    unfolding after
    last_step m = ran_same (split ∙ rw m) (refl, (refl, refl))

    module _ (m : more a ≡ true) {b' : List ℕ} (w : b' ≡ pass_buffer write b at (step_line a)) where
      goes : steps_by write P left t s b at ≡ going_on (steps_by write P (left - 1) t) (line write (step_line a) s' b at)
      unfolding after
      goes = split ∙ rw m

      pub more_steps : (z : ℕ) → Some z ≡ put_answer b at (step_line a) → steps_by write P left t s b at ≡ steps_by write P (left - 1) t s' b' z
      more_steps z p = goes ∙ onto (steps_by write P (left - 1) t) (line write (step_line a) s' b at) (p, (refl, w))

      pub no_room : None ≡ put_answer b at (step_line a) → Ran (steps_by write P left t s b at) None s' b'
      no_room p = ran_same goes (halted (steps_by write P (left - 1) t) (line write (step_line a) s' b at) (p, (refl, w)))
