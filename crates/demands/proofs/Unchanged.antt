-- A refusal changes no cell, and neither does quiet: of every content of both tables.
use Rattle.std.specs.Prelude.{Option, Some, None}
use Prim.Native.Nat.{ℕ}
use mathlib.Core.Path.{◌≡◌, refl, subst}
use mathlib.Core.List.{List}
use lib.Dec.{eqb, ltb}
use Rattle.rules.specs.Call.{Call, ask, off, reserve, until, step, Answer, taken, refused, grant, rest, quiet}
use Rattle.rules.proofs.Laws.Passes.{Which, which, yes', no'}
use Rattle.cells.specs.Sought.{Sought}
use Rattle.cells.specs.Sought as seek
use Rattle.cells.specs.Decode.{plan_in}
use Rattle.cells.specs.Frames.{advance_by}
use Rattle.cells.specs.Instants.{due_by, sought_by}
use Rattle.cells.specs.Calls.{row_by, event_by, grant_by, rest_by, handled_by, step_due, step_by, event_answer, step_answer, event_left, perform_by}

-- an answer that says that something was done: an event was taken, or an instant was handled
abbrev Done : Answer → Type 0
Done taken = Unit {0}
Done (refused n) = ⊥
Done (grant s k c end moves) = Unit {0}
Done (rest s moves) = Unit {0}
Done quiet = ⊥

-- a call did something, or it left the cells as they were
data Either (answer : Answer) (s r : List ℕ) : Type 0 where
  done : Done answer → Either answer s r
  same : r ≡ s → Either answer s r

module _ (P : List ℕ) (s : List ℕ) where
  event_either : (call : Call) → Either (event_answer (row_by P call s)) s (event_by P call s)
  unfolding event_by
  event_either call = go (which (eqb (row_by P call s) 0))
    where
      go : Which (eqb (row_by P call s) 0) → Either (event_answer (row_by P call s)) s (event_by P call s)
      go (yes' e) = done (rw e tt)
      go (no' e) = same (rw e)

  handled_done : (d : ℕ) (x : Sought) (r : List ℕ) → Done (step_answer (handled_by P d x r).answer)
  unfolding handled_by grant_by rest_by step_answer
  handled_done d (seek.Class is_high) r = tt
  handled_done d seek.Nothing r = tt

  due_either : (x : Option ℕ) (t : ℕ) → Either (step_answer (step_due P x t s).answer) s (step_due P x t s).cells
  unfolding step_due
  due_either None t = same refl
  due_either (Some d) t = go (which (ltb d t))
    where
      go : Which (ltb d t) → Either (step_answer (step_due P (Some d) t s).answer) s (step_due P (Some d) t s).cells
      go (yes' l) = done (rw l (handled_done d (sought_by (advance_by P d s)) (advance_by P d s)))
      go (no' l) = same (rw l)

  step_either : (t : ℕ) → Either (step_answer (step_by P t s).answer) s (step_by P t s).cells
  unfolding step_by
  step_either t = go (which (eqb (row_by P (step t) s) 0))
    where
      go : Which (eqb (row_by P (step t) s) 0) → Either (step_answer (step_by P t s).answer) s (step_by P t s).cells
      go (yes' e) = rw e (due_either (due_by (plan_in P) s) t)
      go (no' e) = same (rw e)

  either : (call : Call) → Either (perform_by P call s).answer s (perform_by P call s).cells
  unfolding perform_by event_left
  either (ask c t k b) = event_either (ask c t k b)
  either (off t k) = event_either (off t k)
  either (reserve t k n b) = event_either (reserve t k n b)
  either (until t) = event_either (until t)
  either (step t) = step_either t

  not_done : {a b : Answer} {r : List ℕ} → Either a s r → a ≡ b → (Done b → ⊥) → r ≡ s
  not_done (done d) e n = absurd (n (subst Done e d))
  not_done (same q) e n = q

  pub refusal_unchanged : (call : Call) (n : ℕ) → (perform_by P call s).answer ≡ refused n → (perform_by P call s).cells ≡ s
  refusal_unchanged call n e = not_done (either call) e (λ x. x)

  pub quiet_unchanged : (call : Call) → (perform_by P call s).answer ≡ quiet → (perform_by P call s).cells ≡ s
  quiet_unchanged call e = not_done (either call) e (λ x. x)
