-- Each wrong hub of "Slips of the turn list" is told from the right one by its run. And what the wrong hubs are made
-- with is the right hub where nothing is got wrong, so that each run shows the one rule that its hub gets wrong.
use Prim.Native.Nat.{ℕ, zero, suc, ◌+◌, ◌≤◌, ◌<◌}
use mathlib.Core.Path.{◌≡◌, refl, ◌∙◌, fun_ext}
use mathlib.Core.Bool.{Bool}
use mathlib.Core.List.{List, [], ◌∷◌, ◌++◌, map, reverse, reverse_aux, append-nil, append_assoc, reverse-cons, map-append}
use native.Mathlib.Omega.{arith}
use Rattle.rules.specs.Choice.{any, sum, first}
use Rattle.rules.specs.Plan.{Plan, Port, node, empty, hub}
use Rattle.rules.specs.Call.{Class, Call, ask, off, reserve, until, step}
use Rattle.rules.specs.Core.{advance, counts_in, counts, Due, never, at, held, due, sought}
use Rattle.rules.specs.Rows.{Verdict, accept, refuse, first_row, rows}
use Rattle.rules.specs.Drawn.{Figures}
use Rattle.rules.specs.Control.{Control, below, lowest, take, walk, led, nearest, choose_by}
use Rattle.rules.specs.Machine.{Machine, Turn, Hub, decided, step_at, perform}
use Rattle.rules.specs.Run.{Entry, made, fresh_hub, answers}
use Rattle.rules.specs.Slips.{Each, slips, down_by, walk_by, answers_by, hasty, step_seen, decided_seen, seeing, high_time, narrow, overfilled}
use Rattle.rules.proofs.Laws.Clash.{clash}

pub slips_shown : Each slips
unfolding any sum first advance counts_in counts held due sought below lowest walk led nearest choose_by perform made walk_by answers_by hasty seeing
slips_shown = (
  record { right = refl; wrong = refl; differ = λ e. clash (cc) },
  (
    record { right = refl; wrong = refl; differ = λ e. clash (cc) },
    (
      record { right = refl; wrong = refl; differ = λ e. clash (cc) },
      (record { right = refl; wrong = refl; differ = λ e. clash (cc) }, (record { right = refl; wrong = refl; differ = λ e. clash (cc) }, tt)),
    ),
  ),
)

-- the figures of the overfilled frame are ones that a plan may have
pub narrow-figures : Figures narrow
narrow-figures =
    record {
      frame_low = omega arith;
      frame_up = omega arith;
      overhead_up = omega arith;
      interrupt_low = omega arith;
      interrupt_up = omega arith;
    }

-- D and the hasty hub's high packets of frame 1 are more than T; the right hub's are not
pub hasty_overfills : narrow.frame < narrow.interrupt + high_time narrow 1 overfilled.wrong_answers
unfolding high_time
hasty_overfills = omega arith

pub right_holds : narrow.interrupt + high_time narrow 1 overfilled.right_answers ≤ narrow.frame
unfolding high_time
right_holds = omega arith

-- a hub that resumes where rule 3 says so walks as the right one does
module _ (p : Plan) (c : Class) (f : ℕ → Bool) where
  take_own : (again : Control → ℕ → Turn Control) (σ : Control) (m q : ℕ) (x : Port)
      → take p c f (λ τ. again (down_by (λ own. own) p c f q τ.holder σ)) σ m q x ≡ take p c f again σ m q x
  take_own again σ m q (node k) = refl
  take_own again σ m q empty = refl
  take_own again σ m q (hub h) = refl

  pub walk_own : (n : ℕ) (σ : Control) (m : ℕ) → walk_by (λ own. own) p c f n σ m ≡ walk p c f n σ m
  unfolding walk walk_by
  walk_own zero σ m = refl
  walk_own (suc n) σ m =
      let q = lowest p f σ.holder (σ.pointer c σ.holder).port in
      rw (fun_ext (λ τ. fun_ext (walk_own n τ)), take_own (walk p c f n) σ m q (p.port σ.holder q))

module _ (p : Plan) (M : Machine) where
  -- a hub that sees its core as it is does as the right one does
  pub seeing_itself : (call : Call) (h : Hub M.State) → seeing (λ s. s) p M call h ≡ perform p M call h
  unfolding seeing perform
  seeing_itself call h = go (first_row (rows p h.core call)) call
    where
      at_step : (d : Due) (t : ℕ) → step_seen (λ s. s) p M d t h ≡ step_at p M d t h
      at_step never t = refl
      at_step (at d) t = refl

      go : (v : Verdict) (x : Call) → decided_seen (λ s. s) p M v x h ≡ decided p M v x h
      go (refuse n) x = refl
      go accept (step t) = at_step (due p h.core) t
      go accept (ask c t k b) = refl
      go accept (off t k) = refl
      go accept (reserve t k n b) = refl
      go accept (until t) = refl

  -- and the answers of `perform`, call by call, are those of the run
  answers_from : (calls earlier : List Call)
      → map (λ (e : Entry). e.answer) (reverse (made p M (reverse_aux calls earlier)).past)
      ≡ map (λ (e : Entry). e.answer) (reverse (made p M earlier).past) ++ answers_by (perform p M) (made p M earlier).hub calls
  unfolding made answers_by
  answers_from [] earlier = rw append-nil
  answers_from (call ∷ calls) earlier = answers_from calls (call ∷ earlier) ∙ simp (reverse-cons, map-append, append_assoc)

  pub answers_by_perform : (calls : List Call) → answers_by (perform p M) (fresh_hub p M) calls ≡ answers p M calls
  unfolding made
  answers_by_perform calls = rw (answers_from calls [])
