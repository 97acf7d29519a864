-- A watched run has the calls, the answers and the hub of the run that nobody watches; and a place of it is the end of an earlier one.
use mathlib.Core.Path.{◌≡◌, refl, ap, ap₂, subst}
use mathlib.Core.List.{List, [], ◌∷◌, ◌++◌}
use Rattle.rules.specs.Plan.{Plan}
use Rattle.rules.specs.Call.{Call}
use Rattle.rules.specs.Machine.{Machine, Hub, perform}
use Rattle.rules.specs.Run.{Entry, made}
use Rattle.rules.specs.Waits.{Timed, perform_watched, watched, entries_of}
use Rattle.rules.proofs.Laws.Clash.{clash}

module _ (p : Plan) (M : Machine) where
  pub same_hub : (calls : List Call) → (watched p M calls).left.hub ≡ (made p M calls).hub
  unfolding watched made
  same_hub [] = refl
  same_hub (call ∷ earlier) = ap (λ (h : Hub M.State). (perform p M call h).hub) (same_hub earlier)

  pub unaffected : (calls : List Call) → entries_of (watched p M calls).past ≡ (made p M calls).past
  unfolding watched made
  unaffected [] = refl
  unaffected (call ∷ earlier) =
      ap₂ (λ (h : Hub M.State) (l : List Entry). record { call = call; answer = (perform p M call h).answer } ∷ l)
      (same_hub earlier) (unaffected earlier)

  -- an entry with its wait is a call made at its place, with the answer and the wait that it got there
  pub record TimedAt (e : Timed) (before : List Timed) : Type 0 where
    pub earlier : List Call
    pub past : before ≡ (watched p M earlier).past
    pub answer : e.entry.answer ≡ (perform_watched p M e.entry.call (watched p M earlier).left).answer
    pub wait : e.wait ≡ (perform_watched p M e.entry.call (watched p M earlier).left).wait

  pub timed_at : (calls : List Call) (later : List Timed) (e : Timed) (before : List Timed) → (watched p M calls).past ≡ later ++ (e ∷ before)
      → TimedAt e before
  unfolding watched
  timed_at [] [] e before q = clash (cc)
  timed_at [] (x ∷ later) e before q = clash (cc)
  timed_at (call ∷ calls) (x ∷ later) e before q = timed_at calls later e before (cc)
  timed_at (call ∷ calls) [] e before q =
      let o = perform_watched p M call (watched p M calls).left in
      let same : record { entry = record { call = call; answer = o.answer }; wait = o.wait } ≡ e = cc in
      subst (λ (x : Timed). TimedAt x before) same (record { earlier = calls; past = cc; answer = refl; wait = refl })
