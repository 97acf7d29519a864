-- The five ways in which a call can go, each with what it shows of the hub before it. Whatever is proved of every call goes by these.
use Prim.Native.Nat.{ℕ, ◌<◌}
use mathlib.Core.Path.{◌≡◌, refl}
use mathlib.Core.Bool.{Bool, true, false}
use mathlib.Core.List.{List, [], ◌∷◌}
use lib.Dec.{ltb}
use borrow.Author.Tests.{ltb-true}
use Rattle.std.specs.Prelude.{if◌then◌else◌}
use Rattle.rules.specs.Plan.{Plan}
use Rattle.rules.specs.Call.{Class, Call, ask, off, reserve, until, step, time, taken, refused, rest, quiet}
use Rattle.rules.specs.Core.{Core, advance, counts_in, Due, never, at, due, before, Sought, nothing, class, sought}
use Rattle.rules.specs.Rows.{Row, Verdict, accept, refuse, first_row, rows, change}
use Rattle.rules.specs.Machine.{Machine, Hub, Outcome, grant_to, handled, restful, step_at, accepted, decided, perform}
use Rattle.rules.proofs.Core.RowsPassed.{InTime, passed11}
use Rattle.rules.proofs.Laws.Clash.{clash}

-- no row of a list applies
abbrev pub Clear : List Row → Type 0
Clear [] = Unit {0}
Clear (r ∷ rs) = (r.applies ≡ false) × Clear rs

-- a call is accepted exactly where no row applies
pub clear : (rs : List Row) → first_row rs ≡ accept → Clear rs
clear [] e = tt
clear (r ∷ rs) e = go r.applies refl (clear rs)
  where
    go : (b : Bool) → r.applies ≡ b → (first_row rs ≡ accept → Clear rs) → (r.applies ≡ false) × Clear rs
    go true a more =
        let f : refuse r.number ≡ accept = rw a at e in
        clash (cc)
    go false a more = (a, more (rw a at e))

pub accepts : (rs : List Row) → Clear rs → first_row rs ≡ accept
accepts [] c = refl
accepts (r ∷ rs) c = rw c.0 (accepts rs c.1)

-- the calls that are events
pub data Event : Call → Type 0 where
  asking : (c : Class) (t k b : ℕ) → Event (ask c t k b)
  leaving : (t k : ℕ) → Event (off t k)
  reserving : (t k n b : ℕ) → Event (reserve t k n b)
  waiting : (t : ℕ) → Event (until t)

-- row 11 stands first for every call, and row 12 next for every event
module _ (p : Plan) (s : Core) where
  pub in_time_lem : (call : Call) → first_row (rows p s call) ≡ accept → InTime s (time call)
  in_time_lem (ask c t k b) e = (passed11 s t).0 (clear (rows p s (ask c t k b)) e).0
  in_time_lem (off t k) e = (passed11 s t).0 (clear (rows p s (off t k)) e).0
  in_time_lem (reserve t k n b) e = (passed11 s t).0 (clear (rows p s (reserve t k n b)) e).0
  in_time_lem (until t) e = (passed11 s t).0 (clear (rows p s (until t)) e).0
  in_time_lem (step t) e = (passed11 s t).0 (clear (rows p s (step t)) e).0

  pub not_due : {call : Call} → Event call → first_row (rows p s call) ≡ accept → before (due p s) (time call) ≡ false
  not_due (asking c t k b) e = (clear (rows p s (ask c t k b)) e).1.0
  not_due (leaving t k) e = (clear (rows p s (off t k)) e).1.0
  not_due (reserving t k n b) e = (clear (rows p s (reserve t k n b)) e).1.0
  not_due (waiting t) e = (clear (rows p s (until t)) e).1.0

module _ (p : Plan) (M : Machine) (h : Hub M.State) where
  pub data Course : Call → Outcome M.State → Type 0 where
    refusal : (call : Call) (n : ℕ) → first_row (rows p h.core call) ≡ refuse n → Course call (record { answer = refused n; hub = h })
    event : (call : Call) → Event call → first_row (rows p h.core call) ≡ accept
        → Course call (record { answer = taken; hub = record { core = change call (advance p (time call) h.core); turn = h.turn } })
    quietly : (t : ℕ) → InTime h.core t → before (due p h.core) t ≡ false → Course (step t) (record { answer = quiet; hub = h })
    granting : (t d : ℕ) (c : Class) → InTime h.core t → due p h.core ≡ at d → d < t → sought p (advance p d h.core) ≡ class c
        → Course (step t) (grant_to p M d c (advance p d h.core) (M.choose c (counts_in c (advance p d h.core)) h.turn))
    resting : (t d : ℕ) → InTime h.core t → due p h.core ≡ at d → d < t → sought p (advance p d h.core) ≡ nothing
        → Course (step t)
        (record {
          answer = rest d (M.rested h.turn).moves;
          hub = record { core = restful (advance p d h.core); turn = (M.rested h.turn).state };
        })

  handled_course : (t d : ℕ) → InTime h.core t → due p h.core ≡ at d → d < t → (c : Sought) → sought p (advance p d h.core) ≡ c
      → Course (step t) (handled p M d c (advance p d h.core) h.turn)
  handled_course t d i e l nothing n = resting t d i e l n
  handled_course t d i e l (class c) n = granting t d c i e l n

  step_course : (t : ℕ) → InTime h.core t → (d : Due) → due p h.core ≡ d → Course (step t) (step_at p M d t h)
  step_course t i never e = quietly t i (rw e)
  step_course t i (at d) e = go (ltb d t) refl
    where
      go : (b : Bool) → ltb d t ≡ b
          → Course (step t)
          (if b then handled p M d (sought p (advance p d h.core)) (advance p d h.core) h.turn else record { answer = quiet; hub = h })
      go true l = handled_course t d i e (ltb-true d t l) (sought p (advance p d h.core)) refl
      go false l = quietly t i (rw e l)

  accepted_course : (call : Call) → first_row (rows p h.core call) ≡ accept → Course call (accepted p M call h)
  accepted_course (ask c t k b) e = event (ask c t k b) (asking c t k b) e
  accepted_course (off t k) e = event (off t k) (leaving t k) e
  accepted_course (reserve t k n b) e = event (reserve t k n b) (reserving t k n b) e
  accepted_course (until t) e = event (until t) (waiting t) e
  accepted_course (step t) e = step_course t (in_time_lem p h.core (step t) e) (due p h.core) refl

  pub course : (call : Call) → Course call (perform p M call h)
  unfolding perform
  course call = go (first_row (rows p h.core call)) refl
    where
      go : (v : Verdict) → first_row (rows p h.core call) ≡ v → Course call (decided p M v call h)
      go (refuse n) e = refusal call n e
      go accept e = accepted_course call e
