-- An event is taken exactly where it is acceptable: refused where a row says so, and nowhere else. Of any hub, whatever way it gives turns.
use Prim.Native.Nat.{ℕ}
use mathlib.Core.Path.{◌≡◌, refl}
use mathlib.Core.Bool.{false}
use Rattle.rules.specs.Plan.{Plan}
use Rattle.rules.specs.Call.{Call, taken}
use Rattle.rules.specs.Core.{Core}
use Rattle.rules.specs.Rows.{accept, first_row, rows, row11, row12}
use Rattle.rules.specs.Machine.{Machine, Hub, Outcome, accepted, perform}
use Rattle.rules.specs.Promises.{OnTime, Acceptable, asks, leaves, reserves, waits}
use Rattle.rules.proofs.Core.RowsPassed.{passed11, passed12, passed13, passed14, passed15, passed15r, passed16, passed17}
use Rattle.rules.proofs.Core.CallCases.{Clear, clear, accepts, Event, asking, leaving, reserving, waiting, Course, refusal, event, quietly, granting, resting, course}
use Rattle.rules.proofs.Laws.Clash.{clash}

module _ (p : Plan) (s : Core) where
  -- rows 11 and 12 stand first for every event
  module _ (t : ℕ) (o : OnTime p s t) where
    passes11 : (row11 s t).applies ≡ false
    passes11 = (passed11 s t).1 (record { late = o.late; soon = o.soon })

    passes12 : (row12 p s t).applies ≡ false
    passes12 = (passed12 p s t).1 o.not_due

  all_passed : {call : Call} → Acceptable p s call → Clear (rows p s call)
  all_passed (asks c t k b a) = (
    passes11 t a.time,
    (
      passes12 t a.time,
      ((passed13 p k).1 a.node, ((passed15 p b).1 (a.short, a.long), ((passed16 p s c t k b).1 a.share, tt))),
    ),
  )
  all_passed (leaves t k o w) = (passes11 t o, (passes12 t o, ((passed13 p k).1 w, tt)))
  all_passed (reserves t k n b a) = (
    passes11 t a.time,
    (
      passes12 t a.time,
      ((passed13 p k).1 a.node, ((passed14 n).1 a.few, ((passed15r p n b).1 a.range, ((passed17 p s k _).1 a.holds, tt)))),
    ),
  )
  all_passed (waits t o) = (passes11 t o, (passes12 t o, tt))

  on_time : (t : ℕ) → (row11 s t).applies ≡ false → (row12 p s t).applies ≡ false → OnTime p s t
  on_time t e d =
      let i = (passed11 s t).0 e in
      record { soon = i.soon; late = i.late; not_due = (passed12 p s t).0 d }

  by_rows : {call : Call} → Event call → Clear (rows p s call) → Acceptable p s call
  by_rows (asking c t k b) r =
      let length = (passed15 p b).0 r.1.1.1.0 in
      asks c t k b
      (record {
        time = on_time t r.0 r.1.0;
        node = (passed13 p k).0 r.1.1.0;
        short = length.0;
        long = length.1;
        share = (passed16 p s c t k b).0 r.1.1.1.1.0;
      })
  by_rows (leaving t k) r = leaves t k (on_time t r.0 r.1.0) ((passed13 p k).0 r.1.1.0)
  by_rows (reserving t k n b) r =
      reserves t k n b
      (record {
        time = on_time t r.0 r.1.0;
        node = (passed13 p k).0 r.1.1.0;
        few = (passed14 n).0 r.1.1.1.0;
        range = (passed15r p n b).0 r.1.1.1.1.0;
        holds = (passed17 p s k _).0 r.1.1.1.1.1.0;
      })
  by_rows (waiting t) r = waits t (on_time t r.0 r.1.0)

  pub acceptable : {call : Call} → Event call → first_row (rows p s call) ≡ accept → Acceptable p s call
  acceptable {call} e a = by_rows e (clear (rows p s call) a)

module _ (p : Plan) (M : Machine) (call : Call) (h : Hub M.State) where
  answers_taken : {x : Call} → Acceptable p h.core x → (accepted p M x h).answer ≡ taken
  answers_taken (asks c t k b a) = refl
  answers_taken (leaves t k o w) = refl
  answers_taken (reserves t k n b a) = refl
  answers_taken (waits t o) = refl

  pub acceptable_taken : Acceptable p h.core call → (perform p M call h).answer ≡ taken
  unfolding perform
  acceptable_taken a = rw (accepts (rows p h.core call) (all_passed p h.core a)) (answers_taken a)

  pub taken_acceptable : (perform p M call h).answer ≡ taken → Acceptable p h.core call
  taken_acceptable = go (course p M h call)
    where
      go : {x : Call} {o : Outcome M.State} → Course p M h x o → o.answer ≡ taken → Acceptable p h.core x
      go (refusal x n e) q = clash (cc)
      go (event x e a) q = acceptable p h.core e a
      go (quietly t i n) q = clash (cc)
      go (granting t d c i e l n) q = clash (cc)
      go (resting t d i e l n) q = clash (cc)
