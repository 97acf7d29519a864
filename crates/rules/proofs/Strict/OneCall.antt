-- One call without the line, on any machine and from any hub, has the outcome that the call as it is taken has with the line.
use Prim.Native.Nat.{ℕ}
use mathlib.Core.Path.{◌≡◌, refl}
use mathlib.Core.Bool.{true, false}
use mathlib.Core.List.{[], ◌∷◌}
use lib.Dec.{eqb}
use Rattle.std.specs.Prelude.{if◌then◌else◌}
use Rattle.rules.specs.Plan.{Plan, with_strict}
use Rattle.rules.specs.Call.{Class, normal, high, Call, ask, off, reserve, until, step, taken, quiet}
use Rattle.rules.specs.Core.{Share, Core, Line, resting, busy, standing, advance, Due, never, at, due_on, due, before, Sought, nothing, class, sought}
use Rattle.rules.specs.Rows.{Verdict, accept, refuse, first_row, row11, row12, row13, row14, row15, row15r, row17, rows, unreserved, put_up, with_request}
use Rattle.rules.specs.Machine.{Machine, Hub, handled, step_at, decided, perform}
use Rattle.rules.specs.Strict.{as_taken}
use Rattle.rules.proofs.Laws.Passes.{Which, which, yes', no'}

module _ (p : Plan) where
  -- What a request as it is taken meets, by the reservation in force: it is put up as that, and row 16 with the line says of it what it
  -- says of the request without the line. With n = 0 neither is refused, the other being a normal one; else b decides of both
  record Same (r : Share) (c : Class) (b : ℕ) : Type 0 where
    pub put_up_lem : put_up r c ≡ put_up r (put_up r c)
    pub row : unreserved (with_strict false p) r c b ≡ unreserved (with_strict true p) r (put_up r c) b

  same : (r : Share) (c : Class) (b : ℕ) → Same r c b
  same r normal b = record { put_up_lem = refl; row = refl }
  same r high b = go (which (eqb r.packets 0))
    where
      go : Which (eqb r.packets 0) → Same r high b
      go (yes' e) = record { put_up_lem = rw e; row = rw e }
      go (no' e) = record { put_up_lem = rw (e, e); row = rw (e, e) }

  -- instants are due as before, so row 12 is the same
  same_due_on : (l : Line) (s : Core) → due_on l (with_strict false p) s ≡ due_on l (with_strict true p) s
  same_due_on resting s = refl
  same_due_on (busy e) s = refl

  same-due : (s : Core) → due (with_strict false p) s ≡ due (with_strict true p) s
  unfolding due
  same-due s = same_due_on s.line s

  same_late : (s : Core) (t : ℕ) → row12 (with_strict false p) s t ≡ row12 (with_strict true p) s t
  same_late s t = λ i. record { number = 12; applies = before (same-due s i) t }

  module _ (M : Machine) (h : Hub M.State) where
    -- and the instant due is handled the same way
    same_handled : (d : ℕ) (x : Sought) (s : Core)
        → handled (with_strict false p) M d x s h.turn ≡ handled (with_strict true p) M d x s h.turn
    same_handled d nothing s = refl
    same_handled d (class c) s = refl

    same_step : (d : Due) (t : ℕ) → step_at (with_strict false p) M d t h ≡ step_at (with_strict true p) M d t h
    unfolding advance sought
    same_step never t = refl
    same_step (at d) t =
        let s = advance p d h.core in
        λ i. (if before (at d) t then same_handled d (sought p s) s i else record { answer = quiet; hub = h })

    -- what an accepted call changes, and that a refused one changes nothing
    same_decided : (v : Verdict) (call : Call)
        → decided (with_strict false p) M v call h ≡ decided (with_strict true p) M v (as_taken p h.core call) h
    unfolding advance
    same_decided (refuse n) call = refl
    same_decided accept (ask c t k b) =
        let s = advance p t h.core in
        λ i. record {
          answer = taken;
          hub = record { core = with_request k (standing ((same (s.force k) c b).put_up_lem i) b) s; turn = h.turn };
        }
    same_decided accept (off t k) = refl
    same_decided accept (reserve t k n b) = refl
    same_decided accept (until t) = refl
    same_decided accept (step t) = λ i. same_step (same-due h.core i) t i

    -- the first row that refuses is the same
    same_rows : (call : Call)
        → first_row (rows (with_strict false p) h.core call) ≡ first_row (rows (with_strict true p) h.core (as_taken p h.core call))
    unfolding advance
    same_rows (ask c t k b) =
        let s = h.core in
        λ i. first_row
        (row11 s t ∷ same_late s t i ∷ row13 p k ∷ row15 p b
        ∷ record { number = 16; applies = (same ((advance p t s).force k) c b).row i } ∷ [])
    same_rows (off t k) = λ i. first_row (row11 h.core t ∷ same_late h.core t i ∷ row13 p k ∷ [])
    same_rows (reserve t k n b) =
        let s = h.core in
        λ i. first_row
        (row11 s t ∷ same_late s t i ∷ row13 p k ∷ row14 n ∷ row15r p n b ∷ row17 p s k (record { packets = n; bits = b }) ∷ [])
    same_rows (until t) = λ i. first_row (row11 h.core t ∷ same_late h.core t i ∷ [])
    same_rows (step t) = refl

    pub one_call : (call : Call) → perform (with_strict false p) M call h ≡ perform (with_strict true p) M (as_taken p h.core call) h
    unfolding perform
    one_call call = λ i. same_decided (same_rows call i) call i
