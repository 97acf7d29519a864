-- The numbers of refusals: what holds of the number of every row of a list holds of the one that refuses. So a refused call has a number
-- from 11 to 17. A call with other rows adds them to `rows-numbered`, or has a line of its own for its list; the law stays.
use Prim.Native.Nat.{ℕ, ◌≤◌}
use mathlib.Core.Path.{◌≡◌, subst}
use mathlib.Core.Bool.{Bool, true, false}
use mathlib.Core.List.{List, [], ◌∷◌}
use native.Mathlib.Omega.{arith}
use Rattle.std.specs.Prelude.{if◌then◌else◌}
use Rattle.rules.specs.Plan.{Plan}
use Rattle.rules.specs.Call.{Call, ask, off, reserve, until, step, refused}
use Rattle.rules.specs.Core.{Core}
use Rattle.rules.specs.Rows.{Row, refuse, first_row, rows}
use Rattle.rules.specs.Machine.{Machine, Hub, Outcome, perform}
use Rattle.rules.proofs.Core.CallCases.{Course, refusal, event, quietly, granting, resting, course}
use Rattle.rules.proofs.Laws.Clash.{clash}

module _ (P : ℕ → Type 0) where
  -- every row's number has P
  abbrev pub All : List Row → Type 0
  All [] = Unit {0}
  All (r ∷ rs) = P r.number × All rs

  pub first-has : (rs : List Row) → All rs → (n : ℕ) → first_row rs ≡ refuse n → P n
  first-has [] all n e = clash (cc)
  first-has (r ∷ rs) all n e = go r.applies (first-has rs all.1 n) e
    where
      go : (b : Bool) → (first_row rs ≡ refuse n → P n) → (if b then refuse r.number else first_row rs) ≡ refuse n → P n
      go true more e =
          let same : r.number ≡ n = cc in
          subst P same all.0
      go false more e = more e

-- the numbers of the rows for calls
pub record CallNumber (n : ℕ) : Type 0 where
  pub low : 11 ≤ n
  pub up : n ≤ 17

abbrev pub Numbered : List Row → Type 0
Numbered = All CallNumber

pub rows-numbered : (p : Plan) (s : Core) (call : Call) → Numbered (rows p s call)
rows-numbered p s (ask c t k b) = omega arith
rows-numbered p s (off t k) = omega arith
rows-numbered p s (reserve t k n b) = omega arith
rows-numbered p s (until t) = omega arith
rows-numbered p s (step t) = omega arith

pub row_number : (p : Plan) (s : Core) (call : Call) (n : ℕ) → first_row (rows p s call) ≡ refuse n → CallNumber n
row_number p s call n e = first-has CallNumber (rows p s call) (rows-numbered p s call) n e

pub refused_number : (p : Plan) (M : Machine) (h : Hub M.State) (call : Call) (n : ℕ) → (perform p M call h).answer ≡ refused n → CallNumber n
refused_number p M h call n = go (course p M h call)
  where
    go : {x : Call} {o : Outcome M.State} → Course p M h x o → o.answer ≡ refused n → CallNumber n
    go (refusal x m e) q =
        let same : m ≡ n = cc in
        subst CallNumber same (row_number p h.core x m e)
    go (event x e a) q = clash (cc)
    go (quietly t i b) q = clash (cc)
    go (granting t d c i e l s) q = clash (cc)
    go (resting t d i e l s) q = clash (cc)
