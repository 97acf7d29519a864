-- A walk of the class of the latest grant keeps to the round: each move is one passing more, and at a return they count anew.
use Prim.Native.Nat.{ℕ, zero, suc, ◌+◌, ◌-◌, ◌*◌, ◌≤◌}
use mathlib.Core.Bool.{Bool}
use native.Mathlib.Omega.{arith}
use native.Mathlib.Nat.{mul-zero, mul-add}
use Rattle.rules.specs.Plan.{Plan}
use Rattle.rules.specs.Call.{Class}
use Rattle.rules.specs.Machine.{Turn}
use Rattle.rules.specs.Drawn.{Drawn}
use Rattle.rules.specs.Control.{Control, at_port, point, up, walk}
use Rattle.rules.specs.Travel.{walk_returns}
use Rattle.rules.proofs.Control.Cover.{rises}
use Rattle.rules.proofs.Control.Steps.{entered}
use Rattle.rules.proofs.Travel.Looks.{unmarked_round, Looked, grants, enters, hands_up, goes_round, looked}
use Rattle.rules.proofs.Travel.Rounds.{total, Tour, begins, Onward, on_granted, on_entered, on_up, round_up}

module _ (p : Plan) (D : Drawn p) (c : Class) where
  -- a turn with w returns, from passings v, where m moves were made before it: the
  -- passings that it adds, and a whole round's for each return, pay for its moves
  pub record Toured (v : ℕ → ℕ) (m w : ℕ) (t : Turn Control) : Type 0 where
    pub tour : Tour p D c t.state
    pub cost : t.moves + total p v ≤ m + 2 * (p.hubs - 1) * w + total p tour.passings

  -- one move, and then on
  toured_on : {σ τ : Control} (s : Tour p D c σ) (o : Onward p D c 1 s τ) {m w : ℕ} {t : Turn Control} → Toured o.tour.passings (m + 1) w t
      → Toured s.passings m w t
  toured_on s o r = record { tour = r.tour; cost = omega (arith, r.cost, o.more) }

  -- at a return the passings count anew
  toured_round : {σ : Control} (s : Tour p D c σ) {v : ℕ → ℕ} {m w : ℕ} {t : Turn Control} → Toured v m w t → Toured s.passings m (w + 1) t
  toured_round s {w = w} r =
      record { tour = r.tour; cost = omega (arith, r.cost, round_up p D c s, mul-add (2 * (p.hubs - 1)) w 1) }

  module _ (f : ℕ → Bool) where
    unfoldable pub TourAt : ℕ → Type 0
    TourAt n = (σ : Control) (m : ℕ) (s : Tour p D c σ) → Toured s.passings m (walk_returns p c f n σ) (walk p c f n σ m)

    pub tours : (n : ℕ) → TourAt n
    unfolding TourAt walk walk_returns
    tours zero σ m s = record { tour = s; cost = omega (arith, mul-zero (2 * (p.hubs - 1))) }
    tours (suc n) σ m s = go (tours n) (looked p D c f n σ m s.port s.looks)
      where
        go : {t : Turn Control} {w : ℕ} → TourAt n → Looked p D c f n σ m s.port t w → Toured s.passings m w t
        go onward (grants r k v l i j) =
            let o = on_granted p D c σ s r v l in
            record { tour = o.tour; cost = omega (arith, o.more) }
        go onward (enters r h v l k cl t) =
            let a = rises p D σ.holder s.port r s.looks.within s.looks.low l (omega (arith, v.up)) in
            let o = on_entered p D c σ s r h v l k (omega (arith, k.last, t.past, t.up)) in
            toured_on s o (onward (entered c r h σ) (m + 1) o.tour)
        go onward (hands_up i cl) =
            let o = on_up p D c σ s i in
            toured_on s o (onward (up p c σ) (m + 1) o.tour)
        go onward (goes_round i cl) = toured_round s (onward (point c 1 (at_port 1) σ) m (begins p D c 1 (unmarked_round p D c s.looks i) s.latest))
