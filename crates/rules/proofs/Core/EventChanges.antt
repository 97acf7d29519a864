-- What an accepted event changes, once the clock has come to its time: a request or a latest reservation, and nothing else.
use Prim.Native.Nat.{ℕ}
use Rattle.rules.specs.Call.{Call, ask, off, reserve, until, step}
use Rattle.rules.specs.Core.{Core, Line}
use Rattle.rules.specs.Rows.{change}

-- what holds of clock, line and high grants holds of them still
pub kept_by_change : (P : ℕ → Line → (ℕ → ℕ) → Type 0) (call : Call) (s : Core)
    → P s.clock s.line s.granted → P (change call s).clock (change call s).line (change call s).granted
kept_by_change P (ask c t k b) s h = h
kept_by_change P (off t k) s h = h
kept_by_change P (reserve t k n b) s h = h
kept_by_change P (until t) s h = h
kept_by_change P (step t) s h = h
