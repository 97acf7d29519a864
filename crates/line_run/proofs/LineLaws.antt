-- The run of one line, by what the reader and the event line say of it.
use Rattle.std.specs.Prelude.{Option, Some, None}
use mathlib.Core.Path.{◌≡◌, refl}
use mathlib.Core.Bool.{Bool, true, false}
use mathlib.Core.List.{List, [], ◌∷◌}
use mathlib.Core.Option.{some}
use Prim.Native.Nat.{ℕ, ◌<◌}
use native.Mathlib.Omega.{arith}
use lib.ListN.{length}
use Rattle.writer.specs.Write.{put_answer, pass_buffer}
use Rattle.log_lines.specs.FirstLine.{refused_line}
use Rattle.event.specs.Call.{call_of}
use Rattle.event.specs.declared.Event.{Event}
use Rattle.event_lines.specs.Event.{event_of}
use Rattle.log_spec.specs.Cells.{line, number_by, cells_by, before_by, call_by, event_line_by}
use Rattle.line_run.specs.LineRun.{Ran, line_by}

-- a line by whether its LF was there, and its bytes
module _ (write : Bool) (P : List ℕ) (number : ℕ) (s b : List ℕ) (z : ℕ) where
  pub some_bytes : (k : List ℕ) → 0 < length k → line_by write P k number false s b z ≡ line write (refused_line number 1) s b z
  unfolding line_by
  some_bytes [] h = absurd (omega arith)
  some_bytes (c ∷ k) h = refl

  pub no_bytes : (k : List ℕ) → length k ≡ 0 → line_by write P k number false s b z ≡ record { put = Some z; cells = s; buffer = b }
  unfolding line_by
  no_bytes [] h = refl
  no_bytes (c ∷ k) h = absurd (omega arith)

  module _ (bytes : List ℕ) (ended : Bool) where
    -- what the line says
    module _ (t : ended ≡ true) where
      pub line_event : (x : Event) → Some x ≡ event_of bytes → {r : Option ℕ} {s' b' : List ℕ} → Ran (event_line_by write P number (some (call_of x)) s b z) r s' b'
          → Ran (line_by write P bytes number ended s b z) r s' b'
      unfolding line_by
      line_event x k w = rw (t, ← k) w

      pub line_no_event : None ≡ event_of bytes → {r : Option ℕ} {b' : List ℕ} → r ≡ put_answer b z (refused_line number 1) → b' ≡ pass_buffer write b z (refused_line number 1)
          → Ran (line_by write P bytes number ended s b z) r s b'
      unfolding line_by event_line_by before_by call_by number_by cells_by
      line_no_event k p w = rw (t, ← k) (p, (refl, w))

    pub line-none : ended ≡ false → length bytes ≡ 0 → Ran (line_by write P bytes number ended s b z) (Some z) s b
    line-none t q = rw (t, no_bytes bytes q) (refl, (refl, refl))

    pub line_unended : ended ≡ false → (length bytes ≡ 0 → ⊥) → {r : Option ℕ} {b' : List ℕ} → r ≡ put_answer b z (refused_line number 1) → b' ≡ pass_buffer write b z (refused_line number 1)
        → Ran (line_by write P bytes number ended s b z) r s b'
    line_unended t q p w =
        let n : 0 < length bytes = omega arith in
        rw (t, some_bytes bytes n) (p, (refl, w))
