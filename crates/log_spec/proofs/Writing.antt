-- What a run writes: lines one after the other, up to the first that doesn't fit; and what it leaves where all fit.
use Rattle.std.specs.Prelude.{Option, Some, None}
use Prim.Native.Nat.{ℕ}
use mathlib.Core.Path.{◌≡◌, refl, sym, ◌∙◌, ap}
use mathlib.Core.Bool.{Bool}
use mathlib.Core.List.{List, [], ◌∷◌, ◌++◌}
use Rattle.writer.specs.Write.{put_answer, pass_buffer}
use Rattle.rules.proofs.Laws.Clash.{clash}
use Rattle.log_spec.specs.Cells.{Written, then_lines, put_lines, Run, going_on, line}

-- more lines behind those that were written, or measured
abbrev onward : Bool → List (List ℕ) → Written → Written
onward write ms w = then_lines (put_lines write ms) w.put w.buffer

then_onward : (write : Bool) (ms : List (List ℕ)) (more again : List ℕ → ℕ → Written) → ((b : List ℕ) (z : ℕ) → again b z ≡ onward write ms (more b z))
    → (p : Option ℕ) (b : List ℕ) → then_lines again p b ≡ onward write ms (then_lines more p b)
then_onward write ms more again h (Some z) b = h b z
then_onward write ms more again h None b = refl

pub lines_then : (write : Bool) (ls ms : List (List ℕ)) (buffer : List ℕ) (at : ℕ)
    → put_lines write (ls ++ ms) buffer at ≡ then_lines (put_lines write ms) (put_lines write ls buffer at).put (put_lines write ls buffer at).buffer
unfolding put_lines
lines_then write [] ms buffer at = refl
lines_then write (l ∷ ls) ms buffer at =
    then_onward write ms (put_lines write ls) (put_lines write (ls ++ ms)) (lines_then write ls ms) (put_answer buffer at l) (pass_buffer write buffer at l)

-- what a run has written
abbrev pub written_by : Run → Written
written_by r = record { put = r.put; buffer = r.buffer }

-- run r writes, or measures, these lines from a place on and, unless one doesn't fit, leaves cells of which Q holds
pub record Writes (write : Bool) (ls : List (List ℕ)) (buffer : List ℕ) (at : ℕ) (Q : List ℕ → Type 0) (r : Run) : Type 0 where
  pub written : written_by r ≡ put_lines write ls buffer at
  pub leaves : (z : ℕ) → r.put ≡ Some z → Q r.cells

module _ (write : Bool) (buffer : List ℕ) (at : ℕ) (Q : List ℕ → Type 0) where
  -- no line
  pub writes_none : (s : List ℕ) → Q s → Writes write [] buffer at Q (record { put = Some at; cells = s; buffer = buffer })
  unfolding put_lines
  writes_none s q = record { written = refl; leaves = λ z e. q }

  -- one line
  pub writes_line : (l s : List ℕ) → Q s → Writes write (l ∷ []) buffer at Q (line write l s buffer at)
  unfolding put_lines
  writes_line l s q = record { written = go (put_answer buffer at l) (pass_buffer write buffer at l); leaves = λ z e. q }
    where
      go : (p : Option ℕ) (b : List ℕ) → record { put = p; buffer = b } ≡ then_lines (put_lines write []) p b
      go (Some z) b = refl
      go None b = refl

  -- lines and, unless one doesn't fit, more behind them
  pub writes_on : (S : List ℕ → Type 0) (ls ms : List (List ℕ)) (r : Run) (more : List ℕ → List ℕ → ℕ → Run) → Writes write ls buffer at Q r
      → ((s b : List ℕ) (z : ℕ) → Q s → Writes write ms b z S (more s b z)) → Writes write (ls ++ ms) buffer at S (going_on more r)
  writes_on S ls ms r more w f = go r.put w.written w.leaves
    where
      behind : (p : Option ℕ) → record { put = p; buffer = r.buffer } ≡ put_lines write ls buffer at
          → onward write ms (record { put = p; buffer = r.buffer }) ≡ put_lines write (ls ++ ms) buffer at
      behind p e = ap (onward write ms) e ∙ sym (lines_then write ls ms buffer at)

      go : (p : Option ℕ) → record { put = p; buffer = r.buffer } ≡ put_lines write ls buffer at → ((z : ℕ) → p ≡ Some z → Q r.cells)
          → Writes write (ls ++ ms) buffer at S (going_on more (record { put = p; cells = r.cells; buffer = r.buffer }))
      go (Some z) e q =
          let m = f r.cells r.buffer z (q z refl) in
          record { written = m.written ∙ behind (Some z) e; leaves = m.leaves }
      go None e q = record { written = behind None e; leaves = λ z h. clash (cc) }
