-- Reading as it was before request 8, without a line `(strict)`, and as document 01 alone has it, without a framing's line either.
-- Both are one reading over what may stand behind the interrupt's line; figures and forms are read as everywhere.
use Rattle.std.specs.Prelude.{ℕ, zero, suc, ◌+◌, Bool, true, false, List, if◌then◌else◌}
use Rattle.std.proofs.Math.Option.{Option, none, some}
use Rattle.rules.specs.Plan.{longest_in}
use Rattle.text.specs.Line.{Lines, nothing, unended, ended, lines}
use Rattle.text.specs.Form.{read_form}
use Rattle.text.specs.declared.Cursor.{Cursor}
use Rattle.plan.specs.Words.{frame_word, overhead_word, interrupt_word, framing_word, strict_word}
use Rattle.plan.specs.Reading.{Read, next, on_line, figure, optional, unless_row, framing_row, root_line}

-- the root's line behind these figures, in a plan that isn't strict
abbrev pub root_before : ℕ → ℕ → ℕ → ℕ → Lines → Cursor → Read
root_before T O D framing ls c = root_line (record { frame = T; overhead = O; interrupt = D; framing = framing; strict = false }) ls c

-- what document 01 has behind the interrupt's line: the root, with framing 3
abbrev pub only_root : ℕ → ℕ → ℕ → Lines → Cursor → Read
only_root T O D ls c = root_before T O D 3 ls c

-- what request 3 has there: the framing's line or none, then the root
unfoldable pub framing_then_root : ℕ → ℕ → ℕ → Lines → Cursor → Read
framing_then_root T O D ls c =
    optional framing_word 1 ls
    (λ l rest framing. unless_row (framing_row O D framing) c (root_before T O D framing rest (next c l)))
    (root_before T O D 3 ls c)

-- the first three lines, and behind them what `more` reads
module _ (more : ℕ → ℕ → ℕ → Lines → Cursor → Read) where
  unfoldable pub interrupt_before : ℕ → ℕ → Lines → Cursor → Read
  interrupt_before T O ls c =
      on_line ls c (λ l rest. figure (read_form interrupt_word 1 l) (longest_in 3 + O) T c (λ D. more T O D rest (next c l)))

  unfoldable pub overhead_before : ℕ → Lines → Cursor → Read
  overhead_before T ls c =
      on_line ls c (λ l rest. figure (read_form overhead_word 1 l) 0 50000 c (λ O. interrupt_before T O rest (next c l)))

  unfoldable pub frame_before : Lines → Cursor → Read
  frame_before ls c =
      on_line ls c (λ l rest. figure (read_form frame_word 1 l) 100000 4000000 c (λ T. overhead_before T rest (next c l)))

  unfoldable pub reading_with : List ℕ → Read
  reading_with text = frame_before (lines text) (record { at = 0; number = 1 })

-- as document 01 has it, and as it was before request 8
abbrev pub reading_before : List ℕ → Read
reading_before text = reading_with only_root text

abbrev pub reading_before8 : List ℕ → Read
reading_before8 text = reading_with framing_then_root text

-- the lines behind the first n
abbrev pub behind : ℕ → Lines → Lines
behind zero ls = ls
behind (suc n) nothing = nothing
behind (suc n) (unended l) = nothing
behind (suc n) (ended l rest) = behind n rest

-- whether a line was read as a form
abbrev pub is_form : Option (List ℕ) → Bool
is_form none = false
is_form (some ns) = true

-- whether the first of these lines is a form of this word with so many numbers
abbrev pub begins_with : List ℕ → ℕ → Lines → Bool
begins_with word count nothing = false
begins_with word count (unended l) = false
begins_with word count (ended l rest) = is_form (read_form word count l)

-- the fourth line is `(framing x)`, whatever the number x
abbrev pub has_framing : List ℕ → Bool
has_framing text = begins_with framing_word 1 (behind 3 (lines text))

-- the line behind the three figures and any framing's is `(strict)`
abbrev pub has_strict : List ℕ → Bool
has_strict text = begins_with strict_word 0 (behind (if has_framing text then 4 else 3) (lines text))
