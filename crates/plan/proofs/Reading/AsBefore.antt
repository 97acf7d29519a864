-- A text without a line `(strict)` is read as before request 8, and one without a framing's line either as document 01 alone has it.
-- Both by one argument: two readings that go on alike behind the interrupt's line are alike. Assumes nothing.
use Prim.Native.Nat.{ℕ, zero, suc, ◌+◌}
use mathlib.Core.Path.{◌≡◌, refl, subst, ap, ◌∙◌}
use mathlib.Core.Bool.{Bool, true, false, ◌&&◌}
use mathlib.Core.List.{List}
use mathlib.Core.Option.{Option, none, some}
use lib.Dec.{leb}
use lib.ListN.{get_or}
use Rattle.std.specs.Prelude.{if◌then◌else◌}
use Rattle.rules.specs.Plan.{longest_in}
use Rattle.rules.proofs.Laws.Passes.{true-false}
use Rattle.text.specs.Line.{Lines, nothing, unended, ended, lines}
use Rattle.text.specs.Form.{read_form}
use Rattle.text.specs.declared.Cursor.{Cursor}
use Rattle.plan.specs.Words.{frame_word, overhead_word, interrupt_word, framing_word, strict_word}
use Rattle.plan.specs.Reading.{Read, refusal, next, on_line, figure, optional, where_form, unless_row, framing_row, root_line, strict_line, framing_line, interrupt_line, overhead_line, frame_line, reading}
use Rattle.plan.specs.AsBefore.{root_before, only_root, framing_then_root, interrupt_before, overhead_before, frame_before, reading_with, reading_before, reading_before8, behind, is_form, begins_with, has_framing, has_strict}

-- two readings of a figure's line that go on alike
module _ (c : Cursor) (word : List ℕ) (low high : ℕ) (more before : ℕ → Lines → Cursor → Read) (Fits : Lines → Type 0)
    (same : (x : ℕ) (ls : Lines) (d : Cursor) → Fits ls → more x ls d ≡ before x ls d) where
  ranged_same : (b : Bool) (x : ℕ) (ls : Lines) (d : Cursor) → Fits ls → (if b then more x ls d else refusal c 2) ≡ (if b then before x ls d else refusal c 2)
  ranged_same true x ls d h = same x ls d h
  ranged_same false x ls d h = refl

  formed-same : (o : Option (List ℕ)) (ls : Lines) (d : Cursor) → Fits ls → figure o low high c (λ x. more x ls d) ≡ figure o low high c (λ x. before x ls d)
  formed-same none ls d h = refl
  formed-same (some ns) ls d h = ranged_same (leb low (get_or ns 0 0) && leb (get_or ns 0 0) high) (get_or ns 0 0) ls d h

  figure-same : (ls : Lines) → ((l : List ℕ) (rest : Lines) → ls ≡ ended l rest → Fits rest)
      → on_line ls c (λ l rest. figure (read_form word 1 l) low high c (λ x. more x rest (next c l)))
      ≡ on_line ls c (λ l rest. figure (read_form word 1 l) low high c (λ x. before x rest (next c l)))
  figure-same nothing h = refl
  figure-same (unended l) h = refl
  figure-same (ended l rest) h = formed-same (read_form word 1 l) rest (next c l) (h l rest refl)

-- two readings that go on alike behind the interrupt's line, where what is behind the first three lines fits
module _ (more : ℕ → ℕ → ℕ → Lines → Cursor → Read) (Fits : Lines → Type 0)
    (same : (T O D : ℕ) (ls : Lines) (d : Cursor) → Fits ls → framing_line T O D ls d ≡ more T O D ls d) where
  -- what is behind so many lines fits
  abbrev FitsBehind : ℕ → Lines → Type 0
  FitsBehind n ls = Fits (behind n ls)

  interrupt_same : (T O : ℕ) (ls : Lines) (c : Cursor) → FitsBehind 1 ls → interrupt_line T O ls c ≡ interrupt_before more T O ls c
  unfolding interrupt_line interrupt_before
  interrupt_same T O ls c h =
      figure-same c interrupt_word (longest_in 3 + O) T (λ D rest d. framing_line T O D rest d) (λ D rest d. more T O D rest d)
      Fits (λ D rest d. same T O D rest d) ls (λ l rest e. subst (FitsBehind 1) e h)

  overhead_same : (T : ℕ) (ls : Lines) (c : Cursor) → FitsBehind 2 ls → overhead_line T ls c ≡ overhead_before more T ls c
  unfolding overhead_line overhead_before
  overhead_same T ls c h =
      figure-same c overhead_word 0 50000 (λ O rest d. interrupt_line T O rest d) (λ O rest d. interrupt_before more T O rest d)
      (FitsBehind 1) (λ O rest d. interrupt_same T O rest d) ls (λ l rest e. subst (FitsBehind 2) e h)

  reading-same : (text : List ℕ) → FitsBehind 3 (lines text) → reading text ≡ reading_with more text
  unfolding reading reading_with frame_line frame_before
  reading-same text h =
      figure-same (record { at = 0; number = 1 }) frame_word 100000 4000000 (λ T rest d. overhead_line T rest d) (λ T rest d. overhead_before more T rest d)
      (FitsBehind 2) (λ T rest d. overhead_same T rest d) (lines text) (λ l rest e. subst (FitsBehind 3) e h)

-- where a line that may be missing isn't there, what is read without it is read
pub absent_same : (word : List ℕ) (count : ℕ) (ls : Lines) (says : List ℕ → Lines → ℕ → Read) (absent : Read)
    → begins_with word count ls ≡ false → optional word count ls says absent ≡ absent
absent_same word count nothing says absent h = refl
absent_same word count (unended l) says absent h = refl
absent_same word count (ended l rest) says absent h = go (read_form word count l) h
  where
    go : (o : Option (List ℕ)) → is_form o ≡ false → where_form o (says l rest) absent ≡ absent
    go none e = refl
    go (some ns) e = absurd (true-false refl e)

strict_same : (T O D framing : ℕ) (ls : Lines) (c : Cursor) → begins_with strict_word 0 ls ≡ false
    → strict_line T O D framing ls c ≡ root_before T O D framing ls c
unfolding strict_line
strict_same T O D framing ls c h =
    absent_same strict_word 0 ls
    (λ l rest _. root_line (record { frame = T; overhead = O; interrupt = D; framing = framing; strict = true }) rest (next c l))
    (root_before T O D framing ls c) h

-- behind the framing's line, where these lines begin with one, there is no `(strict)`
abbrev WithoutStrict : Lines → Type 0
WithoutStrict ls = begins_with strict_word 0 (behind (if begins_with framing_word 1 ls then 1 else 0) ls) ≡ false

framing_same : (T O D : ℕ) (ls : Lines) (c : Cursor) → WithoutStrict ls → framing_line T O D ls c ≡ framing_then_root T O D ls c
unfolding framing_line framing_then_root
framing_same T O D nothing c h = strict_same T O D 3 nothing c h
framing_same T O D (unended l) c h = strict_same T O D 3 (unended l) c h
framing_same T O D (ended l rest) c h = go (read_form framing_word 1 l) h
  where
    go : (o : Option (List ℕ)) → begins_with strict_word 0 (behind (if is_form o then 1 else 0) (ended l rest)) ≡ false
        → where_form o (λ framing. unless_row (framing_row O D framing) c (strict_line T O D framing rest (next c l))) (strict_line T O D 3 (ended l rest) c)
        ≡ where_form o (λ framing. unless_row (framing_row O D framing) c (root_before T O D framing rest (next c l))) (root_before T O D 3 (ended l rest) c)
    go none e = strict_same T O D 3 (ended l rest) c e
    go (some ns) e = ap (unless_row (framing_row O D (get_or ns 0 0)) c) (strict_same T O D (get_or ns 0 0) rest (next c l) e)

root_same : (T O D : ℕ) (ls : Lines) (c : Cursor) → begins_with framing_word 1 ls ≡ false → framing_then_root T O D ls c ≡ only_root T O D ls c
unfolding framing_then_root
root_same T O D ls c h =
    absent_same framing_word 1 ls (λ l rest framing. unless_row (framing_row O D framing) c (root_before T O D framing rest (next c l)))
    (only_root T O D ls c) h

-- one line further behind n
one_further : (n : ℕ) (ls : Lines) → behind (suc n) ls ≡ behind 1 (behind n ls)
one_further zero ls = refl
one_further (suc n) nothing = refl
one_further (suc n) (unended l) = refl
one_further (suc n) (ended l rest) = one_further n rest

without_strict : (text : List ℕ) → has_strict text ≡ false → WithoutStrict (behind 3 (lines text))
without_strict text h = go (has_framing text) h
  where
    go : (b : Bool) → begins_with strict_word 0 (behind (if b then 4 else 3) (lines text)) ≡ false
        → begins_with strict_word 0 (behind (if b then 1 else 0) (behind 3 (lines text))) ≡ false
    go true e = subst (λ (ls : Lines). begins_with strict_word 0 ls ≡ false) (one_further 3 (lines text)) e
    go false e = e

pub read_as_before_8 : (text : List ℕ) → has_strict text ≡ false → reading text ≡ reading_before8 text
read_as_before_8 text s = reading-same framing_then_root WithoutStrict framing_same text (without_strict text s)

pub read_as_before : (text : List ℕ) → has_framing text ≡ false → has_strict text ≡ false → reading text ≡ reading_before text
read_as_before text f s =
    reading-same only_root (λ ls. (begins_with framing_word 1 ls ≡ false) × WithoutStrict ls)
    (λ T O D ls c h. framing_same T O D ls c h.1 ∙ root_same T O D ls c h.0) text (f, without_strict text s)
