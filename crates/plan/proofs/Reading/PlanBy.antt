-- The plan read by the scanner and the two readers is the plan read line by line. Assumes nothing.
use Prim.Native.Nat.{ℕ, ◌+◌, ◌-◌, ◌≤◌, ◌<◌, ◌^◌}
use mathlib.Core.Path.{◌≡◌, refl, ap, ◌∙◌}
use mathlib.Core.Bool.{Bool, true, false, ◌&&◌, false≢true}
use mathlib.Core.List.{List, [], ◌∷◌}
use mathlib.Core.Option.{Option, none, some}
use native.Mathlib.Omega.{arith}
use lib.Dec.{leb}
use lib.ListN.{length, drop, get_or}
use Rattle.std.specs.Prelude.{if◌then◌else◌}
use Rattle.rules.specs.Plan.{longest_in}
use Rattle.text.specs.Line.{Lines, nothing, unended, ended, lines, hand_out, next_line}
use Rattle.text.specs.Word.{is_word}
use Rattle.text.specs.Form.{read_form}
use Rattle.text.specs.declared.Cursor.{Cursor}
use Rattle.header.specs.Figure.{Got, Not}
use Rattle.header.specs.Lines.{figure_of, figure_in, figure_at, optional_of, optional_in, optional_at, root_in, root_at}
use Rattle.plan_tree.specs.declared.Place.{Place}
use Rattle.plan_tree.specs.Part.{Part, Read, Stopped}
use Rattle.plan_tree.specs.Kind.{kind_of, is_hub}
use Rattle.plan.specs.Words.{frame_word, overhead_word, interrupt_word, framing_word, strict_word}
use Rattle.plan_tree.specs.Tables.{no_table, put_root}
use Rattle.plan.specs.Reading as reading
use Rattle.plan.specs.Tables.{Figures}
use Rattle.plan.specs.Reading.{next, refusal, on_line, figure, optional, where_form, unless_row, framing_row, begun, hub_lines, root_line, strict_line, framing_line, interrupt_line, overhead_line, frame_line}
use Rattle.plan_tree.specs.Readers.{Answered, hub_reader}
use Rattle.plan.specs.PlanReader.{plan_over, behind_figure, behind_optional, behind_root, hub_at, strict_at, framing_at, interrupt_at, overhead_at, plan_by}
use Rattle.plan.proofs.Reading.Agree.{First, first, over, Moves, hub_agrees}

module _ (text : List ℕ) where
  -- a line's number is at most its place and one, since each line has a byte
  abbrev Early : Cursor → Type 0
  Early c = c.number ≤ c.at + 1

  -- a figure's line, where the readers of what follows agree
  module _
      (c : Cursor) (early : Early c) (word : List ℕ) (low high : ℕ) (more : ℕ → Lines → Cursor → reading.Read) (goes_on : ℕ → Cursor → reading.Read)
      (agree : (x : ℕ) (d : Cursor) → Early d → more x (lines (drop d.at text)) d ≡ goes_on x d)
    where
      ranged : (l : List ℕ) (rest : Lines) → First text c l rest → (b : Bool) (x : ℕ)
          → (if b then more x rest (next c l) else refusal c 2) ≡ behind_figure (if b then Got x (next c l) else Not c.number 2) goes_on
      ranged l rest f true x = rw (← f.behind) (agree x (next c l) (omega arith))
      ranged l rest f false x = refl

      formed : (l : List ℕ) (rest : Lines) → First text c l rest → (o : Option (List ℕ))
          → figure o low high c (λ x. more x rest (next c l)) ≡ behind_figure (figure_of o c.number (next c l) low high) goes_on
      formed l rest f none = refl
      formed l rest f (some ns) = ranged l rest f (leb low (get_or ns 0 0) && leb (get_or ns 0 0) high) (get_or ns 0 0)

      figure_agrees : on_line (lines (drop c.at text)) c (λ l rest. figure (read_form word 1 l) low high c (λ x. more x rest (next c l)))
          ≡ behind_figure (figure_at text c word low high) goes_on
      unfolding figure_at next_line hand_out
      figure_agrees = go (lines (drop c.at text)) refl
        where
          go : (ls : Lines) → lines (drop c.at text) ≡ ls
              → on_line ls c (λ l rest. figure (read_form word 1 l) low high c (λ x. more x rest (next c l)))
              ≡ behind_figure (figure_in text (hand_out c ls) word low high) goes_on
          go nothing e = refl
          go (unended l) e = refl
          go (ended l rest) e = let f = first text c l rest e in rw f.bytes (formed l rest f (read_form word 1 l))

  -- a line that may be missing, where the readers of what follows agree with it and without it
  module _
      (c : Cursor) (early : Early c) (word : List ℕ) (count : ℕ) (says : Lines → Cursor → ℕ → reading.Read) (absent : Lines → Cursor → reading.Read)
      (goes_on : ℕ → Cursor → reading.Read) (without : reading.Read)
      (agree : (x : ℕ) (d : Cursor) → Early d → says (lines (drop d.at text)) d x ≡ goes_on x d) (same : absent (lines (drop c.at text)) c ≡ without)
    where
      optional-formed : (l : List ℕ) (rest : Lines) → First text c l rest → (o : Option (List ℕ))
          → where_form o (says rest (next c l)) without ≡ behind_optional (optional_of o (next c l)) goes_on without
      optional-formed l rest f none = refl
      optional-formed l rest f (some ns) = rw (← f.behind) (agree (get_or ns 0 0) (next c l) (omega arith))

      optional_agrees : optional word count (lines (drop c.at text)) (λ l rest x. says rest (next c l) x) (absent (lines (drop c.at text)) c)
          ≡ behind_optional (optional_at text c word count) goes_on without
      unfolding optional_at next_line hand_out
      optional_agrees = rw same (go (lines (drop c.at text)) refl)
        where
          go : (ls : Lines) → lines (drop c.at text) ≡ ls
              → optional word count ls (λ l rest x. says rest (next c l) x) without
              ≡ behind_optional (optional_in text (hand_out c ls) word count) goes_on without
          go nothing e = refl
          go (unended l) e = refl
          go (ended l rest) e = let f = first text c l rest e in rw f.bytes (optional-formed l rest f (read_form word count l))

-- the line `(hub` has a byte
hub_bytes : (l : List ℕ) → is_hub (kind_of l) ≡ true → 1 ≤ length l
unfolding kind_of is_word
hub_bytes [] e = absurd (false≢true e)
hub_bytes (b ∷ l) e = omega arith

module _ (text : List ℕ) (left : ℕ) (enough : length text ≤ left) (fits : length text < 2 ^ 64) where
  -- the line before the place that was reached: its number has not come to the largest
  plan_over_lem : (fig : Figures) (at k : ℕ) (p : Part) (t : List ℕ) → Moves fig text at p k
      → over fig text [] k p t ≡ plan_over fig (record { part = p; tables = t })
  plan_over_lem fig at k (Read y) t m = let e : k ≡ y.number - 1 = omega arith in rw e
  plan_over_lem fig at k (Stopped line number) t m = refl

  root_agrees : (fig : Figures) (c : Cursor) → Early text c → root_line fig (lines (drop c.at text)) c ≡ hub_at text left fig c
  unfolding root_line root_at next_line hand_out
  root_agrees fig c early = go (lines (drop c.at text)) refl
    where
      more : Place → Answered
      more x = hub_reader text left x 1 0 4 (put_root no_table)

      begins : (b : Bool) (l : List ℕ) (rest : Lines) → First text c l rest → (b ≡ true → 1 ≤ length l)
          → (if b then hub_lines fig rest (next c l) begun else refusal c 1)
          ≡ plan_over fig
          (behind_root
          (if b then Read (record { at = (next c l).at; number = (next c l).number; nodes = 0; hubs = 1 }) else Stopped c.number 1)
          more)
      begins true l rest f byte =
          let x : Place = record { at = (next c l).at; number = (next c l).number; nodes = 0; hubs = 1 } in
          let long : 1 ≤ length l = byte refl in
          let a = hub_agrees fig text left x 1 0 [] 4 (put_root no_table) (omega arith) (omega arith) refl in
          rw (← f.behind) (a.same ∙ plan_over_lem fig x.at a.last (more x).part (more x).tables a.moves)
      begins false l rest f byte = refl

      go : (ls : Lines) → lines (drop c.at text) ≡ ls
          → on_line ls c (λ l rest. if is_hub (kind_of l) then hub_lines fig rest (next c l) begun else refusal c 1)
          ≡ plan_over fig (behind_root (root_in text (hand_out c ls)) more)
      go nothing e = refl
      go (unended l) e = refl
      go (ended l rest) e =
          let f = first text c l rest e in
          rw f.bytes (begins (is_hub (kind_of l)) l rest f (hub_bytes l))

  strict_agrees : (T O D framing : ℕ) (c : Cursor) → Early text c
      → strict_line T O D framing (lines (drop c.at text)) c ≡ strict_at text left T O D framing c
  unfolding strict_line
  strict_agrees T O D framing c early =
      let figures : Bool → Figures = λ strict. record { frame = T; overhead = O; interrupt = D; framing = framing; strict = strict } in
      optional_agrees text c early strict_word 0 (λ rest d _. root_line (figures true) rest d) (λ rest d. root_line (figures false) rest d)
      (λ _ d. hub_at text left (figures true) d)
      (hub_at text left (figures false) c)
      (λ _ d late. root_agrees (figures true) d late)
      (root_agrees (figures false) c early)

  framing_agrees : (T O D : ℕ) (c : Cursor) → Early text c → framing_line T O D (lines (drop c.at text)) c ≡ framing_at text left T O D c
  unfolding framing_line
  framing_agrees T O D c early =
      optional_agrees text c early framing_word 1 (λ rest d framing. unless_row (framing_row O D framing) c (strict_line T O D framing rest d))
      (λ rest d. strict_line T O D 3 rest d)
      (λ framing d. unless_row (framing_row O D framing) c (strict_at text left T O D framing d))
      (strict_at text left T O D 3 c)
      (λ framing d late. ap (unless_row (framing_row O D framing) c) (strict_agrees T O D framing d late))
      (strict_agrees T O D 3 c early)

  interrupt_agrees : (T O : ℕ) (c : Cursor) → Early text c → interrupt_line T O (lines (drop c.at text)) c ≡ interrupt_at text left T O c
  unfolding interrupt_line
  interrupt_agrees T O c early =
      figure_agrees text c early interrupt_word (longest_in 3 + O) T (λ D rest d. framing_line T O D rest d) (λ D d. framing_at text left T O D d)
      (λ D d. framing_agrees T O D d)

  overhead_agrees : (T : ℕ) (c : Cursor) → Early text c → overhead_line T (lines (drop c.at text)) c ≡ overhead_at text left T c
  unfolding overhead_line
  overhead_agrees T c early =
      figure_agrees text c early overhead_word 0 50000 (λ O rest d. interrupt_line T O rest d) (λ O d. interrupt_at text left T O d)
      (λ O d. interrupt_agrees T O d)

  -- The plan by the scanner and the readers is the plan at the start of the text
  pub plan_agrees : reading.reading text ≡ plan_by text left
  unfolding reading.reading frame_line plan_by
  plan_agrees =
      figure_agrees text (record { at = 0; number = 1 }) (omega arith) frame_word 100000 4000000 (λ T rest d. overhead_line T rest d)
      (λ T d. overhead_at text left T d)
      (λ T d. overhead_agrees T d)
