-- What a refused plan's answer names: a line that 64 bits can count, and a
-- row of 1 to 4. So its line in the log is short, whatever the text is.
use Prim.Native.Nat.{ℕ, ◌+◌, ◌<◌, ◌^◌}
use mathlib.Core.Bool.{Bool, true, false, ◌&&◌, ◌||◌, not}
use mathlib.Core.List.{List, [], ◌∷◌}
use mathlib.Core.Option.{Option, none, some}
use native.Mathlib.Omega.{arith}
use lib.Dec.{eqb, leb, ltb}
use lib.ListN.{get_or}
use Rattle.std.specs.Prelude.{if◌then◌else◌}
use Rattle.rules.specs.Plan.{longest_in}
use Rattle.text.specs.Line.{Lines, nothing, unended, ended, lines}
use Rattle.text.specs.Form.{read_form}
use Rattle.text.specs.declared.Cursor.{Cursor}
use Rattle.plan_tree.specs.declared.Kind.{Kind}
use Rattle.plan_tree.specs.declared.Kind.TheVariants.{Close, Node, Empty, Hub, Other}
use Rattle.plan.specs.Answer.{Answer, Taken, Refused}
use Rattle.plan_tree.specs.Kind.{kind_of, is_hub}
use Rattle.plan.specs.Words.{frame_word, overhead_word, interrupt_word, framing_word, strict_word}
use Rattle.plan.specs.Tables.{Figures}
use Rattle.plan.specs.Reading.{Read, refusal, next, on_line, Open, Progress, passes, add_node, add_empty, open_hub, close_hub, closed, by_kind, hub_lines, begun, root_line, figure, optional, where_form, unless_row, framing_row, strict_line, framing_line, interrupt_line, overhead_line, frame_line, reading}

abbrev pub Named : Answer → Type 0
Named (Taken nodes hubs at line) = Unit {0}
Named (Refused line number) = (line < 10 ^ 20) × (number < 10)

-- what is read from a cursor names its lines well
abbrev Names : Read → Type 0
Names r = Named r.answer

abbrev Counted : Cursor → Type 0
Counted c = c.number < 2 ^ 64

module _ (c : Cursor) (counted : Counted c) where
  says : (number : ℕ) → number < 10 → Names (refusal c number)
  says number h = (omega arith, h)

  line_names : (ls : Lines) (read : List ℕ → Lines → Read) → ((l : List ℕ) (rest : Lines) → Names (read l rest)) → Names (on_line ls c read)
  line_names nothing read h = says 1 (omega arith)
  line_names (unended l) read h = says 1 (omega arith)
  line_names (ended l rest) read h = h l rest

  choice_names : (b : Bool) (r : Read) (number : ℕ) → number < 10 → Names r → Names (if b then refusal c number else r)
  choice_names true r number f h = says number f
  choice_names false r number f h = h

  figure_names : (o : Option (List ℕ)) (low high : ℕ) (more : ℕ → Read) → ((x : ℕ) → Names (more x)) → Names (figure o low high c more)
  figure_names none low high more h = says 1 (omega arith)
  figure_names (some ns) low high more h = go (leb low (get_or ns 0 0) && leb (get_or ns 0 0) high)
    where
      go : (b : Bool) → Names (if b then more (get_or ns 0 0) else refusal c 2)
      go true = h (get_or ns 0 0)
      go false = says 2 (omega arith)

  unless_names : (number : ℕ) (r : Read) → number < 10 → Names r → Names (unless_row number c r)
  unless_names number r f h = go (eqb number 0)
    where
      go : (b : Bool) → Names (if b then r else refusal c number)
      go true = h
      go false = says number f

  -- a line that may be missing, where what follows names its lines well, with it and without it
  optional_names : (word : List ℕ) (count : ℕ) (ls : Lines) (reads : List ℕ → Lines → ℕ → Read) (absent : Read)
      → ((l : List ℕ) (rest : Lines) (x : ℕ) → Names (reads l rest x)) → Names absent → Names (optional word count ls reads absent)
  optional_names word count nothing reads absent h a = a
  optional_names word count (unended l) reads absent h a = a
  optional_names word count (ended l rest) reads absent h a = go (read_form word count l)
    where
      go : (o : Option (List ℕ)) → Names (where_form o (reads l rest) absent)
      go none = a
      go (some ns) = h l rest (get_or ns 0 0)

  -- a line of a hub form, where what follows names its lines well
  module _ (fig : Figures) (l : List ℕ) (more : Progress → Read) (again : (s : Progress) → Names (more s)) (s : Progress) where
    closed_names : (os : List Open) → Names (closed fig os more c l s)
    closed_names [] = choice_names (eqb s.nodes 0) _ 3 (omega arith) tt
    closed_names (o ∷ os) = again (close_hub o os s)

    kind_names : (kind : Kind) → Names (by_kind fig kind more c l s)
    kind_names Close = closed_names s.outer
    kind_names Node = again (add_node s)
    kind_names Empty = again (add_empty s)
    kind_names Hub = again (open_hub s)
    kind_names Other = says 1 (omega arith)

module _ (fig : Figures) where
  hub_names : (ls : Lines) (c : Cursor) → Counted c → (s : Progress) → Names (hub_lines fig ls c s)
  unfolding hub_lines
  hub_names nothing c h s = says c h 1 (omega arith)
  hub_names (unended l) c h s = says c h 1 (omega arith)
  hub_names (ended l rest) c h s =
      choice_names c h (passes (kind_of l) s) _ 3 (omega arith)
      (kind_names c h fig l (hub_lines fig rest (next c l)) (λ s'. hub_names rest (next c l) (omega arith) s') s (kind_of l))

  root_names : (ls : Lines) (c : Cursor) → Counted c → Names (root_line fig ls c)
  unfolding root_line
  root_names ls c h = line_names c h ls _ (λ l rest. go l rest (is_hub (kind_of l)))
    where
      go : (l : List ℕ) (rest : Lines) (b : Bool) → Names (if b then hub_lines fig rest (next c l) begun else refusal c 1)
      go l rest true = hub_names rest (next c l) (omega arith) begun
      go l rest false = says c h 1 (omega arith)

-- every answer to a text
pub answer_named : (text : List ℕ) → Named (reading text).answer
unfolding reading frame_line overhead_line interrupt_line framing_line strict_line
answer_named text =
    line_names c₀ (omega arith) (lines text) _
    (λ l ls. figure_names c₀ (omega arith) (read_form frame_word 1 l) 100000 4000000 _ (λ T. overhead_names T ls (next c₀ l) (omega arith)))
  where
    c₀ : Cursor
    c₀ = record { at = 0; number = 1 }

    row_small : (O D framing : ℕ) → framing_row O D framing < 10
    row_small O D framing = go (eqb framing 3 || eqb framing 5) (ltb D (longest_in framing + O))
      where
        go : (a b : Bool) → (if not a then 4 else (if b then 2 else 0)) < 10
        go false b = omega arith
        go true true = omega arith
        go true false = omega arith

    strict_names : (T O D framing : ℕ) (ls : Lines) (c : Cursor) → Counted c → Names (strict_line T O D framing ls c)
    strict_names T O D framing ls c h =
        optional_names c h strict_word 0 ls _ _ (λ l rest _. root_names _ rest (next c l) (omega arith)) (root_names _ ls c h)

    framing_names : (T O D : ℕ) (ls : Lines) (c : Cursor) → Counted c → Names (framing_line T O D ls c)
    framing_names T O D ls c h =
        optional_names c h framing_word 1 ls _ _
        (λ l rest framing. unless_names c h (framing_row O D framing) _ (row_small O D framing) (strict_names T O D framing rest (next c l) (omega arith)))
        (strict_names T O D 3 ls c h)

    interrupt_names : (T O : ℕ) (ls : Lines) (c : Cursor) → Counted c → Names (interrupt_line T O ls c)
    interrupt_names T O ls c h =
        line_names c h ls _
        (λ l rest. figure_names c h (read_form interrupt_word 1 l) (longest_in 3 + O) T _ (λ D. framing_names T O D rest (next c l) (omega arith)))

    overhead_names : (T : ℕ) (ls : Lines) (c : Cursor) → Counted c → Names (overhead_line T ls c)
    overhead_names T ls c h =
        line_names c h ls _ (λ l rest. figure_names c h (read_form overhead_word 1 l) 0 50000 _ (λ O. interrupt_names T O rest (next c l) (omega arith)))
