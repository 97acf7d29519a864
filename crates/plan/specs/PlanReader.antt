-- The whole plan by the scanner: the header's lines and the root's `(hub` at
-- cursors, then the hub reader. It reads what `reading` of Reading reads;
-- that is proved in proofs/.
use Rattle.std.specs.Prelude.{ℕ, ◌+◌, ◌-◌, true, false, List, [], eqb, if◌then◌else◌, Option, Some, None}
use Rattle.rules.specs.Plan.{longest_in}
use Rattle.text.specs.declared.Cursor.{Cursor}
use Rattle.plan.specs.Answer.{Taken, Refused}
use Rattle.header.specs.Figure.{Figure, Got, Not}
use Rattle.header.specs.Lines.{figure_at, optional_at, root_at}
use Rattle.plan_tree.specs.declared.Place.{Place}
use Rattle.plan_tree.specs.Part.{Part, Read, Stopped}
use Rattle.plan.specs.Words.{frame_word, overhead_word, interrupt_word, framing_word, strict_word}
use Rattle.plan_tree.specs.Tables.{no_table}
use Rattle.plan.specs.Tables.{Figures, put_figures}
use Rattle.plan.specs.Reading.{unless_row, framing_row}
use Rattle.plan.specs.Reading as reading
use Rattle.plan_tree.specs.Readers.{Answered, stop, root_reader}

abbrev pub refused : ℕ → ℕ → reading.Read
refused line number = record { answer = Refused line number; tables = [] }

-- the root was read up to a place: without a node its last line, the one before that place, is refused
abbrev pub plan_over : Figures → Answered → reading.Read
plan_over fig d =
    elim d.part [
      | Read y ↦
          if eqb y.nodes 0 then refused (y.number - 1) 3
          else
          (record {
            answer = Taken y.nodes y.hubs y.at y.number;
            tables = put_figures fig y.nodes y.hubs d.tables;
          })
      | Stopped line number ↦ refused line number
    ]

abbrev pub behind_figure : Figure → (ℕ → Cursor → reading.Read) → reading.Read
behind_figure (Got x next) more = more x next
behind_figure (Not line number) more = refused line number

abbrev pub behind_optional : Option (ℕ × Cursor) → (ℕ → Cursor → reading.Read) → reading.Read → reading.Read
behind_optional (Some x) says absent = says x.0 x.1
behind_optional None says absent = absent

abbrev pub behind_root : Part → (Place → Answered) → Answered
behind_root (Read x) more = more x
behind_root (Stopped line number) more = stop line number []

module _ (text : List ℕ) (left : ℕ) where
  -- the root hub at a cursor, whose lines are at most `left`
  abbrev pub hub_at : Figures → Cursor → reading.Read
  hub_at fig c = plan_over fig (behind_root (root_at text c) (λ x. root_reader text left x no_table))

  abbrev pub strict_at : ℕ → ℕ → ℕ → ℕ → Cursor → reading.Read
  strict_at T O D framing c =
      behind_optional (optional_at text c strict_word 0)
      (λ _ next. hub_at (record { frame = T; overhead = O; interrupt = D; framing = framing; strict = true }) next)
      (hub_at (record { frame = T; overhead = O; interrupt = D; framing = framing; strict = false }) c)

  abbrev pub framing_at : ℕ → ℕ → ℕ → Cursor → reading.Read
  framing_at T O D c =
      behind_optional (optional_at text c framing_word 1)
      (λ framing next. unless_row (framing_row O D framing) c (strict_at T O D framing next))
      (strict_at T O D 3 c)

  abbrev pub interrupt_at : ℕ → ℕ → Cursor → reading.Read
  interrupt_at T O c = behind_figure (figure_at text c interrupt_word (longest_in 3 + O) T) (λ D next. framing_at T O D next)

  abbrev pub overhead_at : ℕ → Cursor → reading.Read
  overhead_at T c = behind_figure (figure_at text c overhead_word 0 50000) (λ O next. interrupt_at T O next)

  -- the plan at the start of a text
  unfoldable pub plan_by : reading.Read
  plan_by = behind_figure (figure_at text (record { at = 0; number = 1 }) frame_word 100000 4000000) (λ T next. overhead_at T next)
