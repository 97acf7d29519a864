-- How many lines a drawing has, and where the line behind it starts.
use Rattle.std.specs.Prelude.{ℕ, ◌+◌, List, [], ◌∷◌}
use Rattle.std.proofs.Math.Option.{Option, none, some}
use Rattle.text.specs.Form.{draw_form}
use Rattle.text.specs.declared.Cursor.{Cursor}
use Rattle.plan.specs.Words.{frame_word, overhead_word, interrupt_word, framing_word, strict_word}
use Rattle.plan_tree.specs.Kind.{close_word, node_word, empty_word, hub_word}
use Rattle.plan.specs.Reading.{next}
use Rattle.plan_theory.specs.Tree.{Header, one_number, no_number, Port, node, empty, hub, Hub, close, port}

-- the lines of a port, and of a hub from its ports on
unfoldable mutual
  pub lines_at : Port → ℕ
  lines_at node = 1
  lines_at empty = 1
  lines_at (hub h) = 1 + lines_in h

  pub lines_in : Hub → ℕ
  lines_in close = 1
  lines_in (port x h) = lines_at x + lines_in h

-- a line that may be missing
abbrev pub lines_optional : {A : Type 0} → Option A → ℕ
lines_optional none = 0
lines_optional (some x) = 1

-- the header's lines and the root's `(hub` come first
abbrev pub lines_of : Header → Hub → ℕ
lines_of fig h = 3 + lines_optional fig.framing + lines_optional fig.strict + (1 + lines_in h)

-- the cursor behind a port, and behind a hub from its ports on, where its first line is at c
unfoldable mutual
  pub past_port : Port → Cursor → Cursor
  past_port node c = next c node_word
  past_port empty c = next c empty_word
  past_port (hub h) c = past_hub h (next c hub_word)

  pub past_hub : Hub → Cursor → Cursor
  past_hub close c = next c close_word
  past_hub (port x h) c = past_hub h (past_port x c)

-- the cursor behind a line that may be missing, where it would be at c
abbrev pub past_optional : {A : Type 0} → List ℕ → (A → List ℕ) → Option A → Cursor → Cursor
past_optional word numbers none c = c
past_optional word numbers (some x) c = next c (draw_form word (numbers x))

-- the cursor behind the interrupt's line, behind the framing's, that of the root's `(hub`, and that behind the whole drawing
unfoldable pub past_interrupt : Header → Cursor
past_interrupt fig =
    next
    (next (next (record { at = 0; number = 1 }) (draw_form frame_word (fig.frame ∷ []))) (draw_form overhead_word (fig.overhead ∷ [])))
    (draw_form interrupt_word (fig.interrupt ∷ []))

unfoldable pub past_framing : Header → Cursor
past_framing fig = past_optional framing_word one_number fig.framing (past_interrupt fig)

unfoldable pub past_figures : Header → Cursor
past_figures fig = past_optional strict_word no_number fig.strict (past_framing fig)

unfoldable pub past : Header → Hub → Cursor
past fig h = past_hub h (next (past_figures fig) hub_word)
