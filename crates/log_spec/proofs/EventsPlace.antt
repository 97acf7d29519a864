-- Where the events of a taken plan start: within the text, at least 4 bytes
-- behind its start, and on a line whose number is at most one above that place.
use Prim.Native.Nat.{ℕ, ◌+◌, ◌≤◌, ◌<◌}
use mathlib.Core.Path.{◌≡◌, sym, ap, ◌∙◌}
use mathlib.Core.List.{List, [], ◌∷◌}
use mathlib.Core.Option.{Option, none, some}
use native.Mathlib.Omega.{arith}
use lib.ListN.{length, length-append}
use Rattle.text.specs.Line.{Lines, ended, lines, draw_lines}
use Rattle.text.specs.Form.{draw_form}
use Rattle.text.specs.declared.Cursor.{Cursor}
use Rattle.text.proofs.Lines.{draw-lines}
use Rattle.plan.specs.Words.{frame_word, overhead_word, interrupt_word, framing_word, strict_word}
use Rattle.plan_tree.specs.Kind.{close_word, node_word, empty_word, hub_word}
use Rattle.plan.specs.Reading.{next}
use Rattle.plan_theory.specs.Tree.{Port, node, empty, hub, Hub, close, port, draw_port, draw_hub, Header, one_number, no_number, draw_optional, draw}
use Rattle.plan_theory.specs.Behind.{past_port, past_hub, past_optional, past_interrupt, past_framing, past_figures, past}
use Rattle.plan_theory.specs.Taken.{TakenAs}
use Rattle.plan_theory.proofs.Tree.TakenDrawn.{taken_drawn}
use Rattle.plan_theory.proofs.Tree.Taken.{taken_of}

-- from cursor c, where `ls` stand, to cursor d, where `rest` stand: each line on the way has its LF at least
record Onward (c d : Cursor) (ls rest : Lines) : Type 0 where
  bytes : c.at + length (draw_lines ls) ≡ d.at + length (draw_lines rest)
  further : c.at < d.at
  early : d.number + c.at ≤ c.number + d.at

over_line : (c : Cursor) (l : List ℕ) (rest : Lines) → Onward c (next c l) (ended l rest) rest
unfolding draw_lines
over_line c l rest = record { bytes = omega (arith, length-append l (10 ∷ draw_lines rest)); further = omega arith; early = omega arith }

and_on : {c d e : Cursor} {ls ms rest : Lines} → Onward c d ls ms → Onward d e ms rest → Onward c e ls rest
and_on a b = record { bytes = a.bytes ∙ b.bytes; further = omega arith; early = omega arith }

mutual
  unfolding draw_port past_port

  over_port : (x : Port) (c : Cursor) (rest : Lines) → Onward c (past_port x c) (draw_port x rest) rest
  over_port node c rest = over_line c node_word rest
  over_port empty c rest = over_line c empty_word rest
  over_port (hub h) c rest = and_on (over_line c hub_word (draw_hub h rest)) (over_hub h (next c hub_word) rest)

  over_hub : (h : Hub) (c : Cursor) (rest : Lines) → Onward c (past_hub h c) (draw_hub h rest) rest
  over_hub close c rest = over_line c close_word rest
  over_hub (port x h) c rest = and_on (over_port x c (draw_hub h rest)) (over_hub h (past_port x c) rest)

pub record Placed (text : List ℕ) (at line : ℕ) : Type 0 where
  pub some : 4 ≤ at
  pub inside : at ≤ length text
  pub early : line ≤ at + 1

-- a line that may be missing, and then what leads on from behind it
over_optional : {N : Type 0} (word : List ℕ) (numbers : N → List ℕ) (o : Option N) (c d : Cursor) (ls rest : Lines)
    → Onward (past_optional word numbers o c) d ls rest → Onward c d (draw_optional word numbers o ls) rest
over_optional word numbers none c d ls rest h = h
over_optional word numbers (some x) c d ls rest h = and_on (over_line c (draw_form word (numbers x)) ls) h

-- the header's lines and the root's come before the root's ports
draw_placed : (text : List ℕ) (fig : Header) (h : Hub) (rest : Lines) → lines text ≡ draw fig h rest → Placed text (past fig h).at (past fig h).number
unfolding draw past past_figures past_framing past_interrupt
draw_placed text fig h rest e =
    let c₀ : Cursor = record { at = 0; number = 1 } in
    let c₁ : Cursor = next c₀ (draw_form frame_word (fig.frame ∷ [])) in
    let c₂ : Cursor = next c₁ (draw_form overhead_word (fig.overhead ∷ [])) in
    let c₃ : Cursor = next c₂ (draw_form interrupt_word (fig.interrupt ∷ [])) in
    let c₄ : Cursor = past_optional framing_word one_number fig.framing c₃ in
    let c₅ : Cursor = past_optional strict_word no_number fig.strict c₄ in
    let root = and_on (over_line c₅ hub_word (draw_hub h rest)) (over_hub h (next c₅ hub_word) rest) in
    let strict = over_optional strict_word no_number fig.strict c₄ (past fig h) (ended hub_word (draw_hub h rest)) rest root in
    let framing = over_optional framing_word one_number fig.framing c₃ (past fig h) _ rest strict in
    let all : Onward c₀ (past fig h) (draw fig h rest) rest = and_on (over_line c₀ _ _) (and_on (over_line c₁ _ _) (and_on (over_line c₂ _ _) framing)) in
    let whole : length text ≡ length (draw_lines (draw fig h rest)) = ap length (sym (draw-lines text) ∙ ap draw_lines e) in
    record { some = omega arith; inside = omega arith; early = omega arith }

pub placed : (text : List ℕ) (nodes hubs at line : ℕ) → TakenAs text nodes hubs at line → Placed text at line
placed text nodes hubs at line t =
    let d = taken_drawn text nodes hubs at line t in
    let o = taken_of text nodes hubs at line t d in
    let q = draw_placed text d.fig d.tree d.rest d.drawn in
    record { some = omega (arith, o.same_place); inside = omega (arith, o.same_place); early = omega (arith, o.same_place, o.same_line) }
