-- Document 01's plan, read by computing: as it is, with a framing's line, with `(strict)` and with both; and plans whose lines are refused.
use Prim.Native.Nat.{ℕ}
use mathlib.Core.Path.{◌≡◌, refl}
use mathlib.Core.Bool.{Bool, true, false}
use mathlib.Core.List.{List, [], ◌∷◌, ◌++◌}
use Rattle.text.specs.Line.{before, lines}
use Rattle.text.specs.Number as number
use Rattle.text.specs.Word.{starts_with, is_word}
use Rattle.text.specs.Form.{and_then, read_close, read_numbers, read_behind, read_form, read_spaced}
use Rattle.plan.specs.Answer.{Taken, Refused}
use Rattle.plan_tree.specs.Kind.{kind_of}
use Rattle.plan_tree.specs.Tables.{put_empty, put_node, put_hub, put_ports, put_root}
use Rattle.plan.specs.Tables.{Figures, put_figures}
use Rattle.plan.specs.Reading.{reading, frame_line, overhead_line, interrupt_line, framing_line, strict_line, root_line, hub_lines}
use Rattle.plan_theory.specs.Tree.{node, hub, Hub, close, port, tables_of, fill_port, fill_hub}

-- the plan up to D, and from its `(hub` on
front : List ℕ
front = 40 ∷ 102 ∷ 114 ∷ 97 ∷ 109 ∷ 101 ∷ 32 ∷ 49 ∷ 48 ∷ 48 ∷ 48 ∷ 48 ∷ 48 ∷ 41 ∷ 10 ∷ 40 ∷ 111 ∷ 118 ∷ 101 ∷ 114 ∷ 104 ∷ 101 ∷ 97 ∷ 100 ∷ 32 ∷ 49 ∷ 48 ∷ 48 ∷ 48 ∷ 41 ∷ 10 ∷ 40 ∷ 105 ∷ 110 ∷ 116 ∷ 101 ∷ 114 ∷ 114 ∷ 117 ∷ 112 ∷ 116 ∷ 32 ∷ []

tree : List ℕ
tree = 40 ∷ 104 ∷ 117 ∷ 98 ∷ 10 ∷ 40 ∷ 110 ∷ 111 ∷ 100 ∷ 101 ∷ 41 ∷ 10 ∷ 40 ∷ 104 ∷ 117 ∷ 98 ∷ 10 ∷ 40 ∷ 110 ∷ 111 ∷ 100 ∷ 101 ∷ 41 ∷ 10 ∷ 40 ∷ 110 ∷ 111 ∷ 100 ∷ 101 ∷ 41 ∷ 10 ∷ 41 ∷ 10 ∷ 40 ∷ 110 ∷ 111 ∷ 100 ∷ 101 ∷ 41 ∷ 10 ∷ 41 ∷ 10 ∷ 40 ∷ 117 ∷ 110 ∷ 116 ∷ 105 ∷ 108 ∷ 32 ∷ 53 ∷ 41 ∷ 10 ∷ []

-- with these bytes for D, and these behind the interrupt's line
text : List ℕ → List ℕ → List ℕ
text interrupt more = front ++ interrupt ++ (41 ∷ 10 ∷ []) ++ more ++ tree

-- a framing's line
framing : List ℕ → List ℕ
framing digits = (40 ∷ 102 ∷ 114 ∷ 97 ∷ 109 ∷ 105 ∷ 110 ∷ 103 ∷ 32 ∷ []) ++ digits ++ (41 ∷ 10 ∷ [])

-- a line of the word `(strict`, with these bytes behind the word
strict : List ℕ → List ℕ
strict more = (40 ∷ 115 ∷ 116 ∷ 114 ∷ 105 ∷ 99 ∷ 116 ∷ []) ++ more ++ (41 ∷ 10 ∷ [])

drawn : Hub
drawn = port node (port (hub (port node (port node close))) (port node close))

figures : ℕ → ℕ → Bool → Figures
figures interrupt framing strict = record { frame = 100000; overhead = 1000; interrupt = interrupt; framing = framing; strict = strict }

-- What is read, row by row. 13,000 and 37,000 are the least D of the framings 3 and 5.
record Samples : Type 0 where
  as_it_is : (reading (text (49 ∷ 51 ∷ 48 ∷ 48 ∷ 48 ∷ []) [])).answer ≡ Taken 4 2 91 12
  its_tables : (reading (text (49 ∷ 51 ∷ 48 ∷ 48 ∷ 48 ∷ []) [])).tables ≡ tables_of (figures 13000 3 false) drawn
  -- the same with the line that says what is meant without it, but for the places
  three : (reading (text (49 ∷ 51 ∷ 48 ∷ 48 ∷ 48 ∷ []) (framing (51 ∷ [])))).answer ≡ Taken 4 2 103 13
  three_tables : (reading (text (49 ∷ 51 ∷ 48 ∷ 48 ∷ 48 ∷ []) (framing (51 ∷ [])))).tables ≡ tables_of (figures 13000 3 false) drawn
  five : (reading (text (51 ∷ 55 ∷ 48 ∷ 48 ∷ 48 ∷ []) (framing (53 ∷ [])))).answer ≡ Taken 4 2 103 13
  five_tables : (reading (text (51 ∷ 55 ∷ 48 ∷ 48 ∷ 48 ∷ []) (framing (53 ∷ [])))).tables ≡ tables_of (figures 37000 5 false) drawn
  -- a framing that is neither; D too small for the framing; no form of a number; and a line above decides first
  unknown : (reading (text (51 ∷ 55 ∷ 48 ∷ 48 ∷ 48 ∷ []) (framing (52 ∷ [])))).answer ≡ Refused 4 4
  short : (reading (text (51 ∷ 54 ∷ 57 ∷ 57 ∷ 57 ∷ []) (framing (53 ∷ [])))).answer ≡ Refused 4 2
  no_form : (reading (text (49 ∷ 51 ∷ 48 ∷ 48 ∷ 48 ∷ []) (framing (48 ∷ 51 ∷ [])))).answer ≡ Refused 4 1
  above : (reading (text (49 ∷ 50 ∷ 57 ∷ 57 ∷ 57 ∷ []) (framing (52 ∷ [])))).answer ≡ Refused 3 2
  -- a strict plan, by itself and behind the framing's line
  strict_text : (reading (text (49 ∷ 51 ∷ 48 ∷ 48 ∷ 48 ∷ []) (strict []))).answer ≡ Taken 4 2 100 13
  strict_tables : (reading (text (49 ∷ 51 ∷ 48 ∷ 48 ∷ 48 ∷ []) (strict []))).tables ≡ tables_of (figures 13000 3 true) drawn
  both : (reading (text (51 ∷ 55 ∷ 48 ∷ 48 ∷ 48 ∷ []) (framing (53 ∷ []) ++ strict []))).answer ≡ Taken 4 2 112 14
  both_tables : (reading (text (51 ∷ 55 ∷ 48 ∷ 48 ∷ 48 ∷ []) (framing (53 ∷ []) ++ strict []))).tables ≡ tables_of (figures 37000 5 true) drawn
  -- `(strict)` before the framing's line; twice; inside the root hub; and with a number
  early : (reading (text (51 ∷ 55 ∷ 48 ∷ 48 ∷ 48 ∷ []) (strict [] ++ framing (53 ∷ [])))).answer ≡ Refused 5 1
  twice : (reading (text (49 ∷ 51 ∷ 48 ∷ 48 ∷ 48 ∷ []) (strict [] ++ strict []))).answer ≡ Refused 5 1
  inside : (reading (text (49 ∷ 51 ∷ 48 ∷ 48 ∷ 48 ∷ []) ((40 ∷ 104 ∷ 117 ∷ 98 ∷ 10 ∷ []) ++ strict []))).answer ≡ Refused 5 1
  numbered : (reading (text (49 ∷ 51 ∷ 48 ∷ 48 ∷ 48 ∷ []) (strict (32 ∷ 49 ∷ [])))).answer ≡ Refused 4 1

samples : Samples
unfolding text front tree framing strict before lines number.read_number number.digit_run number.value_from number.well_formed number.keep_digit number.read_run starts_with is_word and_then read_close read_numbers read_behind read_form read_spaced kind_of put_empty put_node put_hub put_ports put_root put_figures reading frame_line overhead_line interrupt_line framing_line strict_line root_line hub_lines tables_of fill_port fill_hub drawn figures
samples =
    record {
      as_it_is = refl;
      its_tables = refl;
      three = refl;
      three_tables = refl;
      five = refl;
      five_tables = refl;
      unknown = refl;
      short = refl;
      no_form = refl;
      above = refl;
      strict_text = refl;
      strict_tables = refl;
      both = refl;
      both_tables = refl;
      early = refl;
      twice = refl;
      inside = refl;
      numbered = refl;
    }
