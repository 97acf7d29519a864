-- A reader hands out the lines that stand at its place, each once, in order and numbered, and stops where nothing is left. Assumes nothing.
use mathlib.Core.Path.{◌≡◌, refl, sym, ap, ◌∙◌}
use mathlib.Core.Bool.{Bool, true, false, not, ◌&&◌}
use mathlib.Core.List.{List, [], ◌∷◌}
use Prim.Native.Nat.{ℕ, zero, suc, ◌-◌, ◌<◌}
use native.Mathlib.Omega.{arith}
use borrow.Author.Tests.{eq-eqb, ne_eqb}
use lib.Dec.{eqb}
use lib.ListN.{length, drop, drop_of_length-le}
use Rattle.text.specs.Part.{part}
use Rattle.text.specs.Line.{lines, next_number, next_line}
use Rattle.text.specs.declared.Cursor.{Cursor}
use Rattle.text.specs.declared.Next.{Next}
use Rattle.text.specs.declared.Next.TheVariants.{Line, Unended, Done}
use Rattle.text.proofs.Parts.{part_length}
use Rattle.text.proofs.Lines.{scanned_line, scanned_unended, scanned_done}
use Rattle.reader.specs.declared.Found.{Found}
use Rattle.reader.specs.LineReader.{found, found_at}
use Rattle.reader.specs.HandsOut.{HandedOut, until, hands_out, numbered}

-- one call, by what is found
abbrev on_call : ℕ → List ℕ → ℕ → ℕ → Found → List HandedOut
on_call calls text at number f =
    until (not f.ended && eqb (length (part text at f.end)) 0) (record { bytes = part text at f.end; number = number; ended = f.ended }) (hands_out calls text f.at f.number)

called : (calls : ℕ) (text : List ℕ) (at number : ℕ) → hands_out (suc calls) text at number ≡ on_call calls text at number (found_at text at number)
unfolding hands_out
called calls text at number = refl

some_left : (n : ℕ) (x : HandedOut) (others : List HandedOut) → (n ≡ 0 → ⊥) → until (eqb n 0) x others ≡ x ∷ others
some_left n x others h = rw (ne_eqb n 0 h)

none_left : (n : ℕ) (x : HandedOut) (others : List HandedOut) → n ≡ 0 → until (eqb n 0) x others ≡ []
none_left n x others h = rw (eq-eqb n 0 h)

module _ (text : List ℕ) where
  abbrev At : ℕ → ℕ → Cursor
  At at number = record { at = at; number = number }

  abbrev line : ℕ → ℕ → ℕ → Bool → HandedOut
  line start end number whole = record { bytes = part text start end; number = number; ended = whole }

  -- by the line that is found, given what the later calls hand out
  by_case : (calls at number : ℕ) (x : Next) → next_line text (At at number) ≡ x → length text - at < suc calls
      → ((place n : ℕ) → length text - place < calls → hands_out calls text place n ≡ numbered n (lines (drop place text)))
      → on_call calls text at number (found (At at number) x) ≡ numbered number (lines (drop at text))
  unfolding found numbered lines
  by_case calls at number (Line start end n next) e h later =
      let l = scanned_line text (At at number) start end n next e in
      ap (λ (r : List HandedOut). line at end number true ∷ r) (later next.at next.number (omega (arith, l.begins, l.onward, l.ends, l.inside)) ∙ ap (λ (m : ℕ). numbered m (lines (drop next.at text))) l.counted)
      ∙ ap (λ (a : ℕ). line a end number true ∷ numbered (next_number number) (lines (drop next.at text))) (sym l.begins) ∙ sym (ap (numbered number) l.first)
  by_case calls at number (Unended start end n) e h later =
      let u = scanned_unended text (At at number) start end n e in
      let rest : hands_out calls text end (next_number number) ≡ [] = later end (next_number number) (omega (arith, u.begins, u.ends, u.more)) ∙ ap (λ (k : List ℕ). numbered (next_number number) (lines k)) (drop_of_length-le text {i = end} (omega (arith, u.ends))) in
      some_left (length (part text at end)) _ _ (λ z. omega (arith, part_length text at end, u.begins, u.ends, u.more))
      ∙ ap (λ (r : List HandedOut). line at end number false ∷ r) rest ∙ ap (λ (a : ℕ). line a end number false ∷ []) (sym u.begins) ∙ sym (ap (numbered number) u.first)
  by_case calls at number (Done n) e h later =
      none_left (length (part text at at)) _ _ (omega (arith, part_length text at at)) ∙ sym (ap (numbered number) (scanned_done text (At at number) n e).0)

  -- in more calls than there are bytes left
  pub all_lines : (calls at number : ℕ) → length text - at < calls → hands_out calls text at number ≡ numbered number (lines (drop at text))
  all_lines zero at number h = absurd (omega arith)
  all_lines (suc calls) at number h = called calls text at number ∙ by_case calls at number (next_line text (At at number)) refl h (all_lines calls)

-- from the start on: the text's lines, numbered from 1
pub the_text's_lines : (text : List ℕ) → hands_out (suc (length text)) text 0 1 ≡ numbered 1 (lines text)
the_text's_lines text = all_lines text (suc (length text)) 0 1 (omega arith)
