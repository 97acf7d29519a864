-- How long the lines of the log are at most, each with its LF, and how long an event's line is at least.
use Rattle.std.specs.Prelude.{Option}
use Prim.Native.Nat.{ℕ, zero, suc, ◌+◌, ◌≤◌, ◌<◌, ◌^◌}
use mathlib.Core.Path.{◌≡◌, refl}
use mathlib.Core.Bool.{Bool, true, false}
use mathlib.Core.List.{List, [], ◌∷◌, ◌++◌}
use mathlib.Core.Option as math
use native.Mathlib.Omega.{arith}
use lib.ListN.{length, drop, length-append, length-drop}
use Rattle.rules.specs.Call.{Class, normal, high, Call}
use Rattle.text.specs.Number.{digits}
use Rattle.text.specs.Word.{starts_with, is_word}
use Rattle.text.specs.Form.{draw_numbers, draw_form, read_close, read_numbers, read_behind, read_form}
use Rattle.text.proofs.Digits.{digits-length}
use Rattle.text.proofs.Words.{starts_length}
use Rattle.writer.specs.Write.{draw_line}
use Rattle.log_lines.specs.FirstLine.{nodes_word, hubs_word, refused_word, nodes_head, nodes_line, refused_line}
use Rattle.log_lines.specs.Lines.{grant_word, rest_word, grant_line, rest_line, class_number}
use Rattle.event.specs.declared.Event.{Event}
use Rattle.event_lines.specs.Event.{normal_word, high_word, off_word, reserve_word, until_word, or_else, event_of, call_on}

-- each number with the space before it
spaced : List ℕ → ℕ
spaced [] = 0
spaced (n ∷ ns) = 1 + length (digits n) + spaced ns

numbers_length : (ns : List ℕ) → length (draw_numbers ns) ≡ spaced ns + 1
unfolding draw_numbers spaced
numbers_length [] = refl
numbers_length (n ∷ ns) = omega (arith, length-append (digits n) (draw_numbers ns), numbers_length ns)

-- the word, its numbers, the bracket and the LF
line-length : (word ns : List ℕ) → length (draw_line word ns) ≡ length word + spaced ns + 2
unfolding draw_line draw_form
line-length word ns =
    omega (arith, length-append (word ++ draw_numbers ns) (10 ∷ []), length-append word (draw_numbers ns), numbers_length ns)

class_length : (c : Class) → length (digits (class_number c)) ≤ 1
class_length normal = digits-length 0 1 (omega arith)
class_length high = digits-length 0 2 (omega arith)

-- no wait is longer than its grant's time
pub grant_length : (s k : ℕ) (c : Class) (end moves wait : ℕ) → s < 10 ^ 15 → k < 1000 → end < 10 ^ 16 → moves < 100 → wait ≤ s
    → length (grant_line s k (class_number c) end moves wait) ≤ 66
unfolding grant_line spaced
grant_length s k c end moves wait a b d e w =
    omega (
      arith,
      line-length grant_word (s ∷ k ∷ class_number c ∷ end ∷ moves ∷ wait ∷ []),
      digits-length 14 s a,
      digits-length 2 k (omega arith),
      class_length c,
      digits-length 15 end d,
      digits-length 1 moves (omega arith),
      digits-length 14 wait (omega arith),
    )

pub rest_length : (s moves : ℕ) → s < 10 ^ 15 → moves < 100 → length (rest_line s moves) ≤ 26
unfolding rest_line spaced
rest_length s moves a b =
    omega (arith, line-length rest_word (s ∷ moves ∷ []), digits-length 14 s a, digits-length 1 moves (omega arith))

-- a refusal that names a line of the text: of row 1, and of any row
pub no_form_length : (line number : ℕ) → line < 100000 → number < 10 → length (refused_line line number) ≤ 18
unfolding refused_line spaced
no_form_length line number a b =
    omega (arith, line-length refused_word (line ∷ number ∷ []), digits-length 4 line (omega arith), digits-length 0 number (omega arith))

pub refused-length : (line number : ℕ) → line < 100000 → number < 100 → length (refused_line line number) ≤ 19
unfolding refused_line spaced
refused-length line number a b =
    omega (arith, line-length refused_word (line ∷ number ∷ []), digits-length 4 line (omega arith), digits-length 1 number (omega arith))

-- a refusal that names any line that 64 bits can count
pub far_length : (line number : ℕ) → line < 10 ^ 20 → number < 10 → length (refused_line line number) ≤ 33
unfolding refused_line spaced
far_length line number a b =
    omega (arith, line-length refused_word (line ∷ number ∷ []), digits-length 19 line a, digits-length 0 number (omega arith))

pub nodes_length : (nodes hubs : ℕ) → nodes < 1000 → hubs < 100 → length (nodes_line nodes hubs) ≤ 20
unfolding nodes_line nodes_head spaced
nodes_length nodes hubs a b =
    omega (
      arith,
      line-length (nodes_word ++ digits nodes ++ hubs_word) (hubs ∷ []),
      length-append nodes_word (digits nodes ++ hubs_word),
      length-append (digits nodes) hubs_word,
      digits-length 2 nodes (omega arith),
      digits-length 1 hubs (omega arith),
    )

-- a line that is a call starts with its word and has more bytes behind it, so it has at least 5
abbrev pub Long : List ℕ → math.Option Call → Type 0
Long l math.none = Unit {0}
Long l (math.some call) = 5 ≤ length l

module _ (l : List ℕ) where
  form_long : (word : List ℕ) (count : ℕ) (event : ℕ → ℕ → ℕ → ℕ → Event) (otherwise : Option Event) → 4 ≤ length word
      → Long l (call_on otherwise) → Long l (call_on (or_else (read_form word count l) event otherwise))
  unfolding read_form
  form_long word count event otherwise w other = go (starts_with word l) refl
    where
      by_numbers : 5 ≤ length l → (o : math.Option (List ℕ)) → Long l (call_on (or_else o event otherwise))
      by_numbers h math.none = other
      by_numbers h (math.some ns) = h

      -- a word alone is no form
      behind : (s : List ℕ) (n : ℕ) → length word + length s ≤ length l → Long l (call_on (or_else (read_numbers n s) event otherwise))
      behind [] zero h = unfold read_numbers read_close is_word in other
      behind [] (suc n) h = unfold read_numbers in other
      behind (b ∷ s) n h = by_numbers (omega arith) (read_numbers n (b ∷ s))

      go : (b : Bool) → starts_with word l ≡ b → Long l (call_on (or_else (read_behind b count (drop (length word) l)) event otherwise))
      go true e = unfold read_behind in behind (drop (length word) l) count (omega (arith, starts_length word l e, length-drop (length word) l))
      go false e = unfold read_behind in other

  pub call_long : Long l (call_on (event_of l))
  unfolding event_of
  call_long =
      form_long normal_word 3 _ _ (omega arith)
      (form_long high_word 3 _ _ (omega arith)
      (form_long off_word 2 _ _ (omega arith)
      (form_long reserve_word 4 _ _ (omega arith)
      (form_long until_word 1 _ _ (omega arith)
      tt))))
