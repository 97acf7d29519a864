-- An event line of each form, and lines that are none, byte by byte, by computing.
use Rattle.std.specs.Prelude.{Some, None}
use mathlib.Core.Path.{◌≡◌, refl}
use mathlib.Core.List.{[], ◌∷◌}
use Rattle.text.specs.Number.{keep_digit, digit_run, well_formed, value_from, read_run, read_number}
use Rattle.text.specs.Word.{starts_with, is_word}
use Rattle.text.specs.Form.{and_then, read_spaced, read_close, read_numbers, read_behind, read_form}
use Rattle.event.specs.declared.Event.TheVariants.{Normal, High, Off, Reserve, Until}
use Rattle.event_lines.specs.Event.{event_of}

-- `(normal 5 3 100)`
normal_line : event_of (40 ∷ 110 ∷ 111 ∷ 114 ∷ 109 ∷ 97 ∷ 108 ∷ 32 ∷ 53 ∷ 32 ∷ 51 ∷ 32 ∷ 49 ∷ 48 ∷ 48 ∷ 41 ∷ []) ≡ Some (Normal 5 3 100)
unfolding event_of read_form read_behind read_numbers read_close read_spaced and_then starts_with is_word read_number read_run value_from well_formed digit_run keep_digit
normal_line = refl

-- `(high 5 3 100)`
high_line : event_of (40 ∷ 104 ∷ 105 ∷ 103 ∷ 104 ∷ 32 ∷ 53 ∷ 32 ∷ 51 ∷ 32 ∷ 49 ∷ 48 ∷ 48 ∷ 41 ∷ []) ≡ Some (High 5 3 100)
unfolding event_of read_form read_behind read_numbers read_close read_spaced and_then starts_with is_word read_number read_run value_from well_formed digit_run keep_digit
high_line = refl

-- `(off 20 7)`
off_line : event_of (40 ∷ 111 ∷ 102 ∷ 102 ∷ 32 ∷ 50 ∷ 48 ∷ 32 ∷ 55 ∷ 41 ∷ []) ≡ Some (Off 20 7)
unfolding event_of read_form read_behind read_numbers read_close read_spaced and_then starts_with is_word read_number read_run value_from well_formed digit_run keep_digit
off_line = refl

-- `(reserve 0 1 12 64)`
reserve_line : event_of (40 ∷ 114 ∷ 101 ∷ 115 ∷ 101 ∷ 114 ∷ 118 ∷ 101 ∷ 32 ∷ 48 ∷ 32 ∷ 49 ∷ 32 ∷ 49 ∷ 50 ∷ 32 ∷ 54 ∷ 52 ∷ 41 ∷ []) ≡ Some (Reserve 0 1 12 64)
unfolding event_of read_form read_behind read_numbers read_close read_spaced and_then starts_with is_word read_number read_run value_from well_formed digit_run keep_digit
reserve_line = refl

-- `(until 900)`
until-line : event_of (40 ∷ 117 ∷ 110 ∷ 116 ∷ 105 ∷ 108 ∷ 32 ∷ 57 ∷ 48 ∷ 48 ∷ 41 ∷ []) ≡ Some (Until 900)
unfolding event_of read_form read_behind read_numbers read_close read_spaced and_then starts_with is_word read_number read_run value_from well_formed digit_run keep_digit
until-line = refl

-- `(off 20 7 1)`
a_number_too_many : event_of (40 ∷ 111 ∷ 102 ∷ 102 ∷ 32 ∷ 50 ∷ 48 ∷ 32 ∷ 55 ∷ 32 ∷ 49 ∷ 41 ∷ []) ≡ None
unfolding event_of read_form read_behind read_numbers read_close read_spaced and_then starts_with is_word read_number read_run value_from well_formed digit_run keep_digit
a_number_too_many = refl

-- `(until 09)`
a_leading_zero : event_of (40 ∷ 117 ∷ 110 ∷ 116 ∷ 105 ∷ 108 ∷ 32 ∷ 48 ∷ 57 ∷ 41 ∷ []) ≡ None
unfolding event_of read_form read_behind read_numbers read_close read_spaced and_then starts_with is_word read_number read_run value_from well_formed digit_run keep_digit
a_leading_zero = refl
