-- "Events": the forms of an event line, and the event that each one is.
use Rattle.std.specs.Prelude.{ℕ, List, [], ◌∷◌, get_or, Option, Some, None}
use Rattle.std.proofs.Math.Option as math
use Rattle.text.specs.Form.{read_form}
use Rattle.rules.specs.Call.{Call}
use Rattle.event.specs.Call.{call_of}
use Rattle.event.specs.declared.Event.{Event}
use Rattle.event.specs.declared.Event.TheVariants.{Normal, High, Off, Reserve, Until}

-- `(normal`, `(high`, `(off`, `(reserve`, `(until`
abbrev pub normal_word : List ℕ
normal_word = 40 ∷ 110 ∷ 111 ∷ 114 ∷ 109 ∷ 97 ∷ 108 ∷ []

abbrev pub high_word : List ℕ
high_word = 40 ∷ 104 ∷ 105 ∷ 103 ∷ 104 ∷ []

abbrev pub off_word : List ℕ
off_word = 40 ∷ 111 ∷ 102 ∷ 102 ∷ []

abbrev pub reserve_word : List ℕ
reserve_word = 40 ∷ 114 ∷ 101 ∷ 115 ∷ 101 ∷ 114 ∷ 118 ∷ 101 ∷ []

abbrev pub until_word : List ℕ
until_word = 40 ∷ 117 ∷ 110 ∷ 116 ∷ 105 ∷ 108 ∷ []

-- the event that a form's first four numbers make, 0 where it has fewer, or what the line says otherwise
abbrev pub or_else : math.Option (List ℕ) → (ℕ → ℕ → ℕ → ℕ → Event) → Option Event → Option Event
or_else (math.some ns) event otherwise = Some (event (get_or ns 0 0) (get_or ns 1 0) (get_or ns 2 0) (get_or ns 3 0))
or_else math.none event otherwise = otherwise

unfoldable pub event_of : List ℕ → Option Event
event_of line =
    or_else (read_form normal_word 3 line) (λ t k b x. Normal t k b)
    (or_else (read_form high_word 3 line) (λ t k b x. High t k b)
    (or_else (read_form off_word 2 line) (λ t k x y. Off t k)
    (or_else (read_form reserve_word 4 line) (λ t k n b. Reserve t k n b)
    (or_else (read_form until_word 1 line) (λ t x y z. Until t)
    None))))

-- the call that a line is, if any
abbrev pub call_on : Option Event → math.Option Call
call_on (Some e) = math.some (call_of e)
call_on None = math.none
