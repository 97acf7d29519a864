-- The event of a line, by the word that it begins with: no other word begins it, so the numbers behind that one decide. One law a word.
-- Assumes nothing.
use Rattle.std.specs.Prelude.{Option, Some, None}
use Prim.Native.Nat.{ℕ, ◌+◌}
use native.Mathlib.Omega.{arith}
use mathlib.Core.Path.{◌≡◌, refl, sym, ◌∙◌}
use mathlib.Core.Bool.{true, false, ◌&&◌, false≢true}
use mathlib.Core.List.{List, [], ◌∷◌}
use mathlib.Core.Option as math
use borrow.Author.Tests.{eqb-true, ne_eqb}
use lib.Dec.{eqb}
use lib.ListN.{length, get_or, take, drop}
use lib.Pointwise.{pointwise}
use Rattle.text.specs.Word.{starts_with}
use Rattle.text.specs.Form.{read_numbers, read_behind, read_form, form_of}
use Rattle.text.proofs.Words.{both, starts_pointwise}
use Rattle.event.specs.declared.Event.{Event}
use Rattle.event.specs.declared.Event.TheVariants.{Normal, High, Off, Reserve, Until}
use Rattle.event_lines.specs.Event.{event_of, or_else, normal_word, high_word, off_word, reserve_word, until_word}

-- a line that begins with a bracket and one letter does not begin with a bracket and another
other_letter : (x y : ℕ) (v w line : List ℕ) → starts_with (40 ∷ x ∷ v) line ≡ true → (x ≡ y → ⊥) → starts_with (40 ∷ y ∷ w) line ≡ false
unfolding starts_with
other_letter x y v w [] h n = absurd (false≢true h)
other_letter x y v w (a ∷ []) h n = absurd (false≢true (both (eqb a 40) false h).1)
other_letter x y v w (a ∷ b ∷ line) h n =
    let p = both (eqb a 40) (eqb b x && starts_with v line) h in
    let q = both (eqb b x) (starts_with v line) p.1 in
    rw (p.0, ne_eqb b y (λ e. n (sym (eqb-true b x q.0) ∙ e)))

-- the event that the code makes of the numbers that it has read
abbrev pub made : Option (List ℕ) → (ℕ → ℕ → ℕ → ℕ → Event) → Option Event
made (Some xs) event = Some (event (get_or xs 0 0) (get_or xs 1 0) (get_or xs 2 0) (get_or xs 3 0))
made None event = None

made_read : (o : math.Option (List ℕ)) (event : ℕ → ℕ → ℕ → ℕ → Event) → made (form_of o) event ≡ or_else o event None
unfolding form_of
made_read (math.some ns) event = refl
made_read math.none event = refl

module _ (line : List ℕ) where
  -- what the library's `strip_prefix` tells where a word begins the line, and where it doesn't
  abbrev pub Begins : List ℕ → List ℕ → Type 0
  Begins word rest = (pointwise eqb (take (length word) line) word ≡ true) × (rest ≡ drop (length word) line) × (length rest + length word ≡ length line)

  abbrev pub Differs : List ℕ → Type 0
  Differs word = pointwise eqb (take (length word) line) word ≡ false

  other_word : (word : List ℕ) (count : ℕ) → Differs word → read_form word count line ≡ math.none
  unfolding read_form read_behind
  other_word word count h = rw (← starts_pointwise word line, h)

  this_word : (word : List ℕ) (count : ℕ) {rest : List ℕ} → Begins word rest → read_form word count line ≡ read_numbers count rest
  unfolding read_form read_behind
  this_word word count h = rw (← starts_pointwise word line, h.0, h.1)

  -- a word with another letter than that of the line
  not_this : (x y : ℕ) (v w : List ℕ) (count : ℕ) → starts_with (40 ∷ x ∷ v) line ≡ true → (x ≡ y → ⊥) → read_form (40 ∷ y ∷ w) count line ≡ math.none
  unfolding read_form read_behind
  not_this x y v w count h n = rw (other_letter x y v w line h n)

  module _ {rest : List ℕ} {r : Option (List ℕ)} where
    pub event_normal : Begins normal_word rest → r ≡ form_of (read_numbers 3 rest) → made r (λ t k b x. Normal t k b) ≡ event_of line
    unfolding event_of
    event_normal h e =
        let s = sym (starts_pointwise normal_word line) ∙ h.0 in
        rw (e, made_read, this_word normal_word 3 h, not_this 110 104 _ _ 3 s (λ e. omega arith), not_this 110 111 _ _ 2 s (λ e. omega arith), not_this 110 114 _ _ 4 s (λ e. omega arith), not_this 110 117 _ _ 1 s (λ e. omega arith))

    pub event_high : Begins high_word rest → r ≡ form_of (read_numbers 3 rest) → made r (λ t k b x. High t k b) ≡ event_of line
    unfolding event_of
    event_high h e =
        let s = sym (starts_pointwise high_word line) ∙ h.0 in
        rw (e, made_read, this_word high_word 3 h, not_this 104 110 _ _ 3 s (λ e. omega arith), not_this 104 111 _ _ 2 s (λ e. omega arith), not_this 104 114 _ _ 4 s (λ e. omega arith), not_this 104 117 _ _ 1 s (λ e. omega arith))

    pub event_off : Begins off_word rest → r ≡ form_of (read_numbers 2 rest) → made r (λ t k x y. Off t k) ≡ event_of line
    unfolding event_of
    event_off h e =
        let s = sym (starts_pointwise off_word line) ∙ h.0 in
        rw (e, made_read, this_word off_word 2 h, not_this 111 110 _ _ 3 s (λ e. omega arith), not_this 111 104 _ _ 3 s (λ e. omega arith), not_this 111 114 _ _ 4 s (λ e. omega arith), not_this 111 117 _ _ 1 s (λ e. omega arith))

    pub event_reserve : Begins reserve_word rest → r ≡ form_of (read_numbers 4 rest) → made r (λ t k n b. Reserve t k n b) ≡ event_of line
    unfolding event_of
    event_reserve h e =
        let s = sym (starts_pointwise reserve_word line) ∙ h.0 in
        rw (e, made_read, this_word reserve_word 4 h, not_this 114 110 _ _ 3 s (λ e. omega arith), not_this 114 104 _ _ 3 s (λ e. omega arith), not_this 114 111 _ _ 2 s (λ e. omega arith), not_this 114 117 _ _ 1 s (λ e. omega arith))

    pub event_until : Begins until_word rest → r ≡ form_of (read_numbers 1 rest) → made r (λ t x y z. Until t) ≡ event_of line
    unfolding event_of
    event_until h e =
        let s = sym (starts_pointwise until_word line) ∙ h.0 in
        rw (e, made_read, this_word until_word 1 h, not_this 117 110 _ _ 3 s (λ e. omega arith), not_this 117 104 _ _ 3 s (λ e. omega arith), not_this 117 111 _ _ 2 s (λ e. omega arith), not_this 117 114 _ _ 4 s (λ e. omega arith))

  pub event_none : Differs normal_word → Differs high_word → Differs off_word → Differs reserve_word → Differs until_word → None ≡ event_of line
  unfolding event_of
  event_none a b c d e = rw (other_word normal_word 3 a, other_word high_word 3 b, other_word off_word 2 c, other_word reserve_word 4 d, other_word until_word 1 e)
