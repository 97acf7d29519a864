-- A line of the header that may be missing, of any word and any numbers: how it is counted and passed by, and that it is
-- read from its drawing. What follows it must begin with another word, as `(strict)` and the root's `(hub` do. Assumes nothing.
use Prim.Native.Nat.{ℕ, ◌+◌, ◌≤◌, ◌<◌, ◌^◌, min}
use mathlib.Core.Path.{◌≡◌, refl, sym, ap, ◌∙◌, subst}
use mathlib.Core.Bool.{Bool, true, false}
use mathlib.Core.Logic.{◌↔◌}
use mathlib.Core.List.{List}
use mathlib.Core.Option.{Option, none, some}
use native.Mathlib.Omega.{arith}
use lib.ListN.{length, drop, get_or}
use Rattle.text.specs.Line.{Lines, nothing, unended, ended, lines}
use Rattle.text.specs.Word.{starts_with}
use Rattle.text.specs.Form.{draw_numbers, draw_form, read_behind, read_form, Small}
use Rattle.text.specs.declared.Cursor.{Cursor}
use Rattle.text.proofs.Words.{starts_append}
use Rattle.text.proofs.Forms.{read_drawn, form_law}
use Rattle.plan.specs.Words.{framing_word, strict_word}
use Rattle.plan_tree.specs.Kind.{hub_word}
use Rattle.plan.specs.Reading.{Read, next, optional, unless_row}
use Rattle.plan_theory.specs.Tree.{meant, stands, one_number, no_number, draw_optional}
use Rattle.plan_theory.specs.Behind.{lines_optional, past_optional}
use Rattle.plan_theory.specs.First.{numbers_of}
use Rattle.plan.specs.AsBefore.{is_form, begins_with}
use Rattle.plan.proofs.Reading.Agree.{first}
use Rattle.plan.proofs.Reading.AsBefore.{absent_same}
use Rattle.plan_theory.proofs.Tree.Figures.{no_numbers, one_number_lem}

-- what a form's numbers are: lists of this length, one for each of N
pub record Numbers (N : Type 0) (count : ℕ) : Type 0 where
  pub list : N → List ℕ
  pub counted : (x : N) → length (list x) ≡ count
  pub all : (ns : List ℕ) → length ns ≡ count → (x : N) × (ns ≡ list x)
  pub one : (x y : N) → list x ≡ list y → x ≡ y

-- one number
abbrev pub number : Numbers ℕ 1
number =
    record {
      list = one_number;
      counted = λ x. refl;
      all = λ ns e. (get_or ns 0 0, one_number_lem ns e);
      one = λ x y e. ap (λ (ns : List ℕ). get_or ns 0 0) e;
    }

-- no number: such a line says only that it stands
abbrev pub numberless : Numbers (Unit {0}) 0
numberless = record { list = no_number; counted = λ x. refl; all = λ ns e. (tt, no_numbers ns e); one = λ x y e. refl }

-- whether the first line begins with a word
abbrev pub begins : List ℕ → Lines → Bool
begins word nothing = false
begins word (unended l) = false
begins word (ended l rest) = starts_with word l

-- the root's `(hub` is neither a framing nor `(strict)`, and `(strict)`, or what stands there without it, is no framing
pub hub_not_framing : (rest : Lines) → begins framing_word (ended hub_word rest) ≡ false
unfolding starts_with
hub_not_framing rest = refl

pub hub_not_strict : (rest : Lines) → begins strict_word (ended hub_word rest) ≡ false
unfolding starts_with
hub_not_strict rest = refl

pub strict_not_framing : (o : Option (Unit {0})) (rest : Lines) → begins framing_word rest ≡ false
    → begins framing_word (draw_optional strict_word no_number o rest) ≡ false
unfolding starts_with draw_form
strict_not_framing none rest e = e
strict_not_framing (some x) rest e = refl

module _ (word : List ℕ) where
  -- a line of the word begins with it, and one that doesn't is no form of it
  pub drawn_begins : (ns : List ℕ) (rest : Lines) → begins word (ended (draw_form word ns) rest) ≡ true
  unfolding draw_form
  drawn_begins ns rest = starts_append word (draw_numbers ns)

  no_form : (count : ℕ) (l : List ℕ) → starts_with word l ≡ false → read_form word count l ≡ none
  unfolding read_form read_behind
  no_form count l e = rw e

  pub no_form_first : (count : ℕ) (ls : Lines) → begins word ls ≡ false → (l : List ℕ) (rest : Lines) → ls ≡ ended l rest → read_form word count l ≡ none
  no_form_first count ls e l rest same = no_form count l (sym (ap (begins word) same) ∙ e)

  -- so it is not found there, and passed by
  pub not_found : (count : ℕ) (ls : Lines) → begins word ls ≡ false → begins_with word count ls ≡ false
  not_found count nothing e = refl
  not_found count (unended l) e = refl
  not_found count (ended l rest) e = ap is_form (no_form count l e)

  passed-by : (count : ℕ) (ls : Lines) (says : List ℕ → Lines → ℕ → Read) (absent : Read) → begins word ls ≡ false
      → optional word count ls says absent ≡ absent
  passed-by count ls says absent e = absent_same word count ls says absent (not_found count ls e)

module _ {N : Type 0} (numbers : N → List ℕ) where
  module _ (word : List ℕ) where
    -- the number of the line behind it, up to the largest
    pub count_optional : (o : Option N) (c : Cursor) → c.number ≤ 18446744073709551615
        → (past_optional word numbers o c).number ≡ min (c.number + lines_optional o) 18446744073709551615
    count_optional none c few = omega arith
    count_optional (some x) c few = refl

    -- the lines at the cursor behind it
    pub behind-optional : (text : List ℕ) (o : Option N) (c : Cursor) (rest : Lines) → lines (drop c.at text) ≡ draw_optional word numbers o rest
        → lines (drop (past_optional word numbers o c).at text) ≡ rest
    behind-optional text none c rest e = e
    behind-optional text (some x) c rest e = (first text c (draw_form word (numbers x)) rest e).behind

  -- what the reader is told by the line: its number, or 0 where it has none
  abbrev pub told : N → ℕ
  told x = get_or (numbers x) 0 0

  -- the row that refuses what the line says, 0 if none, as without the line
  abbrev pub row_of : (ℕ → ℕ) → Option N → ℕ
  row_of row none = 0
  row_of row (some x) = row (told x)

  -- `more` reads on behind the line, and `absent` without it
  abbrev pub reads_on : (ℕ → Lines → Cursor → Read) → (Lines → Cursor → Read) → Option N → Lines → Cursor → Read
  reads_on more absent none ls c = absent ls c
  reads_on more absent (some x) ls c = more (told x) ls c

module _ {N : Type 0} {count : ℕ} (H : Numbers N count) (word : List ℕ) where
  abbrev pub line_of : N → List ℕ
  line_of x = draw_form word (H.list x)

  -- a line is read from its drawing, so two drawings of one line say the same; and a line that is such a form is drawn
  pub read-line : (x : N) → Small (H.list x) → read_form word count (line_of x) ≡ some (H.list x)
  read-line x small = subst (λ (n : ℕ). read_form word n (line_of x) ≡ some (H.list x)) (H.counted x) (read_drawn word (H.list x) small)

  pub one_line : (x y : N) → Small (H.list x) → Small (H.list y) → line_of x ≡ line_of y → x ≡ y
  one_line x y p q e =
      let read : some (H.list x) ≡ some (H.list y) = sym (read-line x p) ∙ ap (read_form word count) e ∙ read-line y q in
      H.one x y (cc)

  pub record FormOf (l ns : List ℕ) : Type 0 where
    pub what : N
    pub same : ns ≡ H.list what
    pub small : Small (H.list what)
    pub drawn : l ≡ line_of what

  pub form_of : (l ns : List ℕ) → read_form word count l ≡ some ns → FormOf l ns
  form_of l ns e =
      let d = (form_law word count l ns).0 e in
      let x = H.all ns d.1 in
      record { what = x.0; same = x.1; small = subst Small x.1 d.2; drawn = d.0 ∙ ap (draw_form word) x.1 }

  -- lines drawn with it or without it are read on behind it
  module _ (row : ℕ → ℕ) (more : ℕ → Lines → Cursor → Read) (absent : Lines → Cursor → Read) where
    abbrev pub optional_line : Lines → Cursor → Read
    optional_line ls c = optional word count ls (λ l rest x. unless_row (row x) c (more x rest (next c l))) (absent ls c)

    pub optional_drawn : (o : Option N) (rest : Lines) (c : Cursor) → begins word rest ≡ false → Small (numbers_of H.list o) → row_of H.list row o ≡ 0
        → optional_line (draw_optional word H.list o rest) c ≡ reads_on H.list more absent o rest (past_optional word H.list o c)
    optional_drawn none rest c other small passed = passed-by word count rest _ (absent rest c) other
    optional_drawn (some x) rest c other small passed = rw (read-line x small, passed)

-- a line of no number is refused by no row, and tells only whether it stands
pub small_numberless : (o : Option (Unit {0})) → Small (numbers_of no_number o)
small_numberless none = tt
small_numberless (some x) = tt

pub row_numberless : (o : Option (Unit {0})) → row_of no_number (λ x. 0) o ≡ 0
row_numberless none = refl
row_numberless (some x) = refl

pub reads_stands : (more : Bool → Lines → Cursor → Read) (o : Option (Unit {0})) (ls : Lines) (c : Cursor)
    → reads_on no_number (λ x. more true) (more false) o ls c ≡ more (stands o) ls c
reads_stands more none ls c = refl
reads_stands more (some x) ls c = refl

-- a line of one number, where `absent` is meant without it
module _ (absent : ℕ) where
  pub small_meant : (o : Option ℕ) → meant absent o < 10 ^ 16 → Small (numbers_of one_number o)
  small_meant none h = tt
  small_meant (some x) h = (h, tt)

  pub row_meant : (row : ℕ → ℕ) → row absent ≡ 0 → (o : Option ℕ) → (row_of one_number row o ≡ 0) ↔ (row (meant absent o) ≡ 0)
  row_meant row free none = (λ e. free, λ e. refl)
  row_meant row free (some x) = (λ e. e, λ e. e)

  pub reads_meant : (more : ℕ → Lines → Cursor → Read) (o : Option ℕ) (ls : Lines) (c : Cursor)
      → reads_on one_number more (more absent) o ls c ≡ more (meant absent o) ls c
  reads_meant more none ls c = refl
  reads_meant more (some x) ls c = refl
