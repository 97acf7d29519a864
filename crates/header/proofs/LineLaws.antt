-- A line of the header, by what each call found, and the range of a figure that was read. The code's proofs cite the first.
use Prim.Native.Nat.{ℕ, ◌≤◌}
use mathlib.Core.Path.{◌≡◌, refl, ap}
use mathlib.Core.Bool.{Bool, not, ◌&&◌}
use mathlib.Core.Option.{Option, some, none}
use native.Mathlib.Omega.{arith}
use mathlib.Core.List.{List}
use lib.Dec.{leb}
use lib.ListN.{get_or}
use borrow.Author.Tests.{leb-true}
use denote.Enum.Bare.{sameb}
use Rattle.std.specs.Prelude.{Result, Ok, Err, IsErrAnd}
use Rattle.std.specs.Prelude as code
use Rattle.std.specs.Result.{result_ok}
use Rattle.rules.proofs.Laws.Passes.{Which, which, yes', no', and_both}
use Rattle.rules.proofs.Laws.Clash.{clash}
use Rattle.text.specs.Line.{next_line}
use Rattle.text.specs.Form.{read_form, form_of}
use Rattle.text.specs.declared.Cursor.{Cursor}
use Rattle.plan_tree.specs.declared.Line.{Line}
use Rattle.plan_tree.specs.declared.Refused.{Refused}
use Rattle.plan_tree.specs.declared.Kind.{Kind}
use Rattle.plan_tree.specs.declared.Kind.TheVariants.{Close, Node, Empty, Hub, Other}
use Rattle.plan_tree.specs.contracts.Kind.{the_type}
use Rattle.plan_tree.specs.Kind.{is_hub}
use Rattle.plan_tree.specs.Part.{Found, Whole, Missing, found, row_number, told_line}
use Rattle.header.specs.Figure.{Got, Not, told_figure}
use Rattle.header.specs.Lines.{in_range, figure_at, figure_of, figure_on, optional_of, optional_on}

-- an error handed on by `?`
pub refused : (r : Result (ℕ × Cursor) Refused) (e : Refused) → IsErrAnd r (λ x. x ≡ e) → told_figure r ≡ Not e.line (row_number e.row)
refused (Ok x) e h = absurd h
refused (Err d) e h = ap (λ (x : Refused). Not x.line (row_number x.row)) h

-- a form, or none, of the line
module _ (number : ℕ) (next : Cursor) where
  pub figure_none : (low high : ℕ) (o : Option (List ℕ)) → code.None ≡ form_of o → Not number 1 ≡ figure_of o number next low high
  unfolding form_of
  figure_none low high none e = refl
  figure_none low high (some ns) e = clash (cc)

  pub figure_some : (low high : ℕ) (xs : List ℕ) (o : Option (List ℕ)) → code.Some xs ≡ form_of o
      → in_range (get_or xs 0 0) low high number next ≡ figure_of o number next low high
  unfolding form_of
  figure_some low high xs none e = clash (cc)
  figure_some low high xs (some ns) e = let same : get_or xs 0 0 ≡ get_or ns 0 0 = cc in rw same

  pub optional_none : (o : Option (List ℕ)) → code.None ≡ form_of o → code.None ≡ optional_of o next
  unfolding form_of
  optional_none none e = refl
  optional_none (some ns) e = clash (cc)

  pub optional_some : (xs : List ℕ) (o : Option (List ℕ)) → code.Some xs ≡ form_of o → code.Some (get_or xs 0 0, next) ≡ optional_of o next
  unfolding form_of
  optional_some xs none e = clash (cc)
  optional_some xs (some ns) e = let same : get_or xs 0 0 ≡ get_or ns 0 0 = cc in rw same

-- a line, or none, where it is looked at as an `Option`
pub no_line : (r : Result Line Refused) (word : List ℕ) (count : ℕ) → code.None ≡ result_ok r → code.None ≡ optional_on (told_line r) word count
no_line (Ok x) word count e = clash (cc)
no_line (Err d) word count e = refl

pub a_line : (r : Result Line Refused) (x : Line) → code.Some x ≡ result_ok r → Whole x.bytes.now x.number x.next ≡ told_line r
a_line (Ok y) x e = let same : x ≡ y = cc in rw same
a_line (Err d) x e = clash (cc)

-- the code's `!=` with the kind of a hub's line
pub other_kind : (kind : Kind) {other : Bool} → not (sameb the_type kind Hub) ≡ other → is_hub kind ≡ not other
other_kind Close e = ap not e
other_kind Node e = ap not e
other_kind Empty e = ap not e
other_kind Hub e = ap not e
other_kind Other e = ap not e

-- a figure that was read is in its range
module _ (low high x : ℕ) (next : Cursor) where
  by_form : (form : Option (List ℕ)) (n : ℕ) (after : Cursor) → figure_of form n after low high ≡ Got x next → (low ≤ x) × (x ≤ high)
  by_form (some ns) n after g = by_test (which (leb low y && leb y high))
    where
      y : ℕ
      y = get_or ns 0 0

      by_test : Which (leb low y && leb y high) → (low ≤ x) × (x ≤ high)
      by_test (yes' t) =
          let same : y ≡ x = let h = simp t at g in cc in
          let both = and_both (leb low y) (leb y high) t in
          let l = leb-true low y both.0 in
          let u = leb-true y high both.1 in
          (omega arith, omega arith)
      by_test (no' t) = let h = simp t at g in clash (cc)
  by_form none n after g = clash (cc)

  by_line : (word : List ℕ) (line : Found) → figure_on line word low high ≡ Got x next → (low ≤ x) × (x ≤ high)
  by_line word (Whole bytes number after) g = by_form (read_form word 1 bytes) number after g
  by_line word (Missing line number) g = clash (cc)

  pub figure_range : (text : List ℕ) (c : Cursor) (word : List ℕ) → figure_at text c word low high ≡ Got x next → (low ≤ x) × (x ≤ high)
  unfolding figure_at
  figure_range text c word e = by_line word (found text (next_line text c)) e
