-- The header's lines, by what each call found. The code's proofs cite these, a case each.
use Prim.Native.Nat.{ℕ, ◌+◌, ◌-◌, ◌^◌, ◌<◌, ◌≤◌}
use mathlib.Core.Path.{◌≡◌, refl, sym, ap, ◌∙◌}
use mathlib.Core.Bool.{Bool, true, false, ◌||◌, false≢true}
use native.Mathlib.Omega.{arith}
use mathlib.Core.List.{List}
use mir.Val.{bool_byte}
use lib.Dec.{eqb, ltb}
use lib.ListN.{length}
use borrow.Author.Tests.{eqb-true, eq-eqb, ne_eqb, le-ltb, ltb-false}
use Rattle.std.specs.Prelude.{Option, Some, None, Result, Ok, Err, IsErrAnd, if◌then◌else◌}
use Rattle.std.specs.Option.{is_some, option_map_or}
use Rattle.rules.specs.Plan.{longest_in}
use Rattle.rules.proofs.Laws.Passes.{Which, which, yes', no'}
use Rattle.rules.proofs.Laws.Clash.{clash}
use Rattle.text.specs.declared.Cursor.{Cursor}
use Rattle.header.specs.Figure.{Figure, Got, Not}
use Rattle.header.specs.Lines.{figure_at, optional_at, root_at}
use Rattle.plan_tree.specs.declared.Place.{Place}
use Rattle.plan_tree.specs.declared.Refused.{Refused}
use Rattle.plan_tree.specs.Part.{Part, row_number}
use Rattle.plan_tree.specs.Part as part
use Rattle.plan_tree.specs.Tables.{no_table}
use Rattle.plan_tree.specs.Readers.{Answered, root_reader}
use Rattle.plan.specs.declared.Taken as taken
use Rattle.plan.specs.declared.figures.Figures as code
use Rattle.plan.specs.Words.{frame_word, overhead_word, interrupt_word, framing_word, strict_word}
use Rattle.plan.specs.Tables.{Figures, strict_code, put_figures}
use Rattle.plan.specs.Answer.{told_answer}
use Rattle.plan.specs.Answer as answer
use Rattle.plan.specs.Reading.{Read, unless_row, framing_row, reading}
use Rattle.plan.specs.PlanReader.{refused, plan_over, behind_figure, behind_optional, behind_root, hub_at, strict_at, framing_at, interrupt_at, overhead_at, plan_by}
use Rattle.plan.specs.Header.{framing_of, behind_figures}
use Rattle.plan.proofs.Reading.PlanBy.{plan_agrees}

-- whether a plan is strict, as a number: the code's is that of the definitions
pub byte_code : (b : Bool) → bool_byte b ≡ strict_code b
byte_code true = refl
byte_code false = refl

-- an error handed on by `?`
pub header_refused : (text : List ℕ) (left : ℕ) (r : Result (code.Figures × Cursor) Refused) (e : Refused) → IsErrAnd r (λ x. x ≡ e)
    → refused e.line (row_number e.row) ≡ behind_figures text left r
header_refused text left (Ok x) e h = absurd h
header_refused text left (Err d) e h = sym (ap (λ (x : Refused). refused x.line (row_number x.row)) h)

-- a known framing is a small number
pub known_small : (framing : ℕ) → (eqb framing 3 || eqb framing 5) ≡ true → framing ≤ 5
known_small framing e = go (eqb framing 3) (eqb framing 5) refl refl e
  where
    go : (a b : Bool) → eqb framing 3 ≡ a → eqb framing 5 ≡ b → (a || b) ≡ true → framing ≤ 5
    go true b f g h = omega (arith, eqb-true framing 3 f)
    go false true f g h = omega (arith, eqb-true framing 5 g)
    go false false f g h = absurd (false≢true h)

-- no row applies to a known framing whose longest packet D has room for, and what none applies to is such a one
pub row_none : (O D framing : ℕ) → (eqb framing 3 || eqb framing 5) ≡ true → longest_in framing + O ≤ D → framing_row O D framing ≡ 0
row_none O D framing known h = rw (known, le-ltb D (longest_in framing + O) h)

pub row_passed : (O D framing : ℕ) → framing_row O D framing ≡ 0 → ((eqb framing 3 || eqb framing 5) ≡ true) × (longest_in framing + O ≤ D)
row_passed O D framing e = by_framing (which (eqb framing 3 || eqb framing 5))
  where
    fits : (eqb framing 3 || eqb framing 5) ≡ true → Which (ltb D (longest_in framing + O)) → longest_in framing + O ≤ D
    fits known (no' f) = ltb-false D (longest_in framing + O) f
    fits known (yes' f) = let h = simp (known, f) at e in absurd (omega (arith, h))

    by_framing : Which (eqb framing 3 || eqb framing 5) → ((eqb framing 3 || eqb framing 5) ≡ true) × (longest_in framing + O ≤ D)
    by_framing (yes' known) = (known, fits known (which (ltb D (longest_in framing + O))))
    by_framing (no' other) = let h = simp other at e in absurd (omega (arith, h))

framing_small : (O D framing : ℕ) → framing_row O D framing ≡ 0 → framing ≤ 5
framing_small O D framing e = known_small framing (row_passed O D framing e).0

-- the framing that was read is small
pub framing_range : (o : Option (ℕ × Cursor)) (c : Cursor) (O D framing : ℕ) (next : Cursor) → Got framing next ≡ framing_of o c O D → framing ≤ 5
framing_range None c O D framing next e = let same : framing ≡ 3 = cc in omega arith
framing_range (Some x) c O D framing next e = by_row (which (eqb (framing_row O D x.0) 0))
  where
    by_row : Which (eqb (framing_row O D x.0) 0) → framing ≤ 5
    by_row (yes' z) = let h = simp z at e in let same : framing ≡ x.0 = cc in rw same (framing_small O D x.0 (eqb-true _ 0 z))
    by_row (no' n) = let h = simp n at e in clash (cc)

-- what is read behind the framing's line
framing_read : (o : Option (ℕ × Cursor)) (c : Cursor) (O D : ℕ) (more : ℕ → Cursor → Read)
    → behind_optional o (λ framing next. unless_row (framing_row O D framing) c (more framing next)) (more 3 c) ≡ behind_figure (framing_of o c O D) more
framing_read None c O D more = refl
framing_read (Some x) c O D more = by_row (eqb (framing_row O D x.0) 0)
  where
    by_row : (b : Bool)
        → (if b then more x.0 x.1 else refused c.number (framing_row O D x.0))
        ≡ behind_figure (if b then Got x.0 x.1 else Not c.number (framing_row O D x.0)) more
    by_row true = refl
    by_row false = refl

-- the plan by the header's lines that were read so far and by what the next call found
module _ (text : List ℕ) (left : ℕ) (c : Cursor) (first : (c.at ≡ 0) × (c.number ≡ 1)) where
  start : c ≡ (record { at = 0; number = 1 })
  start = λ i. record { at = first.0 i; number = first.1 i }

  pub by_frame : {f : Figure} → f ≡ figure_at text c frame_word 100000 4000000 → plan_by text left ≡ behind_figure f (λ T next. overhead_at text left T next)
  unfolding plan_by
  by_frame e = ap (λ (f : Figure). behind_figure f (λ T next. overhead_at text left T next)) (sym (e ∙ ap (λ (x : Cursor). figure_at text x frame_word 100000 4000000) start))

  module _ (T : ℕ) (c1 : Cursor) (frame : Got T c1 ≡ figure_at text c frame_word 100000 4000000) where
    pub by_overhead : {f : Figure} → f ≡ figure_at text c1 overhead_word 0 50000 → plan_by text left ≡ behind_figure f (λ O next. interrupt_at text left T O next)
    by_overhead e = by_frame frame ∙ ap (λ (f : Figure). behind_figure f (λ O next. interrupt_at text left T O next)) (sym e)

    module _ (O : ℕ) (c2 : Cursor) (overhead : Got O c2 ≡ figure_at text c1 overhead_word 0 50000) where
      pub by_interrupt : {f : Figure} → f ≡ figure_at text c2 interrupt_word (longest_in 3 + O) T
          → plan_by text left ≡ behind_figure f (λ D next. framing_at text left T O D next)
      by_interrupt e = by_overhead overhead ∙ ap (λ (f : Figure). behind_figure f (λ D next. framing_at text left T O D next)) (sym e)

      module _ (D : ℕ) (c3 : Cursor) (interrupt : Got D c3 ≡ figure_at text c2 interrupt_word (longest_in 3 + O) T) where
        pub by_framing : {f : Figure} → f ≡ framing_of (optional_at text c3 framing_word 1) c3 O D
            → plan_by text left ≡ behind_figure f (λ framing next. strict_at text left T O D framing next)
        by_framing e =
            by_interrupt interrupt
            ∙ framing_read (optional_at text c3 framing_word 1) c3 O D (λ framing next. strict_at text left T O D framing next)
            ∙ ap (λ (f : Figure). behind_figure f (λ framing next. strict_at text left T O D framing next)) (sym e)

-- behind the framing, by the line `(strict)` or without it
module _ (text : List ℕ) (left T O D framing : ℕ) (c : Cursor) where
  strict_found : (o : Option (ℕ × Cursor))
      → behind_optional o (λ _ next. hub_at text left (record { frame = T; overhead = O; interrupt = D; framing = framing; strict = true }) next)
      (hub_at text left (record { frame = T; overhead = O; interrupt = D; framing = framing; strict = false }) c)
      ≡ hub_at text left (record { frame = T; overhead = O; interrupt = D; framing = framing; strict = is_some o }) (option_map_or (λ (x : ℕ × Cursor). x.1) o c)
  strict_found None = refl
  strict_found (Some x) = refl

  pub by_strict : {o : Option (ℕ × Cursor)} {strict : Bool} {next : Cursor} → o ≡ optional_at text c strict_word 0 → strict ≡ is_some o
      → next ≡ option_map_or (λ (x : ℕ × Cursor). x.1) o c
      → strict_at text left T O D framing c
      ≡ hub_at text left (record { frame = T; overhead = O; interrupt = D; framing = framing; strict = strict }) next
  by_strict e s n = strict_found (optional_at text c strict_word 0) ∙ rw (← e, s, n)

-- a plan that is refused, handed on by `?`
pub plan_refused : (r : Result taken.Taken Refused) (e : Refused) → IsErrAnd r (λ x. x ≡ e) → told_answer r ≡ answer.Refused e.line (row_number e.row)
plan_refused (Ok x) e h = absurd h
plan_refused (Err d) e h = ap (λ (x : Refused). answer.Refused x.line (row_number x.row)) h

-- the whole plan, by what its header gave
pub read_by : (text : List ℕ) (fits : length text < 2 ^ 64) {r : Read} → plan_by text (length text) ≡ r → reading text ≡ r
read_by text fits e = plan_agrees text (length text) (omega arith) fits ∙ e

-- the plan behind its header, by what the root's line and the hub reader gave
module _ (r : Read) (text : List ℕ) (fig : Figures) (c : Cursor) (header : r ≡ hub_at text (length text) fig c) where
  pub by_root : {p : Part} → p ≡ root_at text c → r ≡ plan_over fig (behind_root p (λ x. root_reader text (length text) x no_table))
  by_root e = header ∙ ap (λ (p : Part). plan_over fig (behind_root p (λ x. root_reader text (length text) x no_table))) (sym e)

  module _ (x : Place) (root : part.Read x ≡ root_at text c) where
    abbrev tree : Answered
    tree = root_reader text (length text) x no_table

    pub by_tree : {p : Part} {t : List ℕ} → p ≡ tree.part → t ≡ tree.tables → r ≡ plan_over fig (record { part = p; tables = t })
    by_tree e f =
        by_root root ∙ sym (ap {A = Answered} (plan_over fig) (λ i. record { part = e i; tables = f i }))

    module _ (y : Place) (t : List ℕ) (end : part.Read y ≡ tree.part) (tables : t ≡ tree.tables) where
      pub no_node : y.nodes ≡ 0 → r ≡ refused (y.number - 1) 3
      no_node z = by_tree end tables ∙ rw (eq-eqb y.nodes 0 z)

      pub some_node : (y.nodes ≡ 0 → ⊥)
          → r ≡ (record { answer = answer.Taken y.nodes y.hubs y.at y.number; tables = put_figures fig y.nodes y.hubs t })
      some_node n = by_tree end tables ∙ rw (ne_eqb y.nodes 0 n)
