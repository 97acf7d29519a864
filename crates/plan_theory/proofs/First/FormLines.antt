-- A line of the header, which is a form: the plans that begin with one, and the plans at a place where one may stand or not. A reading
-- of such a line that goes on behind it or refuses it by a row decides by a line. Assumes nothing.
use Prim.Native.Nat.{ℕ, ◌+◌, ◌≤◌}
use mathlib.Core.Path.{◌≡◌, refl, sym, ap, ◌∙◌, subst}
use mathlib.Core.Bool.{false}
use mathlib.Core.List.{List}
use mathlib.Core.Option.{Option, none, some}
use native.Mathlib.Omega.{arith}
use lib.Dec.{eqb}
use Rattle.rules.proofs.Laws.Clash.{clash}
use Rattle.text.specs.Line.{Lines, ended}
use Rattle.text.specs.Form.{read_form, Small}
use Rattle.text.specs.declared.Cursor.{Cursor}
use Rattle.plan.specs.Answer.{Refused}
use Rattle.plan.specs.Reading.{Read, next, optional, unless_row}
use Rattle.plan_theory.specs.Tree.{draw_optional}
use Rattle.plan_theory.specs.Behind.{lines_optional}
use Rattle.plan_theory.specs.First.{numbers_of}
use Rattle.plan_theory.proofs.Tree.Optional.{Numbers, told, line_of, read-line, one_line, form_of}
use Rattle.plan_theory.proofs.First.Places.{Plans, Says, Tied, Step, Same, Among, carried, behind-line}
use Rattle.plan_theory.proofs.First.Deciding.{Decides, AtLine, says, goes, Starts, Place, same_line}

-- behind a line, by its row: with 0 the reading goes on and decides, else the row applies because of what may follow
pub data ByRow (Q : Plans) (more : Lines → Cursor → Read) : ℕ → Type 0 where
  no_row : ((ls : Lines) (c : Cursor) → Decides Q (λ x. more x c) ls c.number) → ByRow Q more 0
  by_row : (m : ℕ) → eqb m 0 ≡ false → ((ls : Lines) → Says Q ls 0 m) → ByRow Q more m

module _ {N : Type 0} {count : ℕ} (H : Numbers N count) (word : List ℕ) where
  abbrev line : N → List ℕ
  line x = line_of H word x

  -- the plans that begin with the word and numbers of at most 16 digits
  abbrev pub FormPlans : (N → Plans) → Plans
  FormPlans Q =
      record {
        What = (x : N) × Small (H.list x) × (Q x).What;
        drawn = λ w r. ended (line w.0) ((Q w.0).drawn w.2 r);
        framed = λ w. (Q w.0).framed w.2;
        good = λ w. (Q w.0).good w.2;
        fits = λ w. (Q w.0).fits w.2;
        size = λ w. 1 + (Q w.0).size w.2;
        nodes = λ w. (Q w.0).nodes w.2;
      }

  module _ (Q : N → Plans) where
    -- every plan that begins with a line has that line's numbers
    the_numbers : (x : N) → Small (H.list x) → (w : (FormPlans Q).What) (r after : Lines) → (FormPlans Q).drawn w r ≡ ended (line x) after → w.0 ≡ x
    the_numbers x small w r after e = one_line H word w.0 x w.1 small (cc)

    form_tied : (x : N) (small : Small (H.list x)) (v : (Q x).What) → Tied (FormPlans Q) (line x) (Q x) (x, small, v) v
    form_tied x small v =
        record { drawn = λ r. refl; framed = (λ f. f, λ f. f); good = (λ g. g, λ g. g); fits = (λ f. f, λ f. f); size = refl; nodes = refl }

    form_step : (x : N) → Small (H.list x) → Step (FormPlans Q) (line x) (Q x)
    form_step x small =
        record {
          down = λ w r after e.
              subst (λ (i : N). (v : (Q i).What) × Tied (FormPlans Q) (line i) (Q i) w v) (the_numbers x small w r after e)
              (w.2, form_tied w.0 w.1 w.2);
          up = λ v. ((x, small, v), form_tied x small v);
        }

    -- a reading at such a line, by the row of its numbers
    pub at_form : (x : N) → Small (H.list x) → (more : Lines → Cursor → Read) {row : ℕ} → ByRow (Q x) more row → (f : Lines → Read) (c : Cursor)
        → ((after : Lines) → f (ended (line x) after) ≡ unless_row row c (more after (next c (line x)))) → (rest : Lines) → AtLine (FormPlans Q) f c (line x) rest
    at_form x small more (no_row d) f c e rest = goes (Q x) (form_step x small) (λ y. more y (next c (line x))) e (d rest (next c (line x)))
    at_form x small more (by_row m some_row s) f c e rest =
        let refused : (r : Read) → (unless_row m c r).answer ≡ Refused c.number m = λ r. rw some_row in
        says m (λ after. ap (λ (r : Read). r.answer) (e after) ∙ refused (more after (next c (line x))))
        (carried (behind-line (form_step x small) rest 0) (s rest))

    -- no plan begins with a line that is no such form
    pub no_form : (l : List ℕ) → read_form word count l ≡ none → (w : (FormPlans Q).What) (r after : Lines) → (FormPlans Q).drawn w r ≡ ended l after → ⊥
    no_form l e w r after d =
        let same : line w.0 ≡ l = cc in
        let z : some (H.list w.0) ≡ none = sym (read-line H word w.0 w.1) ∙ ap (read_form word count) same ∙ e in
        clash (cc)

  -- a line that may be missing; where it stands, its numbers have at most 16 digits
  abbrev drawn : Option N → Lines → Lines
  drawn o rest = draw_optional word H.list o rest

  abbrev Drawable : Option N → Type 0
  Drawable o = Small (numbers_of H.list o)

  abbrev pub OptionalPlans : (Option N → Plans) → Plans
  OptionalPlans Q =
      record {
        What = (o : Option N) × Drawable o × (Q o).What;
        drawn = λ w r. drawn w.0 ((Q w.0).drawn w.2 r);
        framed = λ w. (Q w.0).framed w.2;
        good = λ w. (Q w.0).good w.2;
        fits = λ w. (Q w.0).fits w.2;
        size = λ w. lines_optional w.0 + (Q w.0).size w.2;
        nodes = λ w. (Q w.0).nodes w.2;
      }

  -- A place where the line may stand or not: without it the place is another one, whose plans begin with no such form; with it
  -- the reading goes by the row of its number, or of 0 where it has none.
  module _ (Q : Option N → Plans) (row : ℕ → ℕ) (more : ℕ → Lines → Cursor → Read) (absent : Lines → Read) (c : Cursor) where
    abbrev value : N → ℕ
    value x = told H.list x

    pub record Around : Type 1 where
      pub without : Place (Q none) absent c
      pub apart : (v : (Q none).What) (r after : Lines) (l : List ℕ) → (Q none).drawn v r ≡ ended l after → read_form word count l ≡ none
      pub behind : (x : N) → ByRow (Q (some x)) (more (value x)) (row (value x))

    module _ (a : Around) where
      abbrev P : Plans
      P = OptionalPlans Q

      abbrev Standing : Plans
      Standing = FormPlans (λ x. Q (some x))

      abbrev reads : Lines → Read
      reads x = optional word count x (λ l rest y. unless_row (row y) c (more y rest (next c l))) (absent x)

      -- at such a form the plans are those with the line, at any other line those without it
      stands : (l ns : List ℕ) → read_form word count l ≡ some ns → Among P l Standing
      stands l ns e = record { down = λ w r after d. go w.0 w.1 w.2 r after d; up = λ v. ((some v.0, v.1, v.2), same v) }
        where
          same : (v : Standing.What) → Same P Standing (some v.0, v.1, v.2) v
          same v = record { drawn = λ r. refl; framed = (λ f. f, λ f. f); good = (λ g. g, λ g. g); fits = (λ f. f, λ f. f); size = omega arith; nodes = refl }

          go : (o : Option N) (small : Drawable o) (v : (Q o).What) (r after : Lines) → drawn o ((Q o).drawn v r) ≡ ended l after
              → (u : Standing.What) × Same P Standing (o, small, v) u
          go none small v r after d = absurd (let z = sym (a.apart v r after l d) ∙ e in clash (cc))
          go (some x) small v r after d = ((x, small, v), same (x, small, v))

      misses : (l : List ℕ) → read_form word count l ≡ none → Among P l (Q none)
      misses l e = record { down = λ w r after d. go w.0 w.1 w.2 r after d; up = λ v. ((none, tt, v), same v) }
        where
          same : (v : (Q none).What) → Same P (Q none) (none, tt, v) v
          same v = record { drawn = λ r. refl; framed = (λ f. f, λ f. f); good = (λ g. g, λ g. g); fits = (λ f. f, λ f. f); size = refl; nodes = refl }

          go : (o : Option N) (small : Drawable o) (v : (Q o).What) (r after : Lines) → drawn o ((Q o).drawn v r) ≡ ended l after
              → (u : (Q none).What) × Same P (Q none) (o, small, v) u
          go none small v r after d = (v, same v)
          go (some x) small v r after d = absurd (no_form (λ x. Q (some x)) l e (x, small, v) r after d)

      optional_starts : Starts P reads c
      optional_starts =
          let s = a.without.starts in
          record {
            at_end = s.at_end;
            at_unended = s.at_unended;
            begins = λ w r. begins w.0 w.1 w.2 r;
            sized = λ w. sized w.0 w.2;
            what = (none, tt, s.what);
            headed = s.headed;
            fits = s.fits;
          }
        where
          begins : (o : Option N) → Drawable o → (v : (Q o).What) (r : Lines) → (l : List ℕ) × (after : Lines) × (drawn o ((Q o).drawn v r) ≡ ended l after)
          begins none small v r = a.without.starts.begins v r
          begins (some x) small v r = (line x, (Q (some x)).drawn v r, refl)

          sized : (o : Option N) (v : (Q o).What) → 1 ≤ lines_optional o + (Q o).size v
          sized none v = omega (arith, a.without.starts.sized v)
          sized (some x) v = omega arith

      optional-line : (l : List ℕ) (rest : Lines) (o : Option (List ℕ)) → read_form word count l ≡ o → AtLine P reads c l rest
      optional-line l rest none e = same_line (misses l e) (λ after. rw e) (a.without.at_line l rest)
      optional-line l rest (some ns) e =
          let d = form_of H word l ns e in
          let x = d.what in
          let read : read_form word count (line x) ≡ some (H.list x) = read-line H word x d.small in
          subst (λ (y : List ℕ). AtLine P reads c y rest) (sym d.drawn)
          (same_line (stands (line x) (H.list x) read) (λ after. refl)
          (at_form (λ y. Q (some y)) x d.small (more (value x)) (a.behind x) reads c (λ after. rw read) rest))

      pub optional-place : Place P reads c
      optional-place = record { starts = optional_starts; at_line = λ l rest. optional-line l rest (read_form word count l) refl }
