-- The three figures and the framing's line: the plans at each of these lines, and that a reading of them decides by a line. Assumes
-- nothing.
use Prim.Native.Nat.{ℕ, ◌+◌, ◌≤◌}
use mathlib.Core.Path.{◌≡◌, refl, sym, subst}
use mathlib.Core.Bool.{Bool, true, false, ◌&&◌, ◌||◌, not}
use mathlib.Core.List.{List, [], ◌∷◌}
use mathlib.Core.Option.{Option, none, some}
use native.Mathlib.Omega.{arith}
use borrow.Author.Tests.{leb-true, le-leb, ltb-true, ltb-false}
use lib.Dec.{eqb, leb, ltb}
use Rattle.std.specs.Prelude.{if◌then◌else◌}
use Rattle.rules.specs.Plan.{longest_in}
use Rattle.rules.proofs.Laws.Lengths.{longest_low}
use Rattle.rules.proofs.Laws.Passes.{true-false, and_both}
use Rattle.text.specs.Line.{Lines, ended}
use Rattle.text.specs.Form.{draw_form, read_form}
use Rattle.text.specs.declared.Cursor.{Cursor}
use Rattle.plan_tree.specs.Kind.{hub_word}
use Rattle.plan.specs.Words.{frame_word, overhead_word, interrupt_word, framing_word, strict_word}
use Rattle.plan.specs.Tables.{Figures}
use Rattle.plan.specs.Reading.{Read, next, refusal, on_line, figure, unless_row, strict_line, framing_row, framing_line, interrupt_line, overhead_line, frame_line}
use Rattle.plan_theory.specs.Tree.{draw_hub, meant, stands, no_number, draw_optional, good_figures, good_framing}
use Rattle.plan_theory.proofs.Tree.Figures.{figures, good_ranges, ranges_good}
use Rattle.plan_theory.proofs.Tree.Optional.{number, read-line, form_of, hub_not_framing, strict_not_framing, no_form_first}
use Rattle.plan_theory.proofs.First.Places.{Plans, Headed, unformed, unframed, out_of_range}
use Rattle.plan_theory.proofs.First.Deciding.{Decides, AtLine, says, Starts, decides}
use Rattle.plan_theory.proofs.First.FormLines.{ByRow, no_row, by_row, FormPlans, at_form, no_form, OptionalPlans, optional-place}
use Rattle.plan_theory.proofs.First.Root.{StrictPlans, one_node, one_node_fits, strict_place}

-- the framing's line, or none where framing 3 is meant
abbrev pub FramingPlans : ℕ → ℕ → ℕ → Plans
FramingPlans T O D = OptionalPlans number framing_word (λ o. StrictPlans T O D (meant 3 o))

abbrev pub InterruptPlans : ℕ → ℕ → Plans
InterruptPlans T O = FormPlans number interrupt_word (λ D. FramingPlans T O D)

abbrev pub OverheadPlans : ℕ → Plans
OverheadPlans T = FormPlans number overhead_word (λ O. InterruptPlans T O)

abbrev pub WholePlans : Plans
WholePlans = FormPlans number frame_word (λ T. OverheadPlans T)

-- A figure's line: what may follow each figure, of which a good one is in its range; some plan with a known framing may, and one
-- that no row refuses; behind a figure in its range the reading decides.
module _ (word : List ℕ) (low high : ℕ) (Q : ℕ → Plans) (more : ℕ → Lines → Cursor → Read) where
  abbrev P : Plans
  P = FormPlans number word Q

  record Behind : Type 0 where
    ranged : (x : ℕ) (w : (Q x).What) → (Q x).good w → (low ≤ x) × (x ≤ high)
    any : (x : ℕ) → (Q x).What
    framed : (x : ℕ) → (Q x).framed (any x)
    clean : P.What
    headed : Headed P clean
    fits : P.fits clean
    decides_behind : (x : ℕ) → low ≤ x → x ≤ high → (ls : Lines) (c : Cursor) → Decides (Q x) (λ y. more x y c) ls c.number

  module _ (b : Behind) where
    abbrev row : ℕ → ℕ
    row x = if leb low x && leb x high then 0 else 2

    by_range : (x : ℕ) → ByRow (Q x) (more x) (row x)
    by_range x = go (leb low x && leb x high) refl
      where
        go : (t : Bool) → (leb low x && leb x high) ≡ t → ByRow (Q x) (more x) (if t then 0 else 2)
        go true h =
            let p = and_both (leb low x) (leb x high) h in
            no_row (λ ls c. b.decides_behind x (leb-true low x p.0) (leb-true x high p.1) ls c)
        go false h =
            by_row 2 refl
            (out_of_range (Q x) (b.any x) (b.framed x)
            (λ w g.
            (let range = b.ranged x w g in
            true-false (rw (le-leb low x range.0, le-leb x high range.1)) h)))

    module _ (c : Cursor) where
      abbrev reads : Lines → Read
      reads x = on_line x c (λ l rest. figure (read_form word 1 l) low high c (λ n. more n rest (next c l)))

      figure_starts : Starts P reads c
      figure_starts =
          record {
            at_end = refl;
            at_unended = λ l. refl;
            begins = λ w r. (draw_form word (w.0 ∷ []), (Q w.0).drawn w.2 r, refl);
            sized = λ w. omega arith;
            what = b.clean;
            headed = b.headed;
            fits = b.fits;
          }

      range_row : (t : Bool) (m : Read) → (if t then m else refusal c 2) ≡ unless_row (if t then 0 else 2) c m
      range_row true m = refl
      range_row false m = refl

      figure-line : (l : List ℕ) (rest : Lines) (o : Option (List ℕ)) → read_form word 1 l ≡ o → AtLine P reads c l rest
      figure-line l rest none e = says 1 (λ after. rw e) (unformed P l rest (no_form number word Q l e))
      figure-line l rest (some ns) e =
          let d = form_of number word l ns e in
          let x = d.what in
          subst (λ (y : List ℕ). AtLine P reads c y rest) (sym d.drawn)
          (at_form number word Q x d.small (more x) (by_range x) reads c
          (λ after. rw (read-line number word x d.small) (range_row (leb low x && leb x high) (more x after (next c (draw_form word (x ∷ [])))))) rest)

      figure_decides : (ls : Lines) → Decides P reads ls c.number
      figure_decides ls = decides (record { starts = figure_starts; at_line = λ l rest. figure-line l rest (read_form word 1 l) refl }) ls

-- the plan of one node without a line that may be missing
abbrev plainest : (T O D : ℕ) → (FramingPlans T O D).What
plainest T O D = (none, tt, (none, tt, one_node))

-- behind a good frame and a good overhead
module _ (T O : ℕ) (low : 100000 ≤ T) (high : T ≤ 4000000) (o : O ≤ 50000) where
  ranges : (D framing : ℕ) → longest_in framing + O ≤ D → D ≤ T → (strict : Bool) → good_figures (figures T O D framing strict) ≡ true
  ranges D framing p q strict =
      ranges_good (figures T O D framing strict) (record { frame_low = low; frame_high = high; overhead_high = o; interrupt_low = p; interrupt_high = q })

  -- the framing's line, behind an interrupt time that framing 3 allows
  module _ (D : ℕ) (p : longest_in 3 + O ≤ D) (q : D ≤ T) where
    module _ (framing : ℕ) where
      abbrev fig : Bool → Figures
      fig strict = figures T O D framing strict

      abbrev Q : Plans
      Q = StrictPlans T O D framing

      by_length : ((strict : Bool) → good_framing (fig strict) ≡ true) → (t : Bool) → ltb D (longest_in framing + O) ≡ t
          → ByRow Q (λ x c. strict_line T O D framing x c) (if t then 2 else 0)
      by_length f true h =
          by_row 2 refl
          (out_of_range Q (none, tt, one_node) (f false)
          (λ w g. omega (arith, (good_ranges (fig (stands w.0)) g).interrupt_low, ltb-true D (longest_in framing + O) h)))
      by_length f false h =
          no_row (λ ls c. decides (strict_place T O D framing f (ranges D framing (ltb-false D (longest_in framing + O) h) q) c) ls)

      by_number : (t : Bool) → (eqb framing 3 || eqb framing 5) ≡ t
          → ByRow Q (λ x c. strict_line T O D framing x c) (if not t then 4 else (if ltb D (longest_in framing + O) then 2 else 0))
      unfolding good_framing
      by_number true h = by_length (λ strict. h) (ltb D (longest_in framing + O)) refl
      by_number false h = by_row 4 refl (unframed Q (none, tt, one_node) (λ w f. true-false f h))

    -- neither `(strict)` nor the root's line is a framing's line
    not_framing : (o : Option (Unit {0})) (ls after : Lines) (l : List ℕ)
        → draw_optional strict_word no_number o (ended hub_word ls) ≡ ended l after → read_form framing_word 1 l ≡ none
    not_framing o ls after l e =
        no_form_first framing_word 1 (draw_optional strict_word no_number o (ended hub_word ls))
        (strict_not_framing o (ended hub_word ls) (hub_not_framing ls)) l after e

    framing_decides : (ls : Lines) (c : Cursor) → Decides (FramingPlans T O D) (λ x. framing_line T O D x c) ls c.number
    unfolding framing_line good_framing
    framing_decides ls c =
        decides
        (optional-place number framing_word (λ o. StrictPlans T O D (meant 3 o)) (framing_row O D)
        (λ framing x d. strict_line T O D framing x d) (λ x. strict_line T O D 3 x c) c
        (record {
          without = strict_place T O D 3 (λ strict. refl) (ranges D 3 p q) c;
          apart = λ w r after l e. not_framing w.0 (draw_hub w.2 r) after l e;
          behind = λ x. by_number x (eqb x 3 || eqb x 5) refl;
        })) ls

  -- the interrupt's line
  interrupt_decides : (ls : Lines) (c : Cursor) → Decides (InterruptPlans T O) (λ x. interrupt_line T O x c) ls c.number
  unfolding interrupt_line good_framing
  interrupt_decides ls c =
      figure_decides interrupt_word (longest_in 3 + O) T (λ D. FramingPlans T O D) (λ D x d. framing_line T O D x d)
      (record {
        ranged = λ D w g.
            (let framing = meant 3 w.0 in
            let r = good_ranges (figures T O D framing (stands w.2.0)) g in
            (omega (arith, r.interrupt_low, longest_low framing), r.interrupt_high));
        any = λ D. plainest T O D;
        framed = λ D. refl;
        clean = (T, (omega arith, tt), plainest T O T);
        headed = (refl, ranges T 3 (omega arith) (omega arith) false);
        fits = one_node_fits;
        decides_behind = λ D p q ls c. framing_decides D p q ls c;
      }) c ls

-- the overhead's line, behind a good frame
overhead_decides : (T : ℕ) → 100000 ≤ T → T ≤ 4000000 → (ls : Lines) (c : Cursor) → Decides (OverheadPlans T) (λ x. overhead_line T x c) ls c.number
unfolding overhead_line good_framing
overhead_decides T low high ls c =
    figure_decides overhead_word 0 50000 (λ O. InterruptPlans T O) (λ O x d. interrupt_line T O x d)
    (record {
      ranged = λ O w g. (let r = good_ranges (figures T O w.0 (meant 3 w.2.0) (stands w.2.2.0)) g in (omega arith, r.overhead_high));
      any = λ O. (0, (omega arith, tt), plainest T O 0);
      framed = λ O. refl;
      clean = (0, (omega arith, tt), (T, (omega arith, tt), plainest T 0 T));
      headed = (refl, ranges T 0 low high (omega arith) T 3 (omega arith) (omega arith) false);
      fits = one_node_fits;
      decides_behind = λ O p q ls c. interrupt_decides T O low high q ls c;
    }) c ls

-- the frame's line, the first
pub frame_decides : (ls : Lines) (c : Cursor) → Decides WholePlans (λ x. frame_line x c) ls c.number
unfolding frame_line good_framing
frame_decides ls c =
    figure_decides frame_word 100000 4000000 (λ T. OverheadPlans T) (λ T x d. overhead_line T x d)
    (record {
      ranged = λ T w g. (let r = good_ranges (figures T w.0 w.2.0 (meant 3 w.2.2.0) (stands w.2.2.2.0)) g in (r.frame_low, r.frame_high));
      any = λ T. (0, (omega arith, tt), (0, (omega arith, tt), plainest T 0 0));
      framed = λ T. refl;
      clean = (100000, (omega arith, tt), (0, (omega arith, tt), (100000, (omega arith, tt), plainest 100000 0 100000)));
      headed = (refl, ranges 100000 0 (omega arith) (omega arith) (omega arith) 100000 3 (omega arith) (omega arith) false);
      fits = one_node_fits;
      decides_behind = λ T p q ls c. overhead_decides T p q ls c;
    }) c ls
