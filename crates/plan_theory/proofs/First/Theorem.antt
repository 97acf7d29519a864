-- A refused plan is decided by its line: the first from above to which a row applies, and that line's first row. Assumes nothing.
use Prim.Native.Nat.{ℕ, zero, suc, ◌+◌, ◌^◌, ◌≤◌, ◌<◌}
use mathlib.Core.Path.{◌≡◌, refl, sym, ap, ◌∙◌, subst}
use mathlib.Core.List.{List}
use native.Mathlib.Omega.{arith}
use native.Mathlib.Numerals.{add-one}
use borrow.Author.Tests.{leb-true, leb-false}
use lib.Dec.{leb}
use Rattle.rules.proofs.Laws.Passes.{Which, which, yes', no', true-false, unless}
use Rattle.text.specs.Line.{Lines, nothing, unended, ended, lines, next_number}
use Rattle.plan.specs.Reading.{frame_line, reading}
use Rattle.plan_theory.specs.Tree.{Header, figures_of, meant, Hub, draw, fits, good_figures, good_framing}
use Rattle.plan_theory.specs.Taken.{RefusedAt}
use Rattle.plan_theory.specs.First.{first_lines, Formed, RowApplies, row_1, row_4, row_2, row_3, row_3_node, place, DecidedBy}
use Rattle.plan_theory.proofs.Tree.Optional.{small_numberless}
use Rattle.plan_theory.proofs.First.Places.{Headed, Follows, Says, says_1, says_4, says_2, says_3, says_3_node, Clean}
use Rattle.plan_theory.proofs.First.Deciding.{later, Decides}
use Rattle.plan_theory.proofs.First.Root.{StrictPlans}
use Rattle.plan_theory.proofs.First.Header.{WholePlans, frame_decides}

-- lines are counted one by one as long as 64 bits hold the count
later-sum : (k n : ℕ) → k + n < 2 ^ 64 → later k n ≡ k + n
unfolding later
later-sum zero n h = omega arith
later-sum (suc k) n h =
    let e : next_number n ≡ n + 1 = omega arith in
    later-sum k (next_number n) (omega arith) ∙ omega arith

-- the plans of the first line are the drawings
abbrev header_of : WholePlans.What → Header
header_of w = record { frame = w.0; overhead = w.2.0; interrupt = w.2.2.0; framing = w.2.2.2.0; strict = w.2.2.2.2.0 }

abbrev tree_of : WholePlans.What → Hub
tree_of w = w.2.2.2.2.2

whole_drawn : (w : WholePlans.What) (rest : Lines) → WholePlans.drawn w rest ≡ draw (header_of w) (tree_of w) rest
unfolding draw
whole_drawn w rest = refl

formed : (ls : Lines) (n : ℕ) → Follows WholePlans ls n → Formed ls n
formed ls n d =
    let w = d.what in
    record {
      fig = header_of w;
      tree = tree_of w;
      rest = d.rest;
      small = (w.1.0, (w.2.1.0, (w.2.2.1.0, w.2.2.2.1)));
      drawn = d.same ∙ ap (first_lines n) (whole_drawn w d.rest);
    }

follows : (ls : Lines) (n : ℕ) → Formed ls n → Follows WholePlans ls n
follows ls n d =
    let fig = d.fig in
    let s = d.small in
    let strict : (StrictPlans fig.frame fig.overhead fig.interrupt (meant 3 fig.framing)).What =
    (fig.strict, small_numberless fig.strict, d.tree) in
    let w : WholePlans.What =
    (fig.frame, (s.0, tt), (fig.overhead, (s.1.0, tt), (fig.interrupt, (s.1.1.0, tt), (fig.framing, s.1.1.1, strict)))) in
    record { what = w; rest = d.rest; same = d.drawn ∙ sym (ap (first_lines n) (whole_drawn w d.rest)) }

-- the row that says no applies
applies : (ls : Lines) (n k : ℕ) → Says WholePlans ls n k → RowApplies ls n k
unfolding formed follows
applies ls n k (says_1 h) = row_1 (λ d. h (follows ls n d))
applies ls n k (says_4 d h) = row_4 (formed ls n d) (λ x. unless (good_framing (figures_of x.fig)) (h (follows ls n x)))
applies ls n k (says_2 d f h) = row_2 (formed ls n d) (λ x. unless (good_figures (figures_of x.fig)) (h (follows ls n x)))
applies ls n k (says_3 d g h) = row_3 (formed ls n d) (λ x. unless (fits x.tree) (h (follows ls n x)))
applies ls n k (says_3_node d g s z) = row_3_node (formed ls n d) (omega arith) (omega arith)

-- no earlier row applies to its line: row 1 to no line of a drawing, 4 to none with a known framing, and 2 to none with good figures
module _ (ls : Lines) (n : ℕ) (d : Follows WholePlans ls n) where
  from_4 : {j : ℕ} → RowApplies ls n j → place 4 ≤ place j
  unfolding formed
  from_4 (row_1 f) = absurd (f (formed ls n d))
  from_4 (row_4 x f) = omega arith
  from_4 (row_2 x f) = omega arith
  from_4 (row_3 x f) = omega arith
  from_4 (row_3_node x s z) = omega arith

  from_2 : WholePlans.framed d.what → {j : ℕ} → RowApplies ls n j → place 2 ≤ place j
  unfolding formed
  from_2 g (row_1 f) = absurd (f (formed ls n d))
  from_2 g (row_4 x f) = absurd (true-false g (f (formed ls n d)))
  from_2 g (row_2 x f) = omega arith
  from_2 g (row_3 x f) = omega arith
  from_2 g (row_3_node x s z) = omega arith

  from_3 : Headed WholePlans d.what → {j : ℕ} → RowApplies ls n j → place 3 ≤ place j
  unfolding formed
  from_3 g (row_1 f) = absurd (f (formed ls n d))
  from_3 g (row_4 x f) = absurd (true-false g.0 (f (formed ls n d)))
  from_3 g (row_2 x f) = absurd (true-false g.1 (f (formed ls n d)))
  from_3 g (row_3 x f) = omega arith
  from_3 g (row_3_node x s z) = omega arith

first_row_lem : (ls : Lines) (n m k : ℕ) → Says WholePlans ls n m → RowApplies ls n k → place m ≤ place k
first_row_lem ls n m k (says_1 h) r = omega arith
first_row_lem ls n m k (says_4 d h) r = from_4 ls n d r
first_row_lem ls n m k (says_2 d f h) r = from_2 ls n d f r
first_row_lem ls n m k (says_3 d g h) r = from_3 ls n d g r
first_row_lem ls n m k (says_3_node d g s z) r = from_3 ls n d g r

-- the first n lines of the first m lines
shorter : (n m : ℕ) → n ≤ m → (a : Lines) → first_lines n (first_lines m a) ≡ first_lines n a
unfolding first_lines
shorter zero m h a = refl
shorter (suc n) zero h a = absurd (omega arith)
shorter (suc n) (suc m) h nothing = refl
shorter (suc n) (suc m) h (unended l) = refl
shorter (suc n) (suc m) h (ended l rest) = ap (ended l) (shorter n m (omega arith) rest)

fewer : (ls : Lines) (n m : ℕ) → n ≤ m → Formed ls m → Formed ls n
fewer ls n m h d =
    record {
      fig = d.fig;
      tree = d.tree;
      rest = d.rest;
      small = d.small;
      drawn = sym (shorter n m h ls) ∙ ap (first_lines n) d.drawn ∙ shorter n m h (draw d.fig d.tree d.rest);
    }

-- where a plan that no row refuses goes on to a line, and none is whole before it, no row applies above that line
none_applies : (ls : Lines) (m : ℕ) → Clean WholePlans ls m → ((k : ℕ) (d : Follows WholePlans ls k) → WholePlans.size d.what ≡ k → m < k)
    → (n k : ℕ) → n ≤ m → RowApplies ls n k → ⊥
unfolding formed follows fewer
none_applies ls m c whole n k h (row_1 f) = f (fewer ls n m h (formed ls m c.it))
none_applies ls m c whole n k h (row_4 x f) = true-false c.headed.0 (f (fewer ls n m h (formed ls m c.it)))
none_applies ls m c whole n k h (row_2 x f) = true-false c.headed.1 (f (fewer ls n m h (formed ls m c.it)))
none_applies ls m c whole n k h (row_3 x f) = true-false c.fits (f (fewer ls n m h (formed ls m c.it)))
none_applies ls m c whole n k h (row_3_node d s z) =
    let late = whole n (follows ls n d) (omega arith) in
    omega arith

first_line : (ls : Lines) (m : ℕ) → Clean WholePlans ls m → ((k : ℕ) (d : Follows WholePlans ls k) → WholePlans.size d.what ≡ k → m < k)
    → (n k : ℕ) → RowApplies ls n k → Which (leb n m) → m < n
first_line ls m c whole n k r (yes' h) = absurd (none_applies ls m c whole n k (leb-true n m h) r)
first_line ls m c whole n k r (no' h) = leb-false n m h

pub refused_decided : (text : List ℕ) (line number : ℕ) → RefusedAt text line number → DecidedBy text line number
unfolding reading Decides
refused_decided text line number e =
    let D = frame_decides (lines text) (record { at = 0; number = 1 }) line number e in
    let one = add-one D.above in
    let row = subst (λ (n : ℕ). Says WholePlans (lines text) n number) (sym one) D.row in
    record {
      above = D.above;
      its_number = λ h. D.its_number ∙ later-sum D.above 1 h;
      row = applies (lines text) (D.above + 1) number row;
      first_line = λ n k r. omega (arith, first_line (lines text) D.above D.clean D.whole n k r (which (leb n D.above)));
      first_row = λ k r. first_row_lem (lines text) (D.above + 1) number k row r;
      none_above = λ short s. ap (λ (x : Lines). (frame_line x (record { at = 0; number = 1 })).answer) s ∙ D.none_above;
      none_below = λ other s. D.none_below (lines other) (rw (← add-one D.above) s);
    }
