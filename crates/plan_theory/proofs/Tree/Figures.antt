-- The figures of a plan: their ranges as facts, which framings are known and what the framing's rows leave, and
-- a figure's line read from its drawing. Assumes nothing.
use Prim.Native.Nat.{ℕ, ◌+◌, ◌≤◌, ◌<◌, ◌^◌}
use mathlib.Core.Path.{◌≡◌, refl}
use mathlib.Core.Bool.{Bool, true, ◌&&◌}
use mathlib.Core.List.{List, [], ◌∷◌}
use native.Mathlib.Omega.{arith}
use borrow.Author.Tests.{leb-true, le-leb}
use lib.Dec.{leb}
use lib.ListN.{length, get_or}
use Rattle.rules.specs.Plan.{longest_in}
use Rattle.text.specs.Form.{draw_form, read_form}
use Rattle.text.specs.declared.Cursor.{Cursor}
use Rattle.text.proofs.Words.{both}
use Rattle.text.proofs.Forms.{read_drawn}
use Rattle.plan.specs.Tables.{Figures}
use Rattle.plan.specs.Reading.{Read, figure, framing_row}
use Rattle.plan.proofs.PlanLaws.{row_none, row_passed, known_small}
use Rattle.plan_theory.specs.Tree.{good_figures, good_framing}

-- the figures that the header's lines say, one by one
abbrev pub figures : ℕ → ℕ → ℕ → ℕ → Bool → Figures
figures T O D framing strict = record { frame = T; overhead = O; interrupt = D; framing = framing; strict = strict }

-- the ranges of document 01
pub record Ranges (fig : Figures) : Type 0 where
  pub frame_low : 100000 ≤ fig.frame
  pub frame_high : fig.frame ≤ 4000000
  pub overhead_high : fig.overhead ≤ 50000
  pub interrupt_low : longest_in fig.framing + fig.overhead ≤ fig.interrupt
  pub interrupt_high : fig.interrupt ≤ fig.frame

pub good_ranges : (fig : Figures) → good_figures fig ≡ true → Ranges fig
unfolding good_figures
good_ranges fig e =
    let T : ℕ = fig.frame in
    let O : ℕ = fig.overhead in
    let D : ℕ = fig.interrupt in
    let low : ℕ = longest_in fig.framing + O in
    let d = both (leb 100000 T && leb T 4000000 && leb O 50000 && leb low D) (leb D T) e in
    let c = both (leb 100000 T && leb T 4000000 && leb O 50000) (leb low D) d.0 in
    let b = both (leb 100000 T && leb T 4000000) (leb O 50000) c.0 in
    let a = both (leb 100000 T) (leb T 4000000) b.0 in
    record {
      frame_low = leb-true 100000 T a.0;
      frame_high = leb-true T 4000000 a.1;
      overhead_high = leb-true O 50000 b.1;
      interrupt_low = leb-true low D c.1;
      interrupt_high = leb-true D T d.1;
    }

pub ranges_good : (fig : Figures) → Ranges fig → good_figures fig ≡ true
unfolding good_figures
ranges_good fig r =
    rw (
      le-leb 100000 fig.frame r.frame_low,
      le-leb fig.frame 4000000 r.frame_high,
      le-leb fig.overhead 50000 r.overhead_high,
      le-leb (longest_in fig.framing + fig.overhead) fig.interrupt r.interrupt_low,
      le-leb fig.interrupt fig.frame r.interrupt_high,
    )

module _ (fig : Figures) where
  pub framing_small : good_framing fig ≡ true → fig.framing < 10 ^ 16
  unfolding good_framing
  framing_small e = omega (arith, known_small fig.framing e)

  -- what the framing's rows leave is a known framing, and an interrupt time that its longest packet fits
  pub no_row : good_framing fig ≡ true → longest_in fig.framing + fig.overhead ≤ fig.interrupt
      → framing_row fig.overhead fig.interrupt fig.framing ≡ 0
  unfolding good_framing
  no_row known fits = row_none fig.overhead fig.interrupt fig.framing known fits

  pub good_row : framing_row fig.overhead fig.interrupt fig.framing ≡ 0
      → (good_framing fig ≡ true) × (longest_in fig.framing + fig.overhead ≤ fig.interrupt)
  unfolding good_framing
  good_row e = row_passed fig.overhead fig.interrupt fig.framing e

-- a figure in its range is read from its drawing
pub figure_drawn : (word : List ℕ) (n low high : ℕ) (c : Cursor) (more : ℕ → Read) → low ≤ n → n ≤ high → n < 10 ^ 16
    → figure (read_form word 1 (draw_form word (n ∷ []))) low high c more ≡ more n
figure_drawn word n low high c more a b small = rw (read_drawn word (n ∷ []) (small, tt), le-leb low n a, le-leb n high b)

-- a list of no number, and of one
pub no_numbers : (ns : List ℕ) → length ns ≡ 0 → ns ≡ []
no_numbers [] e = refl
no_numbers (a ∷ ns) e = absurd (omega arith)

pub one_number_lem : (ns : List ℕ) → length ns ≡ 1 → ns ≡ get_or ns 0 0 ∷ []
one_number_lem [] e = absurd (omega arith)
one_number_lem (a ∷ []) e = refl
one_number_lem (a ∷ b ∷ ns) e = absurd (omega arith)
