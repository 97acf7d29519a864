-- The head of the tables: T, O, D, N, H, the framing and whether the plan is strict, and that good figures are in their ranges.
use Prim.Native.Nat.{ℕ, ◌<◌}
use mathlib.Core.Path.{◌≡◌, refl, ap, ◌∙◌}
use mathlib.Core.Bool.{Bool, true, false}
use mathlib.Core.List.{List}
use native.Mathlib.Omega.{arith}
use lib.Dec.{lit<}
use lib.ListN.{length, set, length-set}
use lib.Seq.{get_or-set_same, get_or-set_other}
use Rattle.rules.specs.Plan.{longest_in}
use Rattle.rules.specs.Drawn as rules_drawn
use Rattle.plan_tree.specs.Tables.{cells}
use Rattle.plan.specs.Tables.{Figures, frame_cell, overhead_cell, interrupt_cell, nodes_cell, hubs_cell, framing_cell, strict_cell, strict_code, strict_of, plan_of, put_figures}
use Rattle.plan_theory.specs.Tree.{good_figures}
use Rattle.plan_theory.proofs.Tables.Puts.{cell}
use Rattle.plan_theory.proofs.Tree.Figures.{good_ranges}

set-behind : (s : List ℕ) (i j v : ℕ) → j < i → cell (set s i v) j ≡ cell s j
set-behind s i j v d = get_or-set_other s i j v 0 (λ e. omega arith)

-- the number of a strict plan is read as strict, and the other's as not
code_strict : (b : Bool) → strict_of (strict_code b) ≡ b
code_strict true = refl
code_strict false = refl

module _ (fig : Figures) (n h : ℕ) (t : List ℕ) (full : length t ≡ cells) where
  -- the cells with the figures up to one of them
  abbrev with_frame : List ℕ
  with_frame = set t frame_cell fig.frame

  abbrev with_overhead : List ℕ
  with_overhead = set with_frame overhead_cell fig.overhead

  abbrev with_interrupt : List ℕ
  with_interrupt = set with_overhead interrupt_cell fig.interrupt

  abbrev with_nodes : List ℕ
  with_nodes = set with_interrupt nodes_cell n

  abbrev with_hubs : List ℕ
  with_hubs = set with_nodes hubs_cell h

  pub frame_is : (plan_of (put_figures fig n h t)).frame ≡ fig.frame
  unfolding plan_of put_figures
  frame_is = simp (set-behind, lit<, tt {0}) (get_or-set_same t frame_cell fig.frame 0 (omega arith))

  pub overhead_is : (plan_of (put_figures fig n h t)).overhead ≡ fig.overhead
  unfolding plan_of put_figures
  overhead_is = simp (set-behind, lit<, tt {0}) (get_or-set_same with_frame overhead_cell fig.overhead 0 (simp length-set (omega arith)))

  pub interrupt_is : (plan_of (put_figures fig n h t)).interrupt ≡ fig.interrupt
  unfolding plan_of put_figures
  interrupt_is = simp (set-behind, lit<, tt {0}) (get_or-set_same with_overhead interrupt_cell fig.interrupt 0 (simp length-set (omega arith)))

  pub nodes_is : (plan_of (put_figures fig n h t)).nodes ≡ n
  unfolding plan_of put_figures
  nodes_is = simp (set-behind, lit<, tt {0}) (get_or-set_same with_interrupt nodes_cell n 0 (simp length-set (omega arith)))

  pub hubs_is : (plan_of (put_figures fig n h t)).hubs ≡ h
  unfolding plan_of put_figures
  hubs_is = simp (set-behind, lit<, tt {0}) (get_or-set_same with_nodes hubs_cell h 0 (simp length-set (omega arith)))

  pub framing_is : (plan_of (put_figures fig n h t)).framing ≡ fig.framing
  unfolding plan_of put_figures
  framing_is = simp (set-behind, lit<, tt {0}) (get_or-set_same with_hubs framing_cell fig.framing 0 (simp length-set (omega arith)))

  pub strict_is : (plan_of (put_figures fig n h t)).strict ≡ fig.strict
  unfolding plan_of put_figures
  strict_is =
      let with_framing : List ℕ = set with_hubs framing_cell fig.framing in
      ap strict_of (get_or-set_same with_framing strict_cell (strict_code fig.strict) 0 (simp length-set (omega arith))) ∙ code_strict fig.strict

pub figures_good : (fig : Figures) (n h : ℕ) (t : List ℕ) → length t ≡ cells → good_figures fig ≡ true
    → rules_drawn.Figures (plan_of (put_figures fig n h t))
figures_good fig n h t full e =
    let r = good_ranges fig e in
    let T = frame_is fig n h t full in
    let O = overhead_is fig n h t full in
    let D = interrupt_is fig n h t full in
    let longest = ap longest_in (framing_is fig n h t full) in
    record {
      frame_low = omega (arith, r.frame_low);
      frame_up = omega (arith, r.frame_high);
      overhead_up = omega (arith, r.overhead_high);
      interrupt_low = omega (arith, r.interrupt_low);
      interrupt_up = omega (arith, r.interrupt_high);
    }
