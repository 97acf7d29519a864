-- The root's `(hub` and the line `(strict)`, which may stand before it: the plans at each of these lines, and that a reading of them
-- decides by a line. Assumes nothing.
use Prim.Native.Nat.{ℕ, suc}
use mathlib.Core.Path.{◌≡◌, refl, sym, ap, subst}
use mathlib.Core.Bool.{Bool, true, false}
use mathlib.Core.List.{List}
use native.Mathlib.Omega.{arith}
use Rattle.rules.proofs.Laws.Passes.{true-false}
use Rattle.text.specs.Line.{Lines, ended}
use Rattle.text.specs.Word.{is_word}
use Rattle.text.specs.declared.Cursor.{Cursor}
use Rattle.plan_tree.specs.declared.Kind.{Kind}
use Rattle.plan_tree.specs.declared.Kind.TheVariants.{Close, Node, Empty, Hub as HubKind, Other}
use Rattle.plan_tree.specs.Kind.{kind_of, is_hub, hub_word}
use Rattle.plan.specs.Words.{strict_word}
use Rattle.plan.specs.Tables.{Figures}
use Rattle.plan.specs.Reading.{next, hub_lines, begun, root_line, strict_line}
use Rattle.plan_theory.specs.Tree.{node, Hub, close, port, draw_hub, ports_of, nodes_at, nodes_in, hubs_at, hubs_in, levels_at, levels_in, widths_at, widths_in, fits, stands, good_figures, good_framing}
use Rattle.plan_theory.specs.Behind.{lines_in}
use Rattle.plan_theory.proofs.Tree.Room.{room_fits, fits_room}
use Rattle.plan_theory.proofs.Tree.Figures.{figures}
use Rattle.plan_theory.proofs.Tree.Optional.{numberless, hub_not_strict, no_form_first}
use Rattle.plan_theory.proofs.Tree.Trees.{Drawing, kind_line}
use Rattle.plan_theory.proofs.First.Places.{Plans, Tied, Step, unformed}
use Rattle.plan_theory.proofs.First.Deciding.{AtLine, says, goes, Starts, Place, decides}
use Rattle.plan_theory.proofs.First.Tails.{HubPlans, Able}
use Rattle.plan_theory.proofs.First.HubLines.{hub_decides}
use Rattle.plan_theory.proofs.First.FormLines.{no_row, OptionalPlans, optional-place}

-- the root's `(hub` and the tree behind it
abbrev pub RootPlans : Figures → Plans
RootPlans fig =
    record {
      What = Hub;
      drawn = λ t r. ended hub_word (draw_hub t r);
      framed = λ t. good_framing fig ≡ true;
      good = λ t. good_figures fig ≡ true;
      fits = λ t. fits t ≡ true;
      size = λ t. suc (lines_in t);
      nodes = λ t. nodes_in t;
    }

-- the line `(strict)`, or none where the plan isn't strict
abbrev pub StrictPlans : ℕ → ℕ → ℕ → ℕ → Plans
StrictPlans T O D framing = OptionalPlans numberless strict_word (λ o. RootPlans (figures T O D framing (stands o)))

-- one hub with one node fits
pub one_node : Hub
one_node = port node close

pub one_node_fits : fits one_node ≡ true
unfolding one_node fits ports_of widths_in widths_at hubs_in hubs_at nodes_in nodes_at levels_in levels_at
one_node_fits = refl

-- the root's `(hub`
module _ (fig : Figures) (framed : good_framing fig ≡ true) (good : good_figures fig ≡ true) where
  root_tied : (t : Hub) → Tied (RootPlans fig) hub_word (HubPlans fig begun) t (t, tt)
  root_tied t =
      record {
        drawn = λ r. refl;
        framed = (λ g. g, λ g. g);
        good = (λ g. g, λ g. g);
        fits = (λ f. (fits_room t f, tt), λ r. room_fits t r.0);
        size = omega arith;
        nodes = omega arith;
      }

  root_step : Step (RootPlans fig) hub_word (HubPlans fig begun)
  root_step = record { down = λ t r after e. ((t, tt), root_tied t); up = λ v. (v.0, root_tied v.0) }

  begun_able : Able begun
  begun_able = record { ports = omega arith; nodes = omega arith; hubs = omega arith; levels = omega arith; around = tt }

  root_starts : (c : Cursor) → Starts (RootPlans fig) (λ x. root_line fig x c) c
  unfolding root_line
  root_starts c =
      record {
        at_end = refl;
        at_unended = λ l. refl;
        begins = λ t r. (hub_word, draw_hub t r, refl);
        sized = λ t. omega arith;
        what = one_node;
        headed = (framed, good);
        fits = one_node_fits;
      }

  module _ (c : Cursor) (rest : Lines) where
    abbrev RootAt : List ℕ → Type 1
    RootAt l = AtLine (RootPlans fig) (λ x. root_line fig x c) c l rest

    opened : RootAt hub_word
    unfolding root_line kind_of is_word
    opened =
        goes (HubPlans fig begun) root_step (λ x. hub_lines fig x (next c hub_word) begun) (λ after. refl)
        (hub_decides fig framed good rest (next c hub_word) begun begun_able)

    not_opened : (l : List ℕ) → is_hub (kind_of l) ≡ false → RootAt l
    unfolding root_line kind_of is_word
    not_opened l h =
        says 1 (λ after. rw h)
        (unformed (RootPlans fig) l rest
        (λ t r after e.
        (let same : hub_word ≡ l = cc in
        true-false (ap (λ (x : List ℕ). is_hub (kind_of x)) (sym same)) h)))

    root_line_lem : (l : List ℕ) (kind : Kind) → kind_of l ≡ kind → Drawing kind l → RootAt l
    root_line_lem l Close k e = not_opened l (ap is_hub k)
    root_line_lem l Node k e = not_opened l (ap is_hub k)
    root_line_lem l Empty k e = not_opened l (ap is_hub k)
    root_line_lem l HubKind k e = subst RootAt (sym e) opened
    root_line_lem l Other k e = not_opened l (ap is_hub k)

  root_place : (c : Cursor) → Place (RootPlans fig) (λ x. root_line fig x c) c
  root_place c = record { starts = root_starts c; at_line = λ l rest. root_line_lem c rest l (kind_of l) refl (kind_line l) }

-- the line `(strict)`: no row refuses it, and any other line is read as the root's
module _ (T O D framing : ℕ) where
  abbrev fig : Bool → Figures
  fig strict = figures T O D framing strict

  module _ (framed : (strict : Bool) → good_framing (fig strict) ≡ true) (good : (strict : Bool) → good_figures (fig strict) ≡ true) where
    pub strict_place : (c : Cursor) → Place (StrictPlans T O D framing) (λ x. strict_line T O D framing x c) c
    unfolding strict_line
    strict_place c =
        optional-place numberless strict_word (λ o. RootPlans (fig (stands o))) (λ n. 0) (λ n x d. root_line (fig true) x d) (λ x. root_line (fig false) x c) c
        (record {
          without = root_place (fig false) (framed false) (good false) c;
          apart = λ t r after l e. no_form_first strict_word 0 (ended hub_word (draw_hub t r)) (hub_not_strict (draw_hub t r)) l after e;
          behind = λ x. no_row (λ ls d. decides (root_place (fig true) (framed true) (good true) d) ls);
        })
