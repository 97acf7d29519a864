-- "The first line from above, then the first row, decides": what it means of a refused plan, in the words of drawings.
use Rattle.std.specs.Prelude.{ℕ, zero, suc, ◌+◌, ◌^◌, ◌≤◌, ◌<◌, ◌≡◌, false, List, [], ◌∷◌, eqb, if◌then◌else◌}
use Rattle.std.proofs.Math.Option.{Option, none, some}
use Rattle.text.specs.Line.{Lines, nothing, unended, ended, lines}
use Rattle.text.specs.Form.{Small}
use Rattle.plan_theory.specs.Tree.{Header, figures_of, one_number, Hub, draw, nodes_in, fits, good_figures, good_framing}
use Rattle.plan_theory.specs.Behind.{lines_of}
use Rattle.plan_theory.specs.Taken.{RefusedAt}

-- the first n lines
unfoldable pub first_lines : ℕ → Lines → Lines
first_lines zero ls = nothing
first_lines (suc n) nothing = nothing
first_lines (suc n) (unended l) = unended l
first_lines (suc n) (ended l rest) = ended l (first_lines n rest)

-- the numbers of a line that may be missing
abbrev pub numbers_of : {A : Type 0} → (A → List ℕ) → Option A → List ℕ
numbers_of numbers none = []
numbers_of numbers (some x) = numbers x

-- the first n lines are those of a drawing: of any tree, within the limits or not, behind any numbers of at most 16 digits
pub record Formed (ls : Lines) (n : ℕ) : Type 0 where
  pub fig : Header
  pub tree : Hub
  pub rest : Lines
  pub small : Small (fig.frame ∷ fig.overhead ∷ fig.interrupt ∷ numbers_of one_number fig.framing)
  pub drawn : first_lines n ls ≡ first_lines n (draw fig tree rest)

-- Which plan rows apply to line n, whatever follows it: by the drawings that start with the first n lines.
pub data RowApplies (ls : Lines) (n : ℕ) : ℕ → Type 0 where
  -- not the form allowed here, its LF is missing, or the text ends early (line after the last): no drawing starts so
  row_1 : (Formed ls n → ⊥) → RowApplies ls n 1
  -- the framing is neither 3 nor 5: drawings start so, but none with framing 3 or 5
  row_4 : Formed ls n → ((d : Formed ls n) → good_framing (figures_of d.fig) ≡ false) → RowApplies ls n 4
  -- T, O or D out of range, or D too small for the framing: drawings start so, but none with good figures
  row_2 : Formed ls n → ((d : Formed ls n) → good_figures (figures_of d.fig) ≡ false) → RowApplies ls n 2
  -- a limit of the tree passed; a `)` closing a hub without ports: drawings start so, but none of a tree that fits
  row_3 : Formed ls n → ((d : Formed ls n) → fits d.tree ≡ false) → RowApplies ls n 3
  -- or the whole plan without a node: the line is the last of a drawing without one
  row_3_node : (d : Formed ls n) → lines_of d.fig d.tree ≡ n → nodes_in d.tree ≡ 0 → RowApplies ls n 3

-- the order in which a line's rows are looked at: 1, 4, 2, 3 (4 and 2 never apply to one line that decides)
abbrev pub place : ℕ → ℕ
place row = if eqb row 1 then 0 else (if eqb row 4 then 1 else row)

pub record DecidedBy (text : List ℕ) (line number : ℕ) : Type 0 where
  -- so many lines stand above the line
  pub above : ℕ
  pub its_number : above + 1 < 2 ^ 64 → line ≡ above + 1
  -- the row applies to the line, which is the first from above to which any row applies, and no earlier row applies to it
  pub row : RowApplies (lines text) (above + 1) number
  pub first_line : (n k : ℕ) → RowApplies (lines text) n k → above + 1 ≤ n
  pub first_row : (k : ℕ) → RowApplies (lines text) (above + 1) k → place number ≤ place k
  -- the same by the answers: a text that ends above the line is refused only because it ends, at the line after the last
  pub none_above : (short : List ℕ) → lines short ≡ first_lines above (lines text) → RefusedAt short line 1
  -- and whatever follows the line changes nothing
  pub none_below : (other : List ℕ) → first_lines (above + 1) (lines other) ≡ first_lines (above + 1) (lines text) → RefusedAt other line number
