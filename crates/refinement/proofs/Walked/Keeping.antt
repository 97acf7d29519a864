-- What cells are read for: the core from the clock's, the line's and the nodes', and the invariant from the masks and the requests besides.
use Prim.Native.Nat.{ℕ, ◌≤◌}
use mathlib.Core.Path.{◌≡◌, refl, sym, ap, ◌∙◌}
use mathlib.Core.Bool.{Bool, true, false}
use mathlib.Core.List.{List}
use lib.ListN.{length, get_or}
use Rattle.std.specs.Prelude.{if◌then◌else◌}
use Rattle.rules.specs.Plan.{Plan}
use Rattle.rules.specs.Drawn.{Within}
use Rattle.rules.specs.Core.{Core, Line, none, nothing_reserved, counts_in}
use Rattle.rules.proofs.Laws.Passes.{sum_same}
use Rattle.ports.specs.Mask.{mask_of, digit}
use Rattle.cells.specs.Layout.{cells, time_at, clock_cell, holder_cell, class_cell, standing_cell, node_cell, mask_cell, pointer_cell, request_cell, class_of, request_of, share_of}
use Rattle.cells.specs.Decode.{is_node, line_of, core_of}
use Rattle.cells.specs.Masks.{stands}
use Rattle.refinement.specs.Kept.{Kept, Pointing, counts_of, seen_at, standing_in}

-- a core whose line is this
abbrev pub with_line : Line → Core → Core
with_line l s =
    record { clock = s.clock; line = l; request = s.request; force = s.force; latest = s.latest; granted = s.granted }

-- the same cells of nodes
abbrev pub SameNodes : List ℕ → List ℕ → Type 0
SameNodes s r = (k i : ℕ) → get_or r (node_cell k i) 0 ≡ get_or s (node_cell k i) 0

-- no request counts by the line
counts-by-line : (is_high : Bool) (l : Line) (x : Core) → counts_in (class_of is_high) (with_line l x) ≡ counts_in (class_of is_high) x
unfolding counts_in
counts-by-line true l x = refl
counts-by-line false l x = refl

module _ (p : Plan) (s r : List ℕ) (clock : time_at r clock_cell ≡ time_at s clock_cell) (nodes : SameNodes s r) where
  pub core_but_line : core_of p r ≡ with_line (line_of r) (core_of p s)
  unfolding core_of
  core_but_line =
      λ i. record {
        clock = clock i;
        line = line_of r;
        request = λ k. (if is_node p k then request_of (nodes k 0 i) else none);
        force = λ k. (if is_node p k then share_of (nodes k 1 i) else nothing_reserved);
        latest = λ k. (if is_node p k then share_of (nodes k 2 i) else nothing_reserved);
        granted = λ k. (if is_node p k then nodes k 3 i else 0);
      }

  pub core_kept : line_of r ≡ line_of s → core_of p r ≡ core_of p s
  unfolding core_of
  core_kept line = core_but_line ∙ ap (λ (l : Line). with_line l (core_of p s)) line

  counts_kept : (is_high : Bool) → counts_of p is_high r ≡ counts_of p is_high s
  counts_kept is_high = ap (counts_in (class_of is_high)) core_but_line ∙ counts-by-line is_high (line_of r) (core_of p s)

  standing_kept : standing_in p.nodes r ≡ standing_in p.nodes s
  standing_kept =
      sum_same p.nodes (λ k. digit (stands (get_or r (request_cell k) 0))) (λ k. digit (stands (get_or s (request_cell k) 0)))
      (λ k w. ap (λ (x : ℕ). digit (stands x)) (nodes k 0))

  -- the masks and the number of standing requests stay right where their cells stay
  pub kept_by : Kept p s → length r ≡ cells → ((b : Bool) (g : ℕ) → get_or r (mask_cell b g) 0 ≡ get_or s (mask_cell b g) 0)
      → get_or r standing_cell 0 ≡ get_or s standing_cell 0 → Within p.hubs (get_or r holder_cell 0) → get_or r class_cell 0 ≤ 1
      → ((b : Bool) (g : ℕ) → Within p.hubs g → Pointing (get_or r (pointer_cell b g) 0)) → Kept p r
  kept_by K size masks number holder class pointers =
      record {
        size = size;
        masks = λ b g w. masks b g ∙ K.masks b g w ∙ ap (λ (f : ℕ → Bool). mask_of (seen_at p f g)) (sym (counts_kept b));
        standing = number ∙ K.standing ∙ sym standing_kept;
        holder = holder;
        class = class;
        pointers = pointers;
      }
