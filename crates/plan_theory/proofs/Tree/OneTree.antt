-- A text starts with the drawing of one tree at most, behind one header. Assumes nothing.
use Prim.Native.Nat.{ℕ, ◌<◌, ◌^◌}
use mathlib.Core.Path.{◌≡◌, refl, sym, ap, ◌∙◌}
use mathlib.Core.Bool.{false}
use mathlib.Core.List.{List, [], ◌∷◌}
use mathlib.Core.Option.{Option, none, some}
use native.Mathlib.Omega.{arith}
use lib.ListN.{length}
use Rattle.rules.proofs.Laws.Passes.{true-false}
use Rattle.text.specs.Line.{Lines, nothing, unended, ended}
use Rattle.text.specs.Form.{draw_form, Small}
use Rattle.plan.specs.Words.{frame_word, overhead_word, interrupt_word, framing_word, strict_word}
use Rattle.plan_tree.specs.Kind.{close_word, hub_word}
use Rattle.plan_theory.specs.Tree.{Header, figures_of, one_number, draw_optional, Port, node, empty, hub, Hub, close, port, draw_port, draw_hub, draw}
use Rattle.plan_theory.proofs.Tree.Figures.{good_ranges, framing_small}
use Rattle.plan_theory.proofs.Tree.Optional.{Numbers, number, numberless, begins, hub_not_framing, hub_not_strict, strict_not_framing, drawn_begins, one_line, small_meant, small_numberless}
use Rattle.plan_theory.specs.Taken.{DrawnBy}
use Rattle.plan_theory.specs.First.{numbers_of}

-- the words of a tree's lines have different lengths
abbrev pub size : Lines → ℕ
size nothing = 0
size (unended l) = length l
size (ended l rest) = length l

-- no port begins with the closing line
not_closed : (x : Port) (ls ks : Lines) → draw_port x ls ≡ ended close_word ks → ⊥
unfolding draw_port
not_closed node ls ks e = omega (arith, ap size e)
not_closed empty ls ks e = omega (arith, ap size e)
not_closed (hub h) ls ks e = omega (arith, ap size e)

mutual
  unfolding draw_port

  one_port : (x y : Port) (ls ks : Lines) → draw_port x ls ≡ draw_port y ks → (x ≡ y) × (ls ≡ ks)
  one_port node node ls ks e = (refl, cc)
  one_port node empty ls ks e = absurd (omega (arith, ap size e))
  one_port node (hub h) ls ks e = absurd (omega (arith, ap size e))
  one_port empty node ls ks e = absurd (omega (arith, ap size e))
  one_port empty empty ls ks e = (refl, cc)
  one_port empty (hub h) ls ks e = absurd (omega (arith, ap size e))
  one_port (hub h) node ls ks e = absurd (omega (arith, ap size e))
  one_port (hub h) empty ls ks e = absurd (omega (arith, ap size e))
  one_port (hub h) (hub k) ls ks e =
      let p = one_hub h k ls ks (cc) in
      (ap hub p.0, p.1)

  one_hub : (h k : Hub) (ls ks : Lines) → draw_hub h ls ≡ draw_hub k ks → (h ≡ k) × (ls ≡ ks)
  one_hub close close ls ks e = (refl, cc)
  one_hub close (port y k) ls ks e = absurd (not_closed y (draw_hub k ks) ls (sym e))
  one_hub (port x h) close ls ks e = absurd (not_closed x (draw_hub h ls) ks e)
  one_hub (port x h) (port y k) ls ks e =
      let p = one_port x y (draw_hub h ls) (draw_hub k ks) e in
      let q = one_hub h k ls ks p.1 in
      (cc, q.1)

pub one_figure : (word : List ℕ) (a b : ℕ) → a < 10 ^ 16 → b < 10 ^ 16 → draw_form word (a ∷ []) ≡ draw_form word (b ∷ []) → a ≡ b
one_figure word a b p q e = one_line number word a b (p, tt) (q, tt) e

split : (a b : List ℕ) (ls ks : Lines) → ended a ls ≡ ended b ks → (a ≡ b) × (ls ≡ ks)
split a b ls ks e = (cc, cc)

-- Lines drawn in two ways with a line that may be missing, in front of lines of another word:
-- the same lines follow, and both have the line or neither, and it says the same.
record SameOptional {N : Type 0} (numbers : N → List ℕ) (a b : Option N) (ls ks : Lines) : Type 0 where
  value : Small (numbers_of numbers a) → Small (numbers_of numbers b) → a ≡ b
  rest : ls ≡ ks

same-optional : {N : Type 0} {count : ℕ} (H : Numbers N count) (word : List ℕ) (a b : Option N) (ls ks : Lines)
    → begins word ls ≡ false → begins word ks ≡ false → draw_optional word H.list a ls ≡ draw_optional word H.list b ks
    → SameOptional H.list a b ls ks
same-optional H word none none ls ks p q e = record { value = λ m n. refl; rest = e }
same-optional H word none (some y) ls ks p q e = absurd (true-false (drawn_begins word (H.list y) ks) (sym (ap (begins word) e) ∙ p))
same-optional H word (some x) none ls ks p q e = absurd (true-false (drawn_begins word (H.list x) ls) (ap (begins word) e ∙ q))
same-optional H word (some x) (some y) ls ks p q e =
    let s = split (draw_form word (H.list x)) (draw_form word (H.list y)) ls ks e in
    record { value = λ m n. ap some (one_line H word x y m n s.0); rest = s.1 }

-- the header's lines and the tree of two drawings of the same lines
record SameLines (f g : Header) (t u : Hub) (ls ks : Lines) : Type 0 where
  frame : draw_form frame_word (f.frame ∷ []) ≡ draw_form frame_word (g.frame ∷ [])
  overhead : draw_form overhead_word (f.overhead ∷ []) ≡ draw_form overhead_word (g.overhead ∷ [])
  interrupt : draw_form interrupt_word (f.interrupt ∷ []) ≡ draw_form interrupt_word (g.interrupt ∷ [])
  framing : Small (numbers_of one_number f.framing) → Small (numbers_of one_number g.framing) → f.framing ≡ g.framing
  strict : f.strict ≡ g.strict
  tree : t ≡ u
  rest : ls ≡ ks

same_lines : (f g : Header) (t u : Hub) (ls ks : Lines) → draw f t ls ≡ draw g u ks → SameLines f g t u ls ks
unfolding draw
same_lines f g t u ls ks e =
    let frame = split _ _ _ _ e in
    let overhead = split _ _ _ _ frame.1 in
    let interrupt = split _ _ _ _ overhead.1 in
    let a : Lines = draw_hub t ls in
    let b : Lines = draw_hub u ks in
    let p = strict_not_framing f.strict (ended hub_word a) (hub_not_framing a) in
    let q = strict_not_framing g.strict (ended hub_word b) (hub_not_framing b) in
    let framing = same-optional number framing_word f.framing g.framing _ _ p q interrupt.1 in
    let strict = same-optional numberless strict_word f.strict g.strict _ _ (hub_not_strict a) (hub_not_strict b) framing.rest in
    let tree = one_hub t u ls ks (split hub_word hub_word a b strict.rest).1 in
    record {
      frame = frame.0;
      overhead = overhead.0;
      interrupt = interrupt.0;
      framing = framing.value;
      strict = strict.value (small_numberless f.strict) (small_numberless g.strict);
      tree = tree.0;
      rest = tree.1;
    }

pub one_tree : (f g : Header) (t u : Hub) (ls ks : Lines) → draw f t ls ≡ draw g u ks → t ≡ u
one_tree f g t u ls ks e = (same_lines f g t u ls ks e).tree

-- the header, the tree and what follows are the text's own
pub record SameDrawing (text : List ℕ) (d k : DrawnBy text) : Type 0 where
  pub fig : d.fig ≡ k.fig
  pub tree : d.tree ≡ k.tree
  pub rest : d.rest ≡ k.rest

pub one_drawing : (text : List ℕ) (d k : DrawnBy text) → SameDrawing text d k
one_drawing text d k =
    let r = good_ranges (figures_of d.fig) d.good in
    let s = good_ranges (figures_of k.fig) k.good in
    let l = same_lines d.fig k.fig d.tree k.tree d.rest k.rest (sym d.drawn ∙ k.drawn) in
    let T = one_figure frame_word d.fig.frame k.fig.frame (omega (arith, r)) (omega (arith, s)) l.frame in
    let O = one_figure overhead_word d.fig.overhead k.fig.overhead (omega (arith, r)) (omega (arith, s)) l.overhead in
    let D = one_figure interrupt_word d.fig.interrupt k.fig.interrupt (omega (arith, r)) (omega (arith, s)) l.interrupt in
    let small : (x : DrawnBy text) → Small (numbers_of one_number x.fig.framing) =
    λ x. small_meant 3 x.fig.framing (framing_small (figures_of x.fig) x.framed) in
    let F = l.framing (small d) (small k) in
    record {
      fig = λ i. record { frame = T i; overhead = O i; interrupt = D i; framing = F i; strict = l.strict i };
      tree = l.tree;
      rest = l.rest;
    }
