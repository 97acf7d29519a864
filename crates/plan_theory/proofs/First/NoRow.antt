-- No row applies to any line of a text that is taken. Assumes nothing.
use Prim.Native.Nat.{ℕ, suc, ◌+◌}
use mathlib.Core.Path.{◌≡◌, refl, sym, ap, ◌∙◌, subst}
use mathlib.Core.List.{List, [], ◌∷◌}
use mathlib.Core.Option.{Option, none, some}
use native.Mathlib.Omega.{arith}
use Rattle.rules.proofs.Laws.Passes.{true-false}
use Rattle.text.specs.Line.{Lines, ended, lines}
use Rattle.text.specs.Form.{draw_form}
use Rattle.plan.specs.Words.{frame_word, overhead_word, interrupt_word, framing_word, strict_word}
use Rattle.plan_tree.specs.Kind.{close_word, node_word, empty_word, hub_word}
use Rattle.plan_theory.specs.Tree.{Port, node, empty, hub, Hub, close, port, draw_port, draw_hub, figures_of, one_number, no_number, draw_optional, draw, nodes_in}
use Rattle.plan_theory.specs.Behind.{lines_at, lines_in, lines_optional, lines_of}
use Rattle.plan_theory.specs.Taken.{DrawnBy}
use Rattle.plan_theory.specs.First.{first_lines, Formed, RowApplies, row_1, row_4, row_2, row_3, row_3_node}
use Rattle.plan_theory.proofs.Tree.Room.{limits_room, room_fits}
use Rattle.plan_theory.proofs.Tree.Figures.{good_ranges, framing_small}
use Rattle.plan_theory.proofs.Tree.Optional.{small_meant}
use Rattle.plan_theory.proofs.Tree.OneTree.{one_tree}
use Rattle.plan_theory.proofs.First.Places.{same_ended}

-- Lines that start as a drawing does, as far as the drawing goes, are that drawing and something behind it.
record Stays (f : Lines → Lines) (n : ℕ) (ls ks : Lines) : Type 0 where
  behind : Lines
  is : ls ≡ f behind
  same : first_lines n behind ≡ first_lines n ks

line_stays : (l : List ℕ) (m n : ℕ) (ls ks : Lines) → m ≡ suc n → first_lines m ls ≡ first_lines m (ended l ks) → Stays (ended l) n ls ks
line_stays l m n ls ks e s =
    let o = same_ended n l ks ls (rw (← e) s) in
    record { behind = o.after; is = o.is; same = o.same }

both_stay : (f g : Lines → Lines) (m n : ℕ) (ls ks : Lines) (a : Stays f m ls (g ks)) → Stays g n a.behind ks → Stays (λ x. f (g x)) n ls ks
both_stay f g m n ls ks a b = record { behind = b.behind; is = a.is ∙ ap f b.is; same = b.same }

mutual
  unfolding draw_port lines_at

  port_stays : (x : Port) (m n : ℕ) (ls ks : Lines) → m ≡ lines_at x + n → first_lines m ls ≡ first_lines m (draw_port x ks) → Stays (draw_port x) n ls ks
  port_stays node m n ls ks e s = line_stays node_word m n ls ks (omega arith) s
  port_stays empty m n ls ks e s = line_stays empty_word m n ls ks (omega arith) s
  port_stays (hub h) m n ls ks e s =
      let a = line_stays hub_word m (lines_in h + n) ls (draw_hub h ks) (omega arith) s in
      both_stay (ended hub_word) (draw_hub h) (lines_in h + n) n ls ks a (hub_stays h (lines_in h + n) n a.behind ks refl a.same)

  hub_stays : (h : Hub) (m n : ℕ) (ls ks : Lines) → m ≡ lines_in h + n → first_lines m ls ≡ first_lines m (draw_hub h ks) → Stays (draw_hub h) n ls ks
  hub_stays close m n ls ks e s = line_stays close_word m n ls ks (omega arith) s
  hub_stays (port x h) m n ls ks e s =
      let a = port_stays x m (lines_in h + n) ls (draw_hub h ks) (omega arith) s in
      both_stay (draw_port x) (draw_hub h) (lines_in h + n) n ls ks a (hub_stays h (lines_in h + n) n a.behind ks refl a.same)

behind-line : (l : List ℕ) (g : Lines → Lines) (m n : ℕ) (ks : Lines) → ((js : Lines) → first_lines m js ≡ first_lines m (g ks) → Stays g n js ks)
    → (ls : Lines) → first_lines (suc m) ls ≡ first_lines (suc m) (ended l (g ks)) → Stays (λ x. ended l (g x)) n ls ks
behind-line l g m n ks more ls s =
    let a = line_stays l (suc m) m ls (g ks) refl s in
    both_stay (ended l) g m n ls ks a (more a.behind a.same)

-- a line that may be missing
behind-optional : {N : Type 0} (word : List ℕ) (numbers : N → List ℕ) (o : Option N) (g : Lines → Lines) (m n : ℕ) (ks : Lines)
    → ((js : Lines) → first_lines m js ≡ first_lines m (g ks) → Stays g n js ks) → (k : ℕ) → k ≡ lines_optional o + m
    → (ls : Lines) → first_lines k ls ≡ first_lines k (draw_optional word numbers o (g ks)) → Stays (λ x. draw_optional word numbers o (g x)) n ls ks
behind-optional word numbers none g m n ks more k e ls s =
    let same : k ≡ m = omega arith in
    more ls (subst (λ (i : ℕ). first_lines i ls ≡ first_lines i (g ks)) same s)
behind-optional word numbers (some x) g m n ks more k e ls s =
    let l : List ℕ = draw_form word (numbers x) in
    let same : k ≡ suc m = omega arith in
    behind-line l g m n ks more ls (subst (λ (i : ℕ). first_lines i ls ≡ first_lines i (ended l (g ks))) same s)

plan_stays : (ls : Lines) (n : ℕ) (d : Formed ls n) → lines_of d.fig d.tree ≡ n → Stays (draw d.fig d.tree) 0 ls d.rest
unfolding draw
plan_stays ls n d e =
    let h : ℕ = lines_in d.tree + 0 in
    let s : ℕ = lines_optional d.fig.strict + suc h in
    let f : ℕ = lines_optional d.fig.framing + s in
    let root : Lines → Lines = λ x. ended hub_word (draw_hub d.tree x) in
    let strict : Lines → Lines = λ x. draw_optional strict_word no_number d.fig.strict (root x) in
    let framing : Lines → Lines = λ x. draw_optional framing_word one_number d.fig.framing (strict x) in
    let interrupt : Lines → Lines = λ x. ended (draw_form interrupt_word (d.fig.interrupt ∷ [])) (framing x) in
    let overhead : Lines → Lines = λ x. ended (draw_form overhead_word (d.fig.overhead ∷ [])) (interrupt x) in
    let all : n ≡ suc (suc (suc f)) = omega arith in
    behind-line (draw_form frame_word (d.fig.frame ∷ [])) overhead (suc (suc f)) 0 d.rest
    (behind-line (draw_form overhead_word (d.fig.overhead ∷ [])) interrupt (suc f) 0 d.rest
    (behind-line (draw_form interrupt_word (d.fig.interrupt ∷ [])) framing f 0 d.rest
    (behind-optional framing_word one_number d.fig.framing strict s 0 d.rest
    (behind-optional strict_word no_number d.fig.strict root (suc h) 0 d.rest
    (behind-line hub_word (draw_hub d.tree) h 0 d.rest (λ js same. hub_stays d.tree h 0 js d.rest refl same)) s refl) f refl))) ls
    (subst (λ (m : ℕ). first_lines m ls ≡ first_lines m (draw d.fig d.tree d.rest)) all d.drawn)

module _ (text : List ℕ) (t : DrawnBy text) where
  formed : (n : ℕ) → Formed (lines text) n
  formed n =
      let fig = figures_of t.fig in
      let r = good_ranges fig t.good in
      record {
        fig = t.fig;
        tree = t.tree;
        rest = t.rest;
        small = (omega (arith, r), (omega (arith, r), (omega (arith, r), small_meant 3 t.fig.framing (framing_small fig t.framed))));
        drawn = ap (first_lines n) t.drawn;
      }

  pub taken_no_row : (n k : ℕ) → RowApplies (lines text) n k → ⊥
  unfolding formed
  taken_no_row n k (row_1 f) = f (formed n)
  taken_no_row n k (row_4 d f) = true-false t.framed (f (formed n))
  taken_no_row n k (row_2 d f) = true-false t.good (f (formed n))
  taken_no_row n k (row_3 d f) = true-false (room_fits t.tree (limits_room t.tree t.within).0) (f (formed n))
  taken_no_row n k (row_3_node d e z) =
      let p = plan_stays (lines text) n d e in
      let same = one_tree t.fig d.fig t.tree d.tree t.rest p.behind (sym t.drawn ∙ p.is) in
      let some = (limits_room t.tree t.within).1 in
      let nodes : nodes_in t.tree ≡ nodes_in d.tree = ap nodes_in same in
      omega arith
