-- A taken text's plan is strict just where the text has the line `(strict)`, as `has_strict` finds it; and the framing's line likewise.
use mathlib.Core.Path.{◌≡◌, refl, sym, ap, ◌∙◌}
use mathlib.Core.Bool.{false}
use mathlib.Core.List.{List, [], ◌∷◌}
use mathlib.Core.Option.{Option, none, some}
use Prim.Native.Nat.{ℕ}
use Rattle.std.specs.Prelude.{if◌then◌else◌}
use Rattle.text.specs.Line.{Lines, ended}
use Rattle.text.specs.Form.{draw_form, Small}
use Rattle.plan.specs.Words.{frame_word, overhead_word, interrupt_word, framing_word, strict_word}
use Rattle.plan.specs.AsBefore.{behind, is_form, begins_with, has_framing, has_strict}
use Rattle.plan.specs.Tables.{plan_of}
use Rattle.plan.specs.Reading.{reading}
use Rattle.plan_tree.specs.Kind.{hub_word}
use Rattle.plan_theory.specs.Tree.{Header, figures_of, stands, one_number, no_number, draw_optional, draw, draw_hub}
use Rattle.plan_theory.specs.Taken.{DrawnBy}
use Rattle.plan_theory.specs.First.{numbers_of}
use Rattle.plan_theory.proofs.Tree.Optional.{Numbers, number, numberless, begins, read-line, not_found, hub_not_framing, hub_not_strict, strict_not_framing, small_meant, small_numberless}
use Rattle.plan_theory.proofs.Tree.Figures.{framing_small}
use Rattle.plan_theory.proofs.Tree.Taken.{drawing_taken}

-- a line that may be missing, found where it is drawn, and only there
module _ {N : Type 0} {count : ℕ} (H : Numbers N count) (word : List ℕ) where
  drawn_stands : (o : Option N) (rest : Lines) → begins word rest ≡ false → Small (numbers_of H.list o)
      → begins_with word count (draw_optional word H.list o rest) ≡ stands o
  drawn_stands none rest e small = not_found word count rest e
  drawn_stands (some x) rest e small = ap is_form (read-line H word x small)

-- the lines behind the three figures and any framing's
behind_framing : (fig : Header) (o : Option ℕ) (more : Lines)
    → behind (if stands o then 4 else 3)
    (ended (draw_form frame_word (fig.frame ∷ []))
    (ended (draw_form overhead_word (fig.overhead ∷ []))
    (ended (draw_form interrupt_word (fig.interrupt ∷ [])) (draw_optional framing_word one_number o more))))
    ≡ more
behind_framing fig none more = refl
behind_framing fig (some x) more = refl

module _ (text : List ℕ) (d : DrawnBy text) where
  abbrev fig : Header
  fig = d.fig

  abbrev root : Lines
  root = ended hub_word (draw_hub d.tree d.rest)

  abbrev from_strict : Lines
  from_strict = draw_optional strict_word no_number fig.strict root

  pub framing_stands : has_framing text ≡ stands fig.framing
  unfolding draw
  framing_stands =
      ap (λ (ls : Lines). begins_with framing_word 1 (behind 3 ls)) d.drawn
      ∙ drawn_stands number framing_word fig.framing from_strict (strict_not_framing fig.strict root (hub_not_framing (draw_hub d.tree d.rest)))
      (small_meant 3 fig.framing (framing_small (figures_of fig) d.framed))

  strict_stands : has_strict text ≡ stands fig.strict
  unfolding draw
  strict_stands =
      (λ i. begins_with strict_word 0 (behind (if framing_stands i then 4 else 3) (d.drawn i)))
      ∙ ap (begins_with strict_word 0) (behind_framing fig fig.framing from_strict)
      ∙ drawn_stands numberless strict_word fig.strict root (hub_not_strict (draw_hub d.tree d.rest)) (small_numberless fig.strict)

  pub strict_told : (plan_of (reading text).tables).strict ≡ has_strict text
  strict_told = (drawing_taken text d).figures.strict ∙ sym strict_stands
