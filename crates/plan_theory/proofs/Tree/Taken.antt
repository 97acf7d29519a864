-- Document 01's plan rows in one statement: a text is taken just where it starts with the drawing of a tree within the
-- limits, behind a good header, and then for that tree's tables. Every other text is refused. Assumes nothing.
use Prim.Native.Nat.{ℕ}
use mathlib.Core.Path.{◌≡◌, refl, sym, ◌∙◌}
use mathlib.Core.Logic.{◌↔◌}
use mathlib.Core.List.{List}
use native.Mathlib.Omega.{arith}
use Rattle.plan.specs.Answer.{Answer, Taken, Refused}
use Rattle.plan.specs.Reading.{reading}
use Rattle.plan_theory.specs.Tree.{nodes_in, hubs_in}
use Rattle.plan_theory.specs.Behind.{past}
use Rattle.plan_theory.specs.Taken.{DrawnBy, TakenAs, RefusedAt, TakenFor, OfTree}
use Rattle.plan_theory.proofs.Tree.DrawnTaken.{drawn_taken}
use Rattle.plan_theory.proofs.Tree.TakenDrawn.{taken_drawn}

module _ (text : List ℕ) where
  pub drawing_taken : (d : DrawnBy text) → TakenFor text d.fig d.tree d.rest
  drawing_taken d = drawn_taken d.fig d.tree d.rest d.good d.framed d.within text d.drawn

  -- whichever drawing the text starts with
  pub taken_of : (nodes hubs at line : ℕ) → TakenAs text nodes hubs at line → (d : DrawnBy text) → OfTree text nodes hubs at line d
  taken_of nodes hubs at line t d =
      let k = drawing_taken d in
      let e : Taken nodes hubs at line ≡ Taken (nodes_in d.tree) (hubs_in d.tree) (past d.fig d.tree).at (past d.fig d.tree).number = sym t ∙ k.answer in
      record { same_nodes = cc; same_hubs = cc; same_place = cc; same_line = cc; same_tables = k.tables }

  -- taken, just where a drawing stands
  pub taken_iff : ((nodes : ℕ) × (hubs : ℕ) × (at : ℕ) × (line : ℕ) × TakenAs text nodes hubs at line) ↔ DrawnBy text
  taken_iff = (
    λ t. taken_drawn text t.0 t.1 t.2 t.3 t.4,
    λ d. (nodes_in d.tree, hubs_in d.tree, (past d.fig d.tree).at, (past d.fig d.tree).number, (drawing_taken d).answer),
  )

  -- refused, just where none stands
  pub refused_iff : ((line : ℕ) × (number : ℕ) × RefusedAt text line number) ↔ (DrawnBy text → ⊥)
  refused_iff = (λ r d. told r.0 r.1 r.2 d, λ f. go (reading text).answer refl f)
    where
      told : (line number : ℕ) → RefusedAt text line number → DrawnBy text → ⊥
      told line number r d =
          let k = (drawing_taken d).answer in
          let z : ◌≡◌ {A = ℕ} 0 1 = cc in
          omega arith

      go : (a : Answer) → (reading text).answer ≡ a → (DrawnBy text → ⊥) → (line : ℕ) × (number : ℕ) × RefusedAt text line number
      go (Taken nodes hubs at line) e f = absurd (f (taken_drawn text nodes hubs at line e))
      go (Refused line number) e f = (line, number, e)
