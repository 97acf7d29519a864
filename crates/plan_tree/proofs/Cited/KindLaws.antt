-- The kind of a line, by the comparisons that led to it.
use Prim.Native.Nat.{ℕ}
use mathlib.Core.Path.{◌≡◌, sym, ap, ◌∙◌}
use mathlib.Core.Bool.{Bool, true, false}
use mathlib.Core.List.{List}
use lib.Dec.{eqb}
use lib.Pointwise.{pointwise}
use Rattle.text.specs.Word.{is_word}
use Rattle.text.proofs.Words.{is_pointwise}
use Rattle.plan_tree.specs.declared.Kind.TheVariants.{Close, Node, Empty, Hub, Other}
use Rattle.plan_tree.specs.Kind.{kind_of, close_word, node_word, empty_word, hub_word}

-- what the code found of a line, by the word that it compared it with
pub equal : {found : Bool} {with : List ℕ} (word l : List ℕ) → with ≡ word → found ≡ pointwise eqb l with → {b : Bool} → found ≡ b → is_word word l ≡ b
equal word l w e f = sym (is_pointwise word l) ∙ sym (ap (λ (u : List ℕ). pointwise eqb l u) w) ∙ sym e ∙ f

module _ (l : List ℕ) where
  pub kind_close : is_word close_word l ≡ true → Close ≡ kind_of l
  unfolding kind_of
  kind_close a = simp a

  module _ (a : is_word close_word l ≡ false) where
    pub kind_node : is_word node_word l ≡ true → Node ≡ kind_of l
    unfolding kind_of
    kind_node b = simp (a, b)

    module _ (b : is_word node_word l ≡ false) where
      pub kind_empty : is_word empty_word l ≡ true → Empty ≡ kind_of l
      unfolding kind_of
      kind_empty d = simp (a, b, d)

      module _ (d : is_word empty_word l ≡ false) where
        pub kind_hub : is_word hub_word l ≡ true → Hub ≡ kind_of l
        unfolding kind_of
        kind_hub e = simp (a, b, d, e)

        pub kind_other : is_word hub_word l ≡ false → Other ≡ kind_of l
        unfolding kind_of
        kind_other e = simp (a, b, d, e)
