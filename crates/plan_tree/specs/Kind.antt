-- The lines of a tree, as fixed byte strings.
use Rattle.std.specs.Prelude.{ℕ, Bool, true, false, List, [], ◌∷◌, if◌then◌else◌}
use Rattle.text.specs.Word.{is_word}
use Rattle.plan_tree.specs.declared.Kind.{Kind}
use Rattle.plan_tree.specs.declared.Kind.TheVariants.{Close, Node, Empty, Hub, Other}

-- `)`, `(node)`, `(empty)` and `(hub`, each a whole line
abbrev pub close_word : List ℕ
close_word = 41 ∷ []

abbrev pub node_word : List ℕ
node_word = 40 ∷ 110 ∷ 111 ∷ 100 ∷ 101 ∷ 41 ∷ []

abbrev pub empty_word : List ℕ
empty_word = 40 ∷ 101 ∷ 109 ∷ 112 ∷ 116 ∷ 121 ∷ 41 ∷ []

abbrev pub hub_word : List ℕ
hub_word = 40 ∷ 104 ∷ 117 ∷ 98 ∷ []

-- which of these a line is
unfoldable pub kind_of : List ℕ → Kind
kind_of line =
    if is_word close_word line then Close else
    (if is_word node_word line then Node else
    (if is_word empty_word line then Empty else
    (if is_word hub_word line then Hub else Other)))

abbrev pub is_hub : Kind → Bool
is_hub Close = false
is_hub Node = false
is_hub Empty = false
is_hub Hub = true
is_hub Other = false
