-- A table of worked rows is right if each row is. Proved row by row, so that a row that is wrong is the one that is named.
use mathlib.Core.Path.{◌≡◌, refl, ap₂}
use mathlib.Core.List.{List, [], ◌∷◌, map}

module _ {A B : Type 0} (figures expected : A → B) where
  abbrev pub Each : List A → Type 0
  Each [] = Unit {0}
  Each (x ∷ rows) = (figures x ≡ expected x) × Each rows

  pub all_right : (rows : List A) → Each rows → map figures rows ≡ map expected rows
  all_right [] e = refl
  all_right (x ∷ rows) e = ap₂ ◌∷◌ e.0 (all_right rows e.1)
