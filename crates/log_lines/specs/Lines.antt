-- "The log": the lines behind the first, each with its LF.
use Rattle.std.specs.Prelude.{ℕ, List, [], ◌∷◌}
use Rattle.writer.specs.Write.{draw_line}
use Rattle.log_lines.specs.FirstLine.{refused_line}
use Rattle.rules.specs.Call.{Class, normal, high, Answer, taken, refused, grant, rest, quiet}
use Rattle.cells.specs.Step.{Step, Grant, Rest, Quiet, Refused}

-- `(grant`, `(rest`
abbrev pub grant_word : List ℕ
grant_word = 40 ∷ 103 ∷ 114 ∷ 97 ∷ 110 ∷ 116 ∷ []

abbrev pub rest_word : List ℕ
rest_word = 40 ∷ 114 ∷ 101 ∷ 115 ∷ 116 ∷ []

-- `(grant s k class end moves wait)`, with class 1 normal and 2 high
unfoldable pub grant_line : ℕ → ℕ → ℕ → ℕ → ℕ → ℕ → List ℕ
grant_line s k class end moves wait = draw_line grant_word (s ∷ k ∷ class ∷ end ∷ moves ∷ wait ∷ [])

-- `(rest s moves)`
unfoldable pub rest_line : ℕ → ℕ → List ℕ
rest_line s moves = draw_line rest_word (s ∷ moves ∷ [])

-- the line of a step's answer; the others have none
unfoldable pub step_line : Step → List ℕ
step_line (Grant s k class end moves wait) = grant_line s k class end moves wait
step_line (Rest s moves) = rest_line s moves
step_line Quiet = []
step_line (Refused n) = []

abbrev pub class_number : Class → ℕ
class_number normal = 1
class_number high = 2

-- the line of a call's answer and its wait, in the words of `rules`: a refusal names the line of its event, and only a grant its wait
unfoldable pub answer_line : ℕ → Answer → ℕ → List ℕ
answer_line line taken wait = []
answer_line line (refused n) wait = refused_line line n
answer_line line (grant s k c end moves) wait = grant_line s k (class_number c) end moves wait
answer_line line (rest s moves) wait = rest_line s moves
answer_line line quiet wait = []
