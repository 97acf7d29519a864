-- The log's first line, with its LF: `(nodes N hubs H)` for a plan that is taken, `(refused line number)` for one that is refused.
use Rattle.std.specs.Prelude.{ℕ, List, [], ◌∷◌, ◌++◌, Result, Ok, Err}
use Rattle.text.specs.Number.{digits}
use Rattle.writer.specs.Write.{draw_line}
use Rattle.plan.specs.Answer.{Answer, Taken, Refused}
use Rattle.plan.specs.declared.Taken as code

-- `(nodes` and the space behind it
abbrev pub nodes_word : List ℕ
nodes_word = 40 ∷ 110 ∷ 111 ∷ 100 ∷ 101 ∷ 115 ∷ 32 ∷ []

-- a space and `hubs`
abbrev pub hubs_word : List ℕ
hubs_word = 32 ∷ 104 ∷ 117 ∷ 98 ∷ 115 ∷ []

-- `(refused`
abbrev pub refused_word : List ℕ
refused_word = 40 ∷ 114 ∷ 101 ∷ 102 ∷ 117 ∷ 115 ∷ 101 ∷ 100 ∷ []

-- `(nodes N hubs`
unfoldable pub nodes_head : ℕ → List ℕ
nodes_head nodes = nodes_word ++ digits nodes ++ hubs_word

-- `(nodes N hubs H)` and LF
unfoldable pub nodes_line : ℕ → ℕ → List ℕ
nodes_line nodes hubs = draw_line (nodes_head nodes) (hubs ∷ [])

-- `(refused line number)` and LF
unfoldable pub refused_line : ℕ → ℕ → List ℕ
refused_line line number = draw_line refused_word (line ∷ number ∷ [])

-- a plan's answer whose refusal is a line and a number, whatever they are
abbrev pub told_numbers : Result code.Taken (ℕ × ℕ) → Answer
told_numbers (Ok x) = Taken x.nodes x.hubs x.at x.line
told_numbers (Err e) = Refused e.0 e.1

unfoldable pub first_line : Answer → List ℕ
first_line (Taken nodes hubs at line) = nodes_line nodes hubs
first_line (Refused line number) = refused_line line number
