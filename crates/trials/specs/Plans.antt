-- The texts of the table's plans, line by line.
use Rattle.std.specs.Prelude.{ℕ, List, [], ◌∷◌, ◌++◌}
use Prim.Native.String.{String}
use Rattle.trials.specs.Text.{text_of}

-- document 01's plan from `(hub` on: hub 1 has node 1, hub 2 and node 4; hub 2 has nodes 2 and 3
abbrev pub tree01 : List String
tree01 = "(hub" ∷ "(node)" ∷ "(hub" ∷ "(node)" ∷ "(node)" ∷ ")" ∷ "(node)" ∷ ")" ∷ []

-- its figures
abbrev pub figures01 : List String
figures01 = "(frame 100000)" ∷ "(overhead 1000)" ∷ "(interrupt 13000)" ∷ []

-- its plan is strict
abbrev pub plan01 : List ℕ
plan01 = text_of (figures01 ++ "(strict)" ∷ tree01)

-- and without the line
abbrev pub plan01_default : List ℕ
plan01_default = text_of (figures01 ++ tree01)

-- one hub of 9 nodes
abbrev pub nine : List ℕ
nine =
    text_of
    (figures01
    ++ "(hub" ∷ "(node)" ∷ "(node)" ∷ "(node)" ∷ "(node)" ∷ "(node)" ∷ "(node)" ∷ "(node)" ∷ "(node)" ∷ "(node)" ∷ ")" ∷ [])

-- interrupt 12,999 at line 3
abbrev pub short_interrupt : List ℕ
short_interrupt = text_of ("(frame 100000)" ∷ "(overhead 1000)" ∷ "(interrupt 12999)" ∷ tree01)

-- a line of framing behind these figures, and document 01's tree
abbrev pub framed : String → String → List ℕ
framed interrupt framing = text_of ("(frame 200000)" ∷ "(overhead 1000)" ∷ interrupt ∷ framing ∷ tree01)

-- token ring frames, strict: D is 36,000 + O
abbrev pub ring : List ℕ
ring = text_of ("(frame 200000)" ∷ "(overhead 1000)" ∷ "(interrupt 37000)" ∷ "(framing 5)" ∷ "(strict)" ∷ tree01)

-- six levels: the hub of level 6 stands at line 9
abbrev pub six_levels : List ℕ
six_levels =
    text_of
    (figures01
    ++ "(hub" ∷ "(hub" ∷ "(hub" ∷ "(hub" ∷ "(hub" ∷ "(hub" ∷ "(node)" ∷ ")" ∷ ")" ∷ ")" ∷ ")" ∷ ")" ∷ ")" ∷ [])

-- two lines of five levels, with two nodes at the end of each: 4 nodes, 9 hubs
abbrev pub four_below : List String
four_below = "(hub" ∷ "(hub" ∷ "(hub" ∷ "(hub" ∷ "(node)" ∷ "(node)" ∷ ")" ∷ ")" ∷ ")" ∷ ")" ∷ []

abbrev pub two_deep : List ℕ
two_deep = text_of (figures01 ++ "(hub" ∷ four_below ++ four_below ++ ")" ∷ [])

-- three levels: hub 1 has hub 2 and node 5, hub 2 has hub 3 and nodes 3 and 4, hub 3 has nodes 1 and 2
abbrev pub three_levels : List ℕ
three_levels = text_of (figures01 ++ "(hub" ∷ "(hub" ∷ "(hub" ∷ "(node)" ∷ "(node)" ∷ ")" ∷ "(node)" ∷ "(node)" ∷ ")" ∷ "(node)" ∷ ")" ∷ [])
