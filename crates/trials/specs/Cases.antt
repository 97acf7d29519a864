-- The trial cases marked M, in document 01's words. Except M1 and M2 they use its plan.
use Rattle.std.specs.Prelude.{ℕ, List, [], ◌∷◌, ◌++◌}
use Rattle.rules.specs.Call.{normal, high, ask, reserve, until, step, Answer, taken, refused, grant, rest, quiet}
use Rattle.trials.specs.Text.{text_of}
use Rattle.trials.specs.Row.{Row, ◌⟶◌, ◌before◌, refusing, taking, running}
use Rattle.trials.specs.Plans.{tree01, figures01, plan01, plan01_default, nine, short_interrupt, framed, ring, six_levels, three_levels}

-- M1: one hub of 9 nodes, pointer 3 (by a grant to node 2), normal from 2, 3, 5, 9: granted 3, 5, 9, 2
abbrev pub m1 : Row
m1 =
    taking nine 9 1
    (ask normal 0 2 1000 ⟶ taken
    ∷ step 1 ⟶ grant 0 2 normal 2000 0
    ∷ ask normal 1 2 1000 ⟶ taken
    ∷ ask normal 1 3 1000 ⟶ taken
    ∷ ask normal 1 5 1000 ⟶ taken
    ∷ ask normal 1 9 1000 ⟶ taken
    ∷ step 100000 ⟶ grant 2000 3 normal 4000 0
    ∷ step 100000 ⟶ grant 4000 5 normal 6000 0
    ∷ step 100000 ⟶ grant 6000 9 normal 8000 0
    ∷ step 100000 ⟶ grant 8000 2 normal 10000 0
    ∷ [])

-- M2: the same hub, pointer 9 (by a grant to node 8), only node 1 stands: 1
abbrev pub m2 : Row
m2 =
    taking nine 9 1
    (ask normal 0 8 1000 ⟶ taken
    ∷ step 1 ⟶ grant 0 8 normal 2000 0
    ∷ ask normal 1 1 1000 ⟶ taken
    ∷ step 100000 ⟶ grant 2000 1 normal 4000 0
    ∷ [])

-- M3: after a normal grant to 2, normal from 2 while that packet runs: granted, 2 moves
abbrev pub m3 : Row
m3 =
    taking plan01 4 2
    (ask normal 0 2 12000 ⟶ taken
    ∷ step 1 ⟶ grant 0 2 normal 13000 1
    ∷ ask normal 1 2 1000 ⟶ taken
    ∷ step 100000 ⟶ grant 13000 2 normal 15000 2
    ∷ [])

-- M4: after a normal grant to 2, high from 4 (reserved) while it runs: 1 move; then normal from 2 and 3 while that one runs: node 3, 1 move
abbrev pub m4 : Row
m4 =
    taking plan01 4 2
    (reserve 0 4 1 4000 ⟶ taken
    ∷ ask normal 100000 2 12000 ⟶ taken
    ∷ step 100001 ⟶ grant 100000 2 normal 113000 1
    ∷ ask high 100001 4 4000 ⟶ taken
    ∷ step 113001 ⟶ grant 113000 4 high 118000 1
    ∷ ask normal 113001 2 1000 ⟶ taken
    ∷ ask normal 113001 3 1000 ⟶ taken
    ∷ step 200000 ⟶ grant 118000 3 normal 120000 1
    ∷ [])

-- M5: alone, 29 packets of 2,000: 13,000 + 29 × 3,000 = 100,000, granted; of 2,001: 17
abbrev pub m5_granted : Row
m5_granted = taking plan01 4 2 (reserve 0 3 29 2000 ⟶ taken ∷ [])

abbrev pub m5_refused : Row
m5_refused = taking plan01 4 2 (reserve 0 3 29 2001 ⟶ refused 17 ∷ [])

-- M6: n = 64 passes row 14 (13,000 + 64 × 1,512 is above 100,000, so the
-- first row to say no is 17), 65 gives 14; n = 0 with b = 512 gives 15
abbrev pub m6 : Row
m6 =
    taking plan01 4 2
    (reserve 0 3 64 512 ⟶ refused 17
    ∷ reserve 0 3 65 512 ⟶ refused 14
    ∷ reserve 0 3 0 512 ⟶ refused 15
    ∷ [])

-- M7: 512 and 12,000 pass row 15; 511 and 12,001 don't. In a normal request,
-- in a reservation, and in a high request with 12,000 bits in force
abbrev pub m7_normal : Row
m7_normal =
    taking plan01 4 2
    (ask normal 0 1 511 ⟶ refused 15
    ∷ ask normal 0 1 512 ⟶ taken
    ∷ ask normal 0 1 12000 ⟶ taken
    ∷ ask normal 0 1 12001 ⟶ refused 15
    ∷ [])

abbrev pub m7_reserve : Row
m7_reserve =
    taking plan01 4 2
    (reserve 0 3 1 511 ⟶ refused 15
    ∷ reserve 0 3 1 512 ⟶ taken
    ∷ reserve 0 3 1 12000 ⟶ taken
    ∷ reserve 0 3 1 12001 ⟶ refused 15
    ∷ [])

abbrev pub m7_high : Row
m7_high =
    taking plan01 4 2
    (reserve 0 3 1 12000 ⟶ taken
    ∷ ask high 100000 3 511 ⟶ refused 15
    ∷ ask high 100000 3 512 ⟶ taken
    ∷ ask high 100000 3 12000 ⟶ taken
    ∷ ask high 100000 3 12001 ⟶ refused 15
    ∷ [])

-- M8: node 3 reserves one packet of 4,000 in frame 0. High at 100,000 is granted then, 1 move,
-- to 105,000. High again at 100,500: rest at 105,000, 1 move; grant at 200,000, 3 moves
abbrev pub m8 : Row
m8 =
    taking plan01 4 2
    (reserve 0 3 1 4000 ⟶ taken
    ∷ ask high 100000 3 4000 ⟶ taken
    ∷ step 100500 ⟶ grant 100000 3 high 105000 1
    ∷ ask high 100500 3 4000 ⟶ taken
    ∷ step 300000 ⟶ rest 105000 1
    ∷ step 300000 ⟶ grant 200000 3 high 205000 3
    ∷ [])

-- M9: a step with its bound equal to the due instant: quiet. The instant is the clock, where a request counts; a
-- busy line's end; and the next frame's start, where a request is held. A bound one above it isn't quiet
abbrev pub m9 : Row
m9 =
    taking plan01 4 2
    (reserve 0 3 1 4000 ⟶ taken
    ∷ ask high 100000 3 4000 ⟶ taken
    ∷ step 100000 ⟶ quiet
    ∷ step 100001 ⟶ grant 100000 3 high 105000 1
    ∷ ask high 100001 3 4000 ⟶ taken
    ∷ step 105000 ⟶ quiet
    ∷ step 105001 ⟶ rest 105000 1
    ∷ step 200000 ⟶ quiet
    ∷ step 200001 ⟶ grant 200000 3 high 205000 3
    ∷ [])

-- M10: interrupt 12,999: 2. Six levels: 3
abbrev pub m10_interrupt : Row
m10_interrupt = refusing short_interrupt 3 2

abbrev pub m10_levels : Row
m10_levels = refusing six_levels 9 3

-- M11, for request 4 of document 02, worked out by hand: nodes 1 and 2 stand in hub 3, nodes 3 and 4 in
-- hub 2 above it. a to e are the moves of the last five grants, which by the old rule 2 were others
abbrev pub three_levels_by : ℕ → ℕ → ℕ → ℕ → ℕ → Row
three_levels_by a b c d e =
    taking three_levels 5 3
    (reserve 0 2 1 1000 ⟶ taken
    ∷ reserve 0 3 1 1000 ⟶ taken
    ∷ reserve 0 4 1 1000 ⟶ taken
    -- down to hub 3
    ∷ ask normal 100000 1 1000 ⟶ taken
    ∷ step 100001 ⟶ grant 100000 1 normal 102000 2
    -- no high pointer is marked: up to the root, and down to hub 2
    ∷ ask high 100001 3 1000 ⟶ taken
    ∷ step 102001 ⟶ grant 102000 3 high 104000 3
    -- the root's normal pointer leads to hub 2, the holder: from there down to hub 3
    ∷ ask normal 102001 2 1000 ⟶ taken
    ∷ step 104001 ⟶ grant 104000 2 normal 106000 a
    -- the root's high pointer leads to hub 2, and hub 2's stands behind node 3: up to hub 2
    ∷ ask high 104001 4 1000 ⟶ taken
    ∷ step 106001 ⟶ grant 106000 4 high 108000 b
    -- from hub 2 down to hub 3, which has passed node 1: up to the root, round, and down to hub 3
    ∷ ask normal 106001 1 1000 ⟶ taken
    ∷ step 108001 ⟶ grant 108000 1 normal 110000 c
    -- up to hub 2, which has passed hub 3: up to the root, round, and down to hub 3
    ∷ ask high 108001 2 1000 ⟶ taken
    ∷ step 110001 ⟶ grant 110000 2 high 112000 d
    -- both normal pointers above hub 3 lead to it
    ∷ ask normal 110001 2 1000 ⟶ taken
    ∷ step 112001 ⟶ grant 112000 2 normal 114000 e
    ∷ step 200000 ⟶ rest 114000 2
    ∷ [])

abbrev pub m11 : Row
m11 = three_levels_by 1 1 5 4 0

-- what the climb to the root took
abbrev pub m11_from_root : Row
m11_from_root = three_levels_by 3 3 7 6 4

-- M12, for request 3 of document 02: with framing 5 512 and 36,000 pass row 15, and 511 and 36,001 don't
abbrev pub m12_lengths : Row
m12_lengths =
    taking ring 4 2
    (ask normal 0 1 511 ⟶ refused 15
    ∷ ask normal 0 1 512 ⟶ taken
    ∷ ask normal 0 1 36000 ⟶ taken
    ∷ ask normal 0 1 36001 ⟶ refused 15
    ∷ reserve 0 3 1 36001 ⟶ refused 15
    ∷ reserve 0 3 1 36000 ⟶ taken
    -- a packet of 36,000 and its overhead
    ∷ step 200000 ⟶ grant 0 1 normal 37000 0
    ∷ step 200000 ⟶ rest 37000 0
    ∷ ask high 200000 3 36001 ⟶ refused 15
    ∷ ask high 200000 3 36000 ⟶ taken
    ∷ step 200001 ⟶ grant 200000 3 high 237000 1
    ∷ [])

-- with framing 3 written out 12,000 is the longest, as without the line
abbrev pub m12_three : Row
m12_three =
    taking (framed "(interrupt 13000)" "(framing 3)") 4 2
    (ask normal 0 1 12000 ⟶ taken ∷ ask normal 0 1 12001 ⟶ refused 15 ∷ [])

-- the rows of the framing's line: 1, then 4, then 2; D below 12,000 + O is 2 on its own line
abbrev pub m12_refused : List Row
m12_refused =
    refusing (framed "(interrupt 37000)" "(framing)") 4 1
    ∷ refusing (framed "(interrupt 37000)" "(framing 03)") 4 1
    ∷ refusing (framed "(interrupt 37000)" "(framing 12345678901234567)") 4 1
    ∷ refusing (framed "(interrupt 37000)" "(framing 1234567890123456)") 4 4
    ∷ refusing (framed "(interrupt 13000)" "(framing 4)") 4 4
    ∷ refusing (framed "(interrupt 36999)" "(framing 5)") 4 2
    ∷ refusing (framed "(interrupt 12999)" "(framing 4)") 3 2
    ∷ []

-- and a framing line anywhere else is 1: before the interrupt, twice, behind the root's `(hub`
abbrev pub m12_elsewhere : List Row
m12_elsewhere =
    refusing (framed "(framing 5)" "(interrupt 37000)") 3 1
    ∷ refusing (text_of (figures01 ++ "(framing 3)" ∷ "(framing 3)" ∷ tree01)) 5 1
    ∷ refusing (text_of (figures01 ++ "(hub" ∷ "(framing 3)" ∷ "(node)" ∷ ")" ∷ [])) 5 1
    ∷ []

-- M13, for request 8 of document 02: document 01's own calls without the line `(strict)`.
-- The request that its log refuses is taken as a normal one
abbrev pub m13_default : Row
m13_default =
    running plan01_default 4 2
    ([] before reserve 0 3 2 4000 ⟶ taken
    ∷ [] before ask normal 0 1 12000 ⟶ taken
    ∷ [] before ask normal 0 4 6000 ⟶ taken
    ∷ [] before ask high 0 3 4000 ⟶ taken
    ∷ (grant 0 1 normal 13000 0 ∷ grant 13000 3 normal 18000 1 ∷ grant 18000 4 normal 25000 1 ∷ rest 25000 0 ∷ []) before ask normal 99000 2 12000 ⟶ taken
    ∷ (grant 99000 2 normal 112000 1 ∷ []) before ask high 100000 3 4000 ⟶ taken
    ∷ [] before ask normal 100000 1 1000 ⟶ taken
    ∷ (grant 112000 3 high 117000 2 ∷ grant 117000 1 normal 119000 1 ∷ rest 119000 0 ∷ []) before until 200000 ⟶ taken
    ∷ [])

-- n in force is that at the event's time, here a frame later than the clock: nothing in frames 0 and 2, a packet of 1,000 in frame 1;
-- 15 comes before. What is said of high requests where nothing is in force, and the turns of the second one
abbrev pub m13_in_force : List ℕ → Answer → List Answer → Row
m13_in_force plan unreserved turns =
    running plan 4 2
    ([] before reserve 0 3 1 1000 ⟶ taken
    ∷ [] before ask high 0 3 511 ⟶ refused 15
    ∷ [] before ask high 0 3 12001 ⟶ refused 15
    ∷ [] before ask high 100000 3 1001 ⟶ refused 16
    ∷ [] before ask high 100000 3 1000 ⟶ taken
    ∷ (grant 100000 3 high 102000 1 ∷ rest 102000 1 ∷ []) before reserve 150000 3 0 0 ⟶ taken
    ∷ [] before ask high 200000 3 1000 ⟶ unreserved
    ∷ turns before until 250000 ⟶ taken
    ∷ [])

-- a request taken as normal stays so when a reservation comes into force, and its grant is a normal one: the share is whole
abbrev pub m13_stays_normal : Row
m13_stays_normal =
    running plan01_default 4 2
    ([] before reserve 0 3 1 1000 ⟶ taken
    ∷ [] before ask normal 99000 1 12000 ⟶ taken
    ∷ (grant 99000 1 normal 112000 0 ∷ []) before ask high 99999 3 1000 ⟶ taken
    ∷ (grant 112000 3 normal 114000 1 ∷ []) before ask high 112001 3 1000 ⟶ taken
    ∷ (grant 114000 3 high 116000 2 ∷ rest 116000 1 ∷ []) before until 200000 ⟶ taken
    ∷ [])

abbrev pub m13 : List Row
m13 =
    m13_default ∷ m13_stays_normal ∷ m13_in_force plan01 (refused 16) []
    ∷ m13_in_force plan01_default taken (grant 200000 3 normal 202000 1 ∷ rest 202000 1 ∷ []) ∷ []

-- the line stands just before the root's `(hub`, behind any framing's; anywhere else, twice or with a number it is 1
abbrev pub m13_lines : List Row
m13_lines =
    taking (text_of (figures01 ++ "(framing 3)" ∷ "(strict)" ∷ tree01)) 4 2 (ask high 0 1 512 ⟶ refused 16 ∷ [])
    ∷ taking (text_of (figures01 ++ "(framing 3)" ∷ tree01)) 4 2 (ask high 0 1 512 ⟶ taken ∷ [])
    ∷ refusing (text_of (figures01 ++ "(strict)" ∷ "(framing 3)" ∷ tree01)) 5 1
    ∷ refusing (text_of (figures01 ++ "(strict)" ∷ "(strict)" ∷ tree01)) 5 1
    ∷ refusing (text_of (figures01 ++ "(strict 1)" ∷ tree01)) 4 1
    ∷ refusing (text_of (figures01 ++ "(strict )" ∷ tree01)) 4 1
    ∷ refusing (text_of ("(strict)" ∷ figures01 ++ tree01)) 1 1
    ∷ refusing (text_of (figures01 ++ "(hub" ∷ "(strict)" ∷ "(node)" ∷ ")" ∷ [])) 5 1
    ∷ refusing (text_of (figures01 ++ "(strict)" ∷ [])) 5 1
    ∷ []

abbrev pub cases : List Row
cases =
    m1 ∷ m2 ∷ m3 ∷ m4 ∷ m5_granted ∷ m5_refused ∷ m6 ∷ m7_normal ∷ m7_reserve ∷ m7_high ∷ m8 ∷ m9 ∷ m10_interrupt
    ∷ m10_levels ∷ m11 ∷ m12_lengths ∷ m12_three ∷ m12_refused ++ m12_elsewhere ++ m13 ++ m13_lines

-- cases by the old rule 2: M4's counts are the same by both
abbrev pub cases_from_root : List Row
cases_from_root = m4 ∷ m11_from_root ∷ []
