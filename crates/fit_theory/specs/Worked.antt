-- A worked list with questions, on document 01's plan: T = 100,000, O = 1,000 and D = 13,000, so that 87,000 can be reserved.
use Rattle.std.specs.Prelude.{ℕ, ◌≡◌, List, [], ◌∷◌, reverse}
use Rattle.rules.specs.Call.{high, ask, reserve, until, step, taken, refused, grant}
use Rattle.plan.specs.Tables.{plan_of}
use Rattle.plan.specs.Reading.{reading}
use Rattle.plan_theory.specs.Taken.{TakenAs}
use Rattle.trials.specs.Plans.{plan01, framed}
use Rattle.beside.specs.Beside.{told, entry, Item, of_hub, aside}
use Rattle.beside.specs.Extended.{Extended}
use Rattle.beside.specs.Run.{ran}
use Rattle.fit.specs.Change.{Fit, Answer, Packets, Bits, Release, Nothing}
use Rattle.fit_theory.specs.Fitting.{fitting, InLists}

abbrev pub P01 : List ℕ
P01 = (reading plan01).tables

-- an offer, with what is heard of it
abbrev pub asked : ℕ → ℕ → ℕ → Fit → Item fitting
asked k n b x = aside (record { node = k; packets = n; bits = b }) (told x)

-- in the order in which the calls are made
abbrev pub worked : List (Item fitting)
worked =
    reverse
    -- 30,000, 30,000 and 24,000 leave 3,000
    (of_hub (entry (reserve 0 1 6 4000) taken)
    ∷ of_hub (entry (reserve 0 2 10 2000) taken)
    ∷ of_hub (entry (reserve 0 3 8 2000) taken)
    -- one of two packets has room, and of one packet the first 2,000 bits
    ∷ asked 4 2 2000 (Packets 1)
    ∷ asked 4 1 2001 (Bits 2000)
    ∷ asked 4 1 12000 (Bits 2000)
    -- 24,000 lack 21,000, which node 3 has; 32,000 lack 29,000, which it hasn't, and nodes 1 and 2 cost the same
    ∷ asked 4 6 3000 (Release 3)
    ∷ asked 4 8 3000 (Release 1)
    ∷ asked 4 10 3000 Nothing
    -- a node's own reservation is replaced: 33,000 are node 1's
    ∷ asked 1 9 3000 (Packets 8)
    ∷ asked 3 64 12000 (Packets 2)
    -- 6,048 are left: four packets of 512 bits have just room, and five haven't
    ∷ of_hub (entry (reserve 0 3 8 1619) taken)
    ∷ asked 4 4 6000 (Bits 512)
    ∷ asked 4 5 6000 (Release 1)
    ∷ of_hub (entry (reserve 0 3 8 2000) taken)
    -- what isn't 17 comes back
    ∷ asked 4 1 2000 (Answer 0)
    ∷ asked 9 1 2000 (Answer 13)
    ∷ asked 4 65 2000 (Answer 14)
    ∷ asked 4 1 511 (Answer 15)
    ∷ asked 1 0 0 (Answer 0)
    -- nothing was reserved or given up by any of them: what was named is made
    ∷ of_hub (entry (reserve 0 4 6 3000) (refused 17))
    ∷ of_hub (entry (reserve 0 3 0 0) taken)
    ∷ of_hub (entry (reserve 0 4 6 3000) taken)
    ∷ asked 3 6 3000 (Release 4)
    ∷ of_hub (entry (until 100000) taken)
    ∷ of_hub (entry (ask high 100000 4 3000) taken)
    -- a grant is due at the clock, which is no 12 there
    ∷ asked 3 1 3000 (Bits 2000)
    ∷ of_hub (entry (step 200000) (grant 100000 4 high 104000 0))
    ∷ [])

-- with framing 5 a packet may have 36,000 bits: T = 200,000 and D = 37,000 leave 163,000, and 90,000 and 36,001 of these 36,999
abbrev pub plan5 : List ℕ
plan5 = framed "(interrupt 37000)" "(framing 5)"

abbrev pub long : List (Item fitting)
long =
    reverse
    (of_hub (entry (reserve 0 1 3 29000) taken)
    ∷ of_hub (entry (reserve 0 3 1 35001) taken)
    ∷ asked 2 1 36000 (Bits 35999)
    ∷ asked 2 1 36001 (Answer 15)
    -- 36,000 more leave 999: one packet of node 3's is just enough, and one of node 4's a bit too little
    ∷ of_hub (entry (reserve 0 4 1 35000) taken)
    ∷ asked 2 1 36000 (Release 3)
    ∷ [])

pub record Worked : Type 0 where
  -- the plan's text is taken, with 4 nodes and 2 hubs; it ends at byte 100, and the next line would be line 13
  pub taken : TakenAs plan01 4 2 100 13
  -- made by computing, the calls are answered as they stand there
  pub answered : (ran fitting P01 worked).items ≡ worked
  pub long_answered : (ran fitting (reading plan5).tables long).items ≡ long
  -- so it is such a list, and all that is promised holds of it
  pub list : Extended fitting P01 worked tt (ran fitting P01 worked).cells
  pub in_lists : InLists P01 (plan_of P01) worked (ran fitting P01 worked).cells
