-- A worked list with offers, on document 01's plan: T = 100,000, O = 1,000 and D = 13,000, so that 87,000 can be reserved.
use Rattle.std.specs.Prelude.{ℕ, ◌≡◌, List, [], ◌∷◌, ◌++◌, reverse, replicate}
use Rattle.rules.specs.Call.{high, ask, reserve, until, step, taken, refused, grant}
use Rattle.plan.specs.Tables.{plan_of}
use Rattle.plan.specs.Reading.{reading}
use Rattle.plan_theory.specs.Taken.{TakenAs}
use Rattle.trials.specs.Plans.{plan01}
use Rattle.beside.specs.Beside.{Reply, refusal, told, entry, Item, of_hub, aside}
use Rattle.beside.specs.Extended.{Extended}
use Rattle.beside.specs.Run.{ran}
use Rattle.offers.specs.Offers.{Offer, offers_in, answers_to}
use Rattle.offers_theory.specs.Order.{no_offer, at_places}
use Rattle.offers_theory.specs.Offering.{offering, InLists}

abbrev pub P01 : List ℕ
P01 = (reading plan01).tables

-- offers into a buffer, with what is heard of them
abbrev pub offers : List ℕ → List ℕ → Reply (List ℕ) → Item offering
offers numbers buffer r = aside (record { numbers = numbers; buffer = buffer }) r

-- one bit too long, and twice what fits alone; and the same from the last to the first
abbrev pub three : List ℕ
three = 4 ∷ 1 ∷ 2001 ∷ 4 ∷ 1 ∷ 2000 ∷ 4 ∷ 1 ∷ 2000 ∷ []

abbrev pub turned : List ℕ
turned = 4 ∷ 1 ∷ 2000 ∷ 4 ∷ 1 ∷ 2000 ∷ 4 ∷ 1 ∷ 2001 ∷ []

-- in the order in which the calls are made
abbrev pub worked : List (Item offering)
worked =
    reverse
    -- 30,000, 30,000 and 24,000 leave 3,000
    (of_hub (entry (reserve 0 1 10 2000) taken)
    ∷ of_hub (entry (reserve 0 2 10 2000) taken)
    ∷ of_hub (entry (reserve 0 3 8 2000) taken)
    -- the two bytes behind the answers stay
    ∷ offers three (7 ∷ 7 ∷ 7 ∷ 7 ∷ 7 ∷ []) (told (17 ∷ 0 ∷ 0 ∷ 7 ∷ 7 ∷ []))
    ∷ offers turned (7 ∷ 7 ∷ 7 ∷ 7 ∷ 7 ∷ []) (told (0 ∷ 0 ∷ 17 ∷ 7 ∷ 7 ∷ []))
    -- a node's own old reservation makes room
    ∷ offers (1 ∷ 11 ∷ 2000 ∷ 1 ∷ 12 ∷ 2000 ∷ []) (7 ∷ 7 ∷ []) (told (0 ∷ 17 ∷ []))
    -- rows in their order, and reservations that are given up
    ∷ offers (9 ∷ 65 ∷ 0 ∷ 1 ∷ 65 ∷ 0 ∷ 1 ∷ 64 ∷ 511 ∷ 1 ∷ 0 ∷ 5 ∷ 1 ∷ 0 ∷ 0 ∷ []) (7 ∷ 7 ∷ 7 ∷ 7 ∷ 7 ∷ []) (told (13 ∷ 14 ∷ 15 ∷ 15 ∷ 0 ∷ []))
    -- a buffer that is too short, numbers that end within an offer, and no offer
    ∷ offers (4 ∷ 1 ∷ 2000 ∷ 4 ∷ 1 ∷ 2000 ∷ []) (7 ∷ []) (refusal 18)
    ∷ offers (4 ∷ 1 ∷ 2000 ∷ 4 ∷ []) [] (refusal 1)
    ∷ offers [] [] (told [])
    -- 64 offers and 65, each of node 1 with a packet of one bit
    ∷ offers (replicate 192 1) (replicate 65 7) (told (replicate 64 15 ++ 7 ∷ []))
    ∷ offers (replicate 195 1) (replicate 65 7) (refusal 18)
    -- nothing was reserved by any of them
    ∷ of_hub (entry (reserve 0 4 1 2001) (refused 17))
    ∷ of_hub (entry (reserve 0 4 1 2000) taken)
    ∷ of_hub (entry (until 100000) taken)
    ∷ of_hub (entry (ask high 100000 3 2000) taken)
    -- a grant is due at the clock, which is no 12 there
    ∷ offers (4 ∷ 1 ∷ 2000 ∷ 3 ∷ 9 ∷ 2000 ∷ []) (7 ∷ 7 ∷ []) (told (0 ∷ 17 ∷ []))
    ∷ of_hub (entry (step 200000) (grant 100000 3 high 103000 1))
    ∷ [])

-- node 4 keeps what it has, and a node that the plan hasn't
abbrev pub two : List Offer
two = record { node = 4; packets = 1; bits = 2000 } ∷ record { node = 9; packets = 1; bits = 2000 } ∷ []

pub record Worked : Type 0 where
  -- the plan's text is taken, with 4 nodes and 2 hubs; it ends at byte 100, and the next line would be line 13
  pub taken : TakenAs plan01 4 2 100 13
  -- made by computing, the calls are answered as they stand there
  pub answered : (ran offering P01 worked).items ≡ worked
  -- the second list of offers has those of the first at places 2, 1 and 0, as `OrderFree` asks
  pub places : offers_in turned ≡ at_places no_offer (offers_in three) (2 ∷ 1 ∷ 0 ∷ [])
  -- behind it the line is busy until 103,000: at a time above that each offer is 12, whatever it offers, and before the clock 11
  pub at_end : answers_to P01 103000 (ran offering P01 worked).cells two ≡ (0 ∷ 13 ∷ [])
  pub above_end : answers_to P01 103001 (ran offering P01 worked).cells two ≡ (12 ∷ 12 ∷ [])
  pub before_clock : answers_to P01 99999 (ran offering P01 worked).cells two ≡ (11 ∷ 11 ∷ [])
  -- so it is such a list, and all that is promised holds of it
  pub list : Extended offering P01 worked tt (ran offering P01 worked).cells
  pub in_lists : InLists P01 (plan_of P01) worked (ran offering P01 worked).cells
