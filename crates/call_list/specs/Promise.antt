-- What a list of calls made as one call promises: its number, both tables left behind, and that these calls,
-- with the answers that then stand in the table, are a list of calls, so that all the demands hold of it.
use Rattle.std.specs.Prelude.{ℕ, ◌<◌, ◌≡◌, true, false, List, ◌++◌, eqb, if◌then◌else◌}
use Rattle.rules.specs.Plan.{Plan}
use Rattle.rules.specs.Run.{Entry}
use Rattle.rules.specs.Waits.{WaitTold}
use Rattle.plan.specs.Tables.{plan_of}
use Rattle.plan.specs.Reading.{reading}
use Rattle.plan_theory.specs.Taken.{TakenAs}
use Rattle.cells.specs.Calls.{class_numbered}
use Rattle.demands.specs.Demands.{Calls, Demands}
use Rattle.call_list.specs.Table.{count_of, list_number, Seven, seven_at, Listed, list_from, entries}

-- a grant's seventh number is its wait, by the calls and answers before it
abbrev pub WaitIn : Plan → Seven → List Entry → Type 0
WaitIn p x before = x.number ≡ 1 → WaitTold p x.node (class_numbered x.class) x.time x.wait before

-- P and s are the plan's and the cascade's cells at entry, cs and ans the two tables; r
-- is the answer, z and bs the cascade's cells and the answers' table at exit
module _ (P s cs ans : List ℕ) where
  -- where the number isn't 0 nothing changes
  unfoldable pub list_by : Listed
  list_by = if eqb (list_number cs ans) 0 then list_from P cs 0 (count_of cs) s ans else record { cells = s; answers = ans }

  pub record ListPromise (r : ℕ) (z bs : List ℕ) : Type 0 where
    pub number : r ≡ list_number cs ans
    pub cells : z ≡ list_by.cells
    pub answers : bs ≡ list_by.answers
    -- behind any calls `past` from the fresh table, these calls with the answers that now stand in the table are a list of calls too
    pub list : (past : List Entry) → Calls P past s → r ≡ 0 → Calls P (entries cs bs (count_of cs) ++ past) z
    -- so that, for a plan text that was taken, all the demands hold of it, demand 3 among them
    pub demands : (text : List ℕ) (nodes hubs at line : ℕ) → TakenAs text nodes hubs at line → P ≡ (reading text).tables
        → (past : List Entry) → Calls P past s → r ≡ 0
        → Demands P (plan_of P) (entries cs bs (count_of cs) ++ past) z
    -- and each grant's wait is told by the calls and answers before it (request 1 of document 02)
    pub waits : (text : List ℕ) (nodes hubs at line : ℕ) → TakenAs text nodes hubs at line → P ≡ (reading text).tables
        → (past : List Entry) → Calls P past s → r ≡ 0 → (i : ℕ) → i < count_of cs → WaitIn (plan_of P) (seven_at bs i) (entries cs bs i ++ past)
