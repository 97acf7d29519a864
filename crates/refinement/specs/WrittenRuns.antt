-- A list of calls worked out by hand, over the cells: an ask, a step and an `off` that write as many masks
-- as they may within a frame, and an ask that writes as many as it may where a frame starts.
use Rattle.std.specs.Prelude.{ℕ, ◌≡◌, true, List, [], ◌∷◌, map, reverse}
use Rattle.rules.specs.Call.{normal, high, Call, ask, off, reserve, step, Answer, taken, grant}
use Rattle.rules.specs.Run.{Entry}
use Rattle.plan_tree.specs.Tables.{no_table, put_root, put_hub, put_node, put_ports}
use Rattle.plan.specs.Tables.{put_figures}
use Rattle.cells.specs.Decode.{plan_in}
use Rattle.cells.specs.Run.{made_by}
use Rattle.cells.specs.Looks.{looks_by}
use Rattle.cells.specs.Written.{call_writes}
use Rattle.refinement.specs.Written.{most_by, most_at_start}

-- the figures of document 01's example; hub 1 has hub 2, and hub 2 has node 1
abbrev pub two_hubs : List ℕ
two_hubs =
    put_figures (record { frame = 100000; overhead = 1000; interrupt = 13000; framing = 3; strict = true }) 1 2
    (put_ports 1 1 (put_ports 2 1 (put_node 2 1 1 (put_hub 1 1 2 2 (put_root no_table)))))

-- of each call of a list, the latest first: a number told by the call and the cells before it
unfoldable pub each : List ℕ → (List ℕ → Call → List ℕ → ℕ) → List Call → List ℕ
each P count [] = []
each P count (call ∷ earlier) = count P call (made_by P earlier).cells ∷ each P count earlier

-- of each call the answer, the looks, the mask cells written and the most of them within a frame; and the most more at its start
pub record Figures : Type 0 where
  pub told : List Answer
  pub looked : List ℕ
  pub written : List ℕ
  pub in_frame : List ℕ
  pub at_start : ℕ

-- what the definitions give
unfoldable pub figures : List ℕ → List Call → Figures
figures P calls =
    record {
      told = map (λ (e : Entry). e.answer) (reverse (made_by P (reverse calls)).past);
      looked = reverse (each P looks_by (reverse calls));
      written = reverse (each P call_writes (reverse calls));
      in_frame = map (most_by (plan_in P)) calls;
      at_start = most_at_start (plan_in P);
    }

-- node 1's normal request stands as frame 1 starts, and becomes a high one with it:
-- 4 + 7 masks. Then it becomes normal again, both masks of both hubs change, and is removed
abbrev pub both_ways : List Call
both_ways =
    reserve 0 1 1 512 ∷ ask normal 99000 1 512 ∷ step 99001 ∷ ask normal 99000 1 512 ∷ ask high 100000 1 512 ∷ ask normal 100000 1 512 ∷ off 100000 1 ∷ []

abbrev pub expected : Figures
expected =
    record {
      told = taken ∷ taken ∷ grant 99000 1 normal 100512 1 ∷ taken ∷ taken ∷ taken ∷ taken ∷ [];
      looked = 0 ∷ 0 ∷ 2 ∷ 0 ∷ 0 ∷ 0 ∷ 0 ∷ [];
      written = 0 ∷ 2 ∷ 2 ∷ 2 ∷ 11 ∷ 4 ∷ 2 ∷ [];
      in_frame = 0 ∷ 4 ∷ 2 ∷ 4 ∷ 4 ∷ 4 ∷ 2 ∷ [];
      at_start = 7;
    }

abbrev pub AsWorked : Type 0
AsWorked = figures two_hubs both_ways ≡ expected
