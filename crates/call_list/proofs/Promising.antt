-- The promise of a list of calls, by its number: nothing is done, or every call is made.
use Prim.Native.Nat.{ℕ, ◌*◌, ◌%◌, ◌≤◌, ◌<◌}
use mathlib.Core.Path.{◌≡◌, sym, ◌∙◌}
use mathlib.Core.Bool.{true, false, ◌&&◌}
use mathlib.Core.List.{List, ◌++◌}
use native.Mathlib.Omega.{arith}
use borrow.Author.Tests.{ltb-false, eq-eqb, ne_eqb}
use lib.Dec.{eqb, ltb}
use lib.ListN.{length}
use Rattle.rules.specs.Run.{Entry}
use Rattle.rules.proofs.Laws.Passes.{Which, which, yes', no', and_both}
use Rattle.plan.specs.Tables.{plan_of}
use Rattle.cells.specs.declared.Misfit.{Misfit}
use Rattle.cells.specs.declared.Misfit.TheVariants.{Malformed, TooLong}
use Rattle.cells.specs.Step.{misfit_number}
use Rattle.demands.specs.Demands.{Calls, Demands}
use Rattle.call_list.specs.Table.{count_of, kinds_from, list_number, seven_at, list_from, entries}
use Rattle.call_list.specs.Promise.{WaitIn, list_by, ListPromise}
use Rattle.call_list.proofs.Listing.{all_listed, meets}
use Rattle.call_list.proofs.Waiting.{list_waits}

-- 0 says that each call is of some kind and that each answer has a place
pub record Ready (cs ans : List ℕ) : Type 0 where
  pub kinds : kinds_from cs 0 (count_of cs) ≡ true
  pub room : count_of cs * 7 ≤ length ans

pub ready : (cs ans : List ℕ) → list_number cs ans ≡ 0 → Ready cs ans
unfolding list_number
ready cs ans = go (which (eqb (length cs % 5) 0 && kinds_from cs 0 (count_of cs))) (which (ltb (length ans) (count_of cs * 7)))
  where
    go : Which (eqb (length cs % 5) 0 && kinds_from cs 0 (count_of cs)) → Which (ltb (length ans) (count_of cs * 7)) → list_number cs ans ≡ 0 → Ready cs ans
    go (no' k) y e = absurd (omega (arith, rw k at e))
    go (yes' k) (yes' l) e = absurd (omega (arith, rw (k, l) at e))
    go (yes' k) (no' l) e =
        record { kinds = (and_both (eqb (length cs % 5) 0) (kinds_from cs 0 (count_of cs)) k).1; room = ltb-false (length ans) (count_of cs * 7) l }

misfit_told : (m : Misfit) → misfit_number m ≡ 0 → ⊥
misfit_told Malformed e = omega arith
misfit_told TooLong e = omega arith

module _ (P s cs ans : List ℕ) where
  -- where the tables misfit both are as they were
  pub not_made : (m : Misfit) → misfit_number m ≡ list_number cs ans → ListPromise P s cs ans (misfit_number m) s ans
  unfolding list_by
  not_made m e =
      let d = misfit_told m in
      let n : eqb (list_number cs ans) 0 ≡ false = ne_eqb (list_number cs ans) 0 (λ z. d (e ∙ z)) in
      record {
        number = e;
        cells = rw n;
        answers = rw n;
        list = λ past made z. absurd (d z);
        demands = λ text nodes hubs at line t same past made z. absurd (d z);
        waits = λ text nodes hubs at line t same past made z. absurd (d z);
      }

  -- else both are as the calls leave them
  pub all_made : (z bs : List ℕ) → list_number cs ans ≡ 0 → z ≡ (list_from P cs 0 (count_of cs) s ans).cells
      → bs ≡ (list_from P cs 0 (count_of cs) s ans).answers → ListPromise P s cs ans 0 z bs
  unfolding list_by entries
  all_made z bs n g h =
      let y : eqb (list_number cs ans) 0 ≡ true = eq-eqb (list_number cs ans) 0 n in
      record {
        number = sym n;
        cells = rw y g;
        answers = rw y h;
        list = λ past made q. calls_made past made;
        demands = λ text nodes hubs at line t same past made q. meets P text nodes hubs at line t same (entries cs bs (count_of cs) ++ past) z (calls_made past made);
        waits = λ text nodes hubs at line t same past made q i l. rw h (waits_told_lem (meets P text nodes hubs at line t same) past made i l);
      }
    where
      calls_made : (past : List Entry) → Calls P past s → Calls P (entries cs bs (count_of cs) ++ past) z
      calls_made past made = rw (g, h) (all_listed P cs s ans (ready cs ans n).room past made)

      waits_told_lem : ((before : List Entry) (r : List ℕ) → Calls P before r → Demands P (plan_of P) before r) → (past : List Entry) → Calls P past s
          → (i : ℕ) → i < count_of cs → WaitIn (plan_of P) (seven_at (list_from P cs 0 (count_of cs) s ans).answers i) (entries cs (list_from P cs 0 (count_of cs) s ans).answers i ++ past)
      waits_told_lem all past made i l =
          list_waits P cs (plan_of P) past all 0 (count_of cs) s ans (omega (arith, (ready cs ans n).room)) made i (omega arith) (omega arith)
