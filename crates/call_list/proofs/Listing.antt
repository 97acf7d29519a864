-- The calls of a table with the answers that then stand in the other are a
-- list of calls behind those made before: so the demands hold of it.
use Prim.Native.Nat.{ℕ, zero, suc, ◌+◌, ◌*◌, ◌≤◌}
use mathlib.Core.Path.{◌≡◌, refl, sym, ap, ap₂, subst, ◌∙◌}
use mathlib.Core.List.{List, ◌∷◌, ◌++◌}
use native.Mathlib.Nat.{add-zero, zero-add}
use native.Mathlib.Numerals.{add-one}
use native.Mathlib.Omega.{arith}
use lib.ListN.{length}
use Rattle.rules.specs.Call.{Call, ask, off, reserve, until, step, Answer}
use Rattle.rules.specs.Run.{Entry}
use Rattle.plan.specs.Tables.{plan_of}
use Rattle.plan.specs.Reading.{reading}
use Rattle.plan_theory.specs.Taken.{TakenAs}
use Rattle.cells.specs.Calls.{row_by, event_by, step_by, event_left, perform_by}
use Rattle.demands.specs.Demands.{Calls, event, stepping, Demands}
use Rattle.demands.proofs.Demands.{demands}
use Rattle.call_list.specs.Table.{call_at, count_of, Seven, told_of, answer_of, put_seven, list_from, entries}
use Rattle.call_list.proofs.Numbers.{told}
use Rattle.call_list.proofs.Tables.{length-put, at_other, at_same}

abbrev entry : Call → Answer → Entry
entry call answer = record { call = call; answer = answer }

-- one more call, whatever it is
pub one_more : (P : List ℕ) {past : List Entry} {s : List ℕ} → Calls P past s → (call : Call)
    → Calls P (entry call (perform_by P call s).answer ∷ past) (perform_by P call s).cells
unfolding perform_by event_left
one_more P {s = s} made (ask c t k b) =
    event made (ask c t k b) refl (row_by P (ask c t k b) s) (event_by P (ask c t k b) s) (refl, refl)
one_more P {s = s} made (off t k) = event made (off t k) refl (row_by P (off t k) s) (event_by P (off t k) s) (refl, refl)
one_more P {s = s} made (reserve t k n b) =
    event made (reserve t k n b) refl (row_by P (reserve t k n b) s) (event_by P (reserve t k n b) s) (refl, refl)
one_more P {s = s} made (until t) = event made (until t) refl (row_by P (until t) s) (event_by P (until t) s) (refl, refl)
one_more P {s = s} made (step t) = stepping made t (step_by P t s).answer (step_by P t s).cells (refl, refl)

-- an answer put behind the first n leaves their entries as they were
pub entries_other : (cs ans : List ℕ) (x : Seven) (i n : ℕ) → n ≤ i → entries cs (put_seven i x ans) n ≡ entries cs ans n
unfolding entries
entries_other cs ans x i zero l = refl
entries_other cs ans x i (suc n) l =
    ap₂ (λ (y : Seven) (more : List Entry). entry (call_at cs n) (answer_of y) ∷ more) (at_other i n x ans (omega arith))
    (entries_other cs ans x i n (omega arith))

-- call i's answer in its place: the entries of the calls up to it
pub entries-more : (P cs s ans : List ℕ) (i : ℕ) → i * 7 + 7 ≤ length ans
    → entries cs (put_seven i (told_of (perform_by P (call_at cs i) s)) ans) (i + 1)
    ≡ entry (call_at cs i) (perform_by P (call_at cs i) s).answer ∷ entries cs ans i
unfolding entries
entries-more P cs s ans i l =
    let x = told_of (perform_by P (call_at cs i) s) in
    rw (add-one i, entries)
    (ap₂ (λ (a : Answer) (more : List Entry). entry (call_at cs i) a ∷ more)
    (ap answer_of (at_same i x ans l) ∙ told P s (call_at cs i)) (entries_other cs ans x i i (omega arith)))

-- calls i to i + n - 1, the first i having been made
listed : (P cs : List ℕ) (past : List Entry) (i n : ℕ) (s ans : List ℕ) → (i + n) * 7 ≤ length ans → Calls P (entries cs ans i ++ past) s
    → Calls P (entries cs (list_from P cs i n s ans).answers (i + n) ++ past) (list_from P cs i n s ans).cells
unfolding list_from
listed P cs past i zero s ans l made = rw (add-zero i) made
listed P cs past i (suc n) s ans l made =
    let o = perform_by P (call_at cs i) s in
    let x = told_of o in
    let e : i + suc n ≡ i + 1 + n = omega arith in
    rw e
    (listed P cs past (i + 1) n o.cells (put_seven i x ans) (rw (length-put i x ans) (omega arith))
    (rw (entries-more P cs s ans i (omega arith)) (one_more P made (call_at cs i))))

-- what stands in both tables at the end is a list of calls
pub all_listed : (P cs s ans : List ℕ) → count_of cs * 7 ≤ length ans → (past : List Entry) → Calls P past s
    → Calls P (entries cs (list_from P cs 0 (count_of cs) s ans).answers (count_of cs) ++ past) (list_from P cs 0 (count_of cs) s ans).cells
unfolding entries
all_listed P cs s ans l past made = rw (zero-add (count_of cs)) at (listed P cs past 0 (count_of cs) s ans (omega arith) made)

-- so that it meets the demands
pub meets : (P : List ℕ) (text : List ℕ) (nodes hubs at line : ℕ) → TakenAs text nodes hubs at line → P ≡ (reading text).tables
    → (past : List Entry) (z : List ℕ) → Calls P past z → Demands P (plan_of P) past z
meets P text nodes hubs at line t e past z =
    subst (λ (Q : List ℕ). Calls Q past z → Demands Q (plan_of Q) past z) (sym e) (demands text nodes hubs at line t past z)
