-- `at_time` meets its contract: request 9's answer by its rows, and where that is 17, the change within the frame's room.
use mathlib.Core.List.{List}
use Rattle.std.proofs.Common.{rules}
use mathlib.Core.Path.{◌≡◌, refl, sym, ap, ◌∙◌}
use native.Mathlib.Omega.{arith}
use Rattle.plan.specs.Tables.{plan_of}
use Rattle.admission.proofs.ReserveRows.{reserve_stops, reserve_goes_on}
use Rattle.admission.proofs.BySum.{with_sum}
use Rattle.rules.specs.Call.{until}
use Rattle.rules.specs.Rows.{loads}
use Rattle.cells.specs.Decode.{plan_in, core_of}
use Rattle.cells.specs.Calls.{row_by}
use Rattle.cells.specs.Step.{number, refusal_number}
use Rattle.cells.specs.declared.Refusal.{Refusal}
use Rattle.cells.specs.declared.Refusal.TheVariants.{OutOfTime, StillDue, NoNode, TooMany, Outside, Unreserved, Overfull}
use Rattle.std.specs.Prelude.{Result, Ok, Err, eqb}
use denote.Enum.Bare.{sameb}
use mathlib.Core.Bool.{Bool, true, false, not, true≢false}
use Prim.Native.Nat.{ℕ}
use borrow.Author.Tests.{eq-eqb, eqb-true}
use Rattle.cells.specs.contracts.Refusal.{the_type}
use Rattle.fit.specs.Change.{Answer, told_fit}
use Rattle.rows.proofs.FirstRow.{is_refused}
use Rattle.admission.specs.Share.{share_row_with}
use Rattle.offers.specs.Offers.{Offer, answer_to}
use Rattle.fit.proofs.Named.{room_by_sum, comes_back, is_changed, time_row_small, full_passed}
use Rattle.fit.proofs.at_time.Goals as goal

pub returns-in_err-time_row : goal.returns-in_err-time_row
returns-in_err-time_row c =
    let a = c.args in
    let r = c.in_err-time_row.field-0.0 in
    let offer : Offer = record { node = a.k; packets = a.n; bits = a.b } in
    let same : told_fit c.from_residual.result ≡ Answer (refusal_number r) = search rules in
    same
    ∙ comes_back a.p.now a.t a.s.now offer (reserve_stops a.p.now a.s.now a.t a.k a.n a.b c.in_err-time_row.ensures (is_refused r))
    (λ z. omega (arith, c.in_err-time_row.ensures, time_row_small a.p.now a.s.now a.t))

-- in time, the row by the sum is request 9's answer
by-sum : (P s : List ℕ) (t k n b all : ℕ) {row : ℕ} → 0 ≡ row_by P (until t) s
    → all ≡ loads (plan_in P) (core_of (plan_in P) s).latest → row ≡ share_row_with P all k n b s
    → row ≡ answer_to P t s (record { node = k; packets = n; bits = b })
by-sum P s t k n b all f e r = reserve_goes_on P s t k n b f refl (r ∙ with_sum P all k n b s e)

granted : (x : Result (Unit {0}) Refusal) → ((r : Refusal) → x ≡ Err r → ⊥) → number x ≡ 0
granted (Ok u) h = refl
granted (Err r) h = absurd (h r refl)

pub returns-in_default : goal.returns-in_default
returns-in_default c =
    let a = c.args in
    let offer : Offer = record { node = a.k; packets = a.n; bits = a.b } in
    let is = by-sum a.p.now a.s.now a.t a.k a.n a.b c.loads-all.result c.in_ok-time_row.ensures c.loads-all.ensures.value (sym (granted c.share_row_with.result c.in_default.not-Err) ∙ c.share_row_with.ensures) in
    comes_back a.p.now a.t a.s.now offer is (λ z. omega (arith, z))

-- 17 is the number of `Overfull` alone
same_full : (r : Refusal) → sameb the_type r Overfull ≡ eqb (refusal_number r) 17
same_full OutOfTime = refl
same_full StillDue = refl
same_full NoNode = refl
same_full TooMany = refl
same_full Outside = refl
same_full Unreserved = refl
same_full Overfull = refl

is_full : (r : Refusal) {b : Bool} → b ≡ not (sameb the_type r Overfull) → b ≡ false → refusal_number r ≡ 17
is_full r e f = eqb-true _ _ (not_false (sym (ap not (same_full r)) ∙ sym e ∙ f))
  where
    not_false : {x : Bool} → not x ≡ false → x ≡ true
    not_false {x = true} h = refl
    not_false {x = false} h = absurd (true≢false h)

not_full : (r : Refusal) {b : Bool} → b ≡ not (sameb the_type r Overfull) → b ≡ true → refusal_number r ≡ 17 → ⊥
not_full r e t z = true≢false (sym t ∙ e ∙ ap not (same_full r ∙ eq-eqb _ _ z))

pub returns-then-ne : goal.returns-then-ne
returns-then-ne c =
    let a = c.args in
    let offer : Offer = record { node = a.k; packets = a.n; bits = a.b } in
    let is = by-sum a.p.now a.s.now a.t a.k a.n a.b c.loads-all.result c.in_ok-time_row.ensures c.loads-all.ensures.value c.in-Err.ensures in
    comes_back a.p.now a.t a.s.now offer is (not_full c.in-Err.row c.ne.ensures c.if-ne.true)

pub overflow_sub-at : goal.overflow_sub-at
overflow_sub-at c =
    let a = c.args in
    -- what a 17 says of the offer
    let passed = full_passed a.p.now c.loads-all.result a.k a.n a.b a.s.now (sym c.in-Err.ensures ∙ is_full c.in-Err.row c.ne.ensures c.if-ne.false) in
    omega (arith, passed.node)

pub overflow_add-at : goal.overflow_add-at
overflow_add-at c =
    let a = c.args in
    -- what a 17 says of the offer
    let passed = full_passed a.p.now c.loads-all.result a.k a.n a.b a.s.now (sym c.in-Err.ensures ∙ is_full c.in-Err.row c.ne.ensures c.if-ne.false) in
    omega (arith, passed.node)

pub offset_bounds-s-at : goal.offset_bounds-s-at
offset_bounds-s-at c =
    let a = c.args in
    -- what a 17 says of the offer
    let passed = full_passed a.p.now c.loads-all.result a.k a.n a.b a.s.now (sym c.in-Err.ensures ∙ is_full c.in-Err.row c.ne.ensures c.if-ne.false) in
    omega (arith, passed.node)

pub bounds-s-at : goal.bounds-s-at
bounds-s-at c =
    let a = c.args in
    -- what a 17 says of the offer
    let passed = full_passed a.p.now c.loads-all.result a.k a.n a.b a.s.now (sym c.in-Err.ensures ∙ is_full c.in-Err.row c.ne.ensures c.if-ne.false) in
    omega (arith, passed.node)

pub overflow_cast-n : goal.overflow_cast-n
overflow_cast-n c =
    let a = c.args in
    -- what a 17 says of the offer
    let passed = full_passed a.p.now c.loads-all.result a.k a.n a.b a.s.now (sym c.in-Err.ensures ∙ is_full c.in-Err.row c.ne.ensures c.if-ne.false) in
    omega (arith, passed.packets)

pub overflow_cast-b : goal.overflow_cast-b
overflow_cast-b c =
    let a = c.args in
    -- what a 17 says of the offer
    let passed = full_passed a.p.now c.loads-all.result a.k a.n a.b a.s.now (sym c.in-Err.ensures ∙ is_full c.in-Err.row c.ne.ensures c.if-ne.false) in
    omega (arith, passed.bits)

pub returns : goal.returns
unfolding plan_of
returns c =
    let a = c.args in
    let offer : Offer = record { node = a.k; packets = a.n; bits = a.b } in
    let full = is_full c.in-Err.row c.ne.ensures c.if-ne.false in
    -- what a 17 says of the offer
    let passed = full_passed a.p.now c.loads-all.result a.k a.n a.b a.s.now (sym c.in-Err.ensures ∙ full) in
    let is = by-sum a.p.now a.s.now a.t a.k a.n a.b c.loads-all.result c.in_ok-time_row.ensures c.loads-all.ensures.value c.in-Err.ensures in
    c.within.ensures
    ∙ is_changed a.p.now a.t a.s.now offer (sym full ∙ is)
    (c.frame_room-room.ensures ∙ room_by_sum a.p.now a.s.now c.loads-all.result a.k passed.node c.loads-all.ensures.value)
