-- What the exports tell of an answer, by the case that the callee's answer is.
use Rattle.std.specs.Prelude.{Option, Some, None, Ok}
use Prim.Native.Nat.{ℕ}
use mathlib.Core.Path.{◌≡◌, refl, sym, ap, ◌∙◌}
use mathlib.Core.List.{List}
use native.Mathlib.Omega.{arith}
use borrow.Author.Tests.{eqb-true}
use lib.Dec.{eqb}
use lib.ListN.{set}
use Rattle.rules.specs.Plan.{Plan}
use Rattle.rules.specs.Core.{Core}
use Rattle.rules.specs.Rows.{load}
use Rattle.rules.proofs.Laws.Passes.{Which, which, yes', no'}
use Rattle.plan.specs.Answer.{Answer, Taken, Refused}
use Rattle.cells.specs.declared.Step as code
use Rattle.cells.specs.declared.Step.TheVariants as done
use Rattle.cells.specs.Step.{Step, told_step}
use Rattle.cells.specs.Step as step
use Rattle.cells.specs.Decode.{plan_in, core_of}
use Rattle.cells.specs.Calls.{step_answer, step_wait}
use Rattle.offers.specs.Offers.{Offer, answer_to, clock_of}
use Rattle.fit.specs.Change.{Fit}
use Rattle.fit.specs.Change as fit
use Rattle.fit.specs.Fit.{frame_room, lower_packets, lower_bits, first_change, release_for, fit_within, fit_for}
use Rattle.call_list.specs.Table.{Seven, seven_of, step_seven, put_seven}
use Rattle.lembuya.specs.Exports.{read_number, put_told, step_number, put_step, put_fit, put_end}

-- ---- a plan

abbrev Told : List ℕ → Answer → ℕ → List ℕ → Type 0
Told told x r z = (r ≡ read_number x) × (z ≡ put_told x told)

pub taken_told : (told : List ℕ) (nodes hubs at line : ℕ) {x : Answer} {z : List ℕ} → Taken nodes hubs at line ≡ x
    → z ≡ set (set (set (set told 0 nodes) 1 hubs) 2 at) 3 line → Told told x 0 z
unfolding read_number put_told
taken_told told nodes hubs at line e written = (ap read_number e, written ∙ ap (λ (y : Answer). put_told y told) e)

pub refused_told : (told : List ℕ) (line number : ℕ) {x : Answer} → Refused line number ≡ x → Told told x number (set told 3 line)
unfolding read_number put_told
refused_told told line number e = (ap read_number e, ap (λ (y : Answer). put_told y told) e)

-- ---- a step

-- what is stored of a step that isn't refused, and the number that is answered
pub stepped : (x : code.Step) (answer : List ℕ) {y : Step} {z : Seven} → z ≡ step_seven (told_step (Ok x)) → told_step (Ok x) ≡ y
    → (z.number ≡ step_number y) × (put_seven 0 z answer ≡ put_step y answer)
unfolding step_number put_step
stepped x answer e same = (
  ap (λ (w : Seven). w.number) e ∙ ap step_number same,
  ap (λ (w : Seven). put_seven 0 w answer) e ∙ stored x ∙ ap (λ (w : Step). put_step w answer) same,
)
  where
    stored : (x : code.Step) → put_seven 0 (step_seven (told_step (Ok x))) answer ≡ put_step (told_step (Ok x)) answer
    stored (done.Grant time node class end moves wait) = refl
    stored (done.Rest time moves) = refl
    stored done.Quiet = refl

pub refused_step : (n : ℕ) (answer : List ℕ) {y : Step} → step.Refused n ≡ y → (n ≡ step_number y) × (answer ≡ put_step y answer)
unfolding step_number put_step seven_of step_answer step_wait
refused_step n answer same = (ap step_number same, ap (λ (w : Step). put_step w answer) same)

-- ---- what would make it fit

-- the number that is returned in each case: a change is told behind a 17
unfoldable pub fit_number : Fit → ℕ
fit_number (fit.Answer r) = r
fit_number (fit.Packets n) = 17
fit_number (fit.Bits b) = 17
fit_number (fit.Release j) = 17
fit_number fit.Nothing = 17

-- a change is told behind it, whichever it is
change_number : (n b j : ℕ) → fit_number (first_change n b j) ≡ 17
unfolding fit_number
change_number n b j = go (which (eqb n 0)) (which (eqb b 0)) (which (eqb j 0))
  where
    go : Which (eqb n 0) → Which (eqb b 0) → Which (eqb j 0) → fit_number (first_change n b j) ≡ 17
    go (no' x) _ _ = rw x
    go (yes' x) (no' y) _ = rw (x, y)
    go (yes' x) (yes' y) (no' z) = rw (x, y, z)
    go (yes' x) (yes' y) (yes' z) = rw (x, y, z)

within_number : (p : Plan) (s : Core) (room k n b : ℕ) → fit_number (fit_within p s room k n b) ≡ 17
unfolding fit_within
within_number p s room k n b =
    change_number (lower_packets p room n b) (lower_bits p room n b) (release_for p s room k (load p (record { packets = n; bits = b })))

-- so it is request 9's answer, whatever the tables hold
fit_number_lem : (P : List ℕ) (t : ℕ) (s : List ℕ) (o : Offer) → fit_number (fit_for P t s o) ≡ answer_to P t s o
unfolding fit_number fit_for
fit_number_lem P t s o = go (which (eqb (answer_to P t s o) 17))
  where
    go : Which (eqb (answer_to P t s o) 17) → fit_number (fit_for P t s o) ≡ answer_to P t s o
    go (yes' e) =
        let p = plan_in P in
        let c = core_of p s in
        rw e (within_number p c (frame_room p c o.node) o.node o.packets o.bits ∙ sym (eqb-true (answer_to P t s o) 17 e))
    go (no' e) = rw e

-- the number and what is written are those of the answer
pub fitted : (P s : List ℕ) (o : Offer) (change : List ℕ) {t : ℕ} {x : Fit} → x ≡ fit_for P t s o → t ≡ clock_of s → {r : ℕ} {z : List ℕ}
    → r ≡ fit_number x → z ≡ put_fit x change
    → (r ≡ answer_to P (clock_of s) s o) × (z ≡ put_fit (fit_for P (clock_of s) s o) change)
fitted P s o change e now number left =
    let same = e ∙ ap (λ (u : ℕ). fit_for P u s o) now in
    (number ∙ ap fit_number same ∙ fit_number_lem P (clock_of s) s o, left ∙ ap (λ (x : Fit). put_fit x change) same)

-- ---- a run

pub behind_end : (end : List ℕ) (z : ℕ) {x : Option ℕ} → Some z ≡ x → set end 0 z ≡ put_end x end
unfolding put_end
behind_end end z e = ap (λ (n : ℕ). set end 0 n) (omega arith) ∙ ap (λ (y : Option ℕ). put_end y end) e

pub short_end : (end : List ℕ) {x : Option ℕ} → None ≡ x → end ≡ put_end x end
unfolding put_end
short_end end e = ap (λ (y : Option ℕ). put_end y end) e
