-- `at_time` meets its contract: the buffer is that with the first i answers written.
use Prim.Native.Nat.{ℕ, ◌/◌}
use mathlib.Core.Path.{◌≡◌, refl, sym, ap, ◌∙◌}
use mathlib.Core.List.{List}
use native.Mathlib.Omega.{arith}
use lib.ListN.{length, set, length-set}
use Rattle.std.proofs.Common.{rules}
use Rattle.cells.specs.Step.{list_answer, misfit_number}
use Rattle.admission.proofs.BySum.{as_single}
use Rattle.offers.proofs.Laws.{is_misfit, offer_at, has_room, so_far, at_first, one_more, at_last, none_written}
use Rattle.offers.proofs.at_time.Goals as goal

pub returns-in_err-fitting : goal.returns-in_err-fitting
returns-in_err-fitting c =
    let a = c.args in
    let m = c.in_err-fitting.field-0.0 in
    let e = c.in_err-fitting.ensures in
    let same : list_answer c.from_residual.result ≡ misfit_number m = search rules in
    rw same (e, none_written a.p.now a.t a.s.now a.offers.now a.answers.now e (is_misfit m))

pub loop-i-init : goal.loop-i-init
loop-i-init c =
    let a = c.args in
    (refl, at_first a.p.now a.t a.s.now a.offers.now a.answers.now)

pub bounds-answers-i : goal.bounds-answers-i
bounds-answers-i c =
    let a = c.args in
    -- where the call isn't refused there is a byte for each answer
    let room = has_room a.p.now a.t a.s.now a.offers.now a.answers.now (sym c.in_ok-fitting.ensures) in
    omega (arith, c.loop-i.invariant.0, room, c.loop-i-test.true)

pub loop-i-preserved : goal.loop-i-preserved
loop-i-preserved c =
    let a = c.args in
    let room = has_room a.p.now a.t a.s.now a.offers.now a.answers.now (sym c.in_ok-fitting.ensures) in
    let inside = c.loop-i-test.true in
    let one = offer_at a.offers.now c.loop-i.i in (
      length-set c.loop-i.answers c.loop-i.i c.answer.result ∙ c.loop-i.invariant.0,
      ap (λ (b : List ℕ). set b c.loop-i.i c.answer.result) c.loop-i.invariant.1
          ∙ one_more a.p.now a.t a.s.now a.offers.now a.answers.now c.loop-i.i inside room c.answer.result
          (c.answer.ensures
          ∙ as_single a.p.now c.loads-all.result one.node one.packets one.bits a.s.now c.loads-all.ensures.value a.t c.time_row-late.ensures),
    )

pub shape_of-answers : goal.shape_of-answers
shape_of-answers c = c.loop-i.invariant.0

pub returns : goal.returns
returns c =
    let a = c.args in
    let z = sym c.in_ok-fitting.ensures in
    let all : c.loop-i.i ≡ length a.offers.now / 3 = omega (arith, c.loop-i-test.false) in (
      sym z,
      c.loop-i.invariant.1 ∙ ap (so_far a.p.now a.t a.s.now a.offers.now a.answers.now) all
          ∙ at_last a.p.now a.t a.s.now a.offers.now a.answers.now z,
    )
