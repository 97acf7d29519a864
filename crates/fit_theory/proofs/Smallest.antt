-- In every hub that a run reaches, at a time that 11 and 12 allow, the change that is named is the smallest that fits, and no other
-- answer is right.
use Prim.Native.Nat.{ℕ}
use mathlib.Core.Path.{◌≡◌, refl, sym, subst}
use mathlib.Core.List.{List}
use native.Mathlib.Omega.{arith}
use borrow.Author.Tests.{leb-true, leb-false, eqb-true, eqb-false}
use lib.Dec.{eqb, leb}
use Rattle.rules.specs.Plan.{Plan}
use Rattle.rules.specs.Drawn.{Within}
use Rattle.rules.specs.Core.{Core}
use Rattle.rules.specs.Call.{until}
use Rattle.rules.specs.Rows.{load}
use Rattle.rules.specs.Run.{Entry}
use Rattle.rules.proofs.Laws.Passes.{Which, which, yes', no'}
use Rattle.plan.specs.Reading.{reading}
use Rattle.plan_theory.specs.Taken.{TakenAs}
use Rattle.cells.specs.Decode.{plan_in, core_of}
use Rattle.cells.specs.Calls.{row_by}
use Rattle.demands.specs.Demands.{Calls}
use Rattle.offers.specs.Offers.{Offer, answer_to}
use Rattle.fit.specs.Change.{Fit, Answer, Packets, Bits, Release, Nothing}
use Rattle.fit.specs.Fit.{frame_room, fit_within, fit_for}
use Rattle.fit_theory.specs.Changes.{Change, release, Possible, First, Means}
use Rattle.fit_theory.specs.Smallest.{answer_with, MeansHere, Smallest}
use Rattle.fit_theory.proofs.ByRoom.{by_room}
use Rattle.fit_theory.proofs.Alone.{only_one}
use Rattle.fit_theory.proofs.Rows.{with_change, with_release, no_room, released}

-- what each case means is carried over to other words for fitting and failing, which follow for every possible change
module _ (p : Plan) (s : Core) (o : Offer) {Fits Fails Fits' Fails' : Change → Type 0}
    (fits : (d : Change) → Possible p s o d → Fits d → Fits' d) (fails : (d : Change) → Possible p s o d → Fails d → Fails' d) where
  first_carried : {d : Change} → First p s o Fits Fails d → First p s o Fits' Fails' d
  first_carried {d} f =
      record { possible = f.possible; fits = fits d f.possible f.fits; before = λ e w l. fails e w (f.before e w l) }

  pub carried : (answer : ℕ) (x : Fit) → Means p s o Fits Fails answer x → Means p s o Fits' Fails' answer x
  carried answer (Answer r) m = m
  carried answer (Packets n) m = (m.0, first_carried m.1)
  carried answer (Bits b) m = (m.0, first_carried m.1)
  carried answer (Release j) m = (m.0, first_carried m.1)
  carried answer Nothing m = (m.0, λ d w. fails d w (m.1 d w))

module _ (text : List ℕ) (nodes hubs at line : ℕ) (plan : TakenAs text nodes hubs at line) (past : List Entry) (s : List ℕ) where
  abbrev P : List ℕ
  P = (reading text).tables

  abbrev p : Plan
  p = plan_in P

  abbrev core : Core
  core = core_of p s

  module _ (c : Calls P past s) (t : ℕ) (on_time : row_by P (until t) s ≡ 0) (o : Offer) where
    abbrev answer : ℕ
    answer = answer_to P t s o

    -- a 17 is by the room that the frame has left
    in_full : answer ≡ 17 → MeansHere P t s o (fit_within p core (frame_room p core o.node) o.node o.packets o.bits)
    in_full full =
        let room = frame_room p core o.node in
        let found = fit_within p core room o.node o.packets o.bits in
        let decided = with_change text nodes hubs at line plan past s c t on_time o full in
        subst (λ (a : ℕ). Means p core o (λ d. answer_with P t s o d ≡ 0) (λ d. answer_with P t s o d ≡ 17) a found) (sym full)
        (carried p core o (λ d w. (decided d w).fits) (λ d w. (decided d w).fails) 17 found (by_room p core room o))

    means : MeansHere P t s o (fit_for P t s o)
    unfolding fit_for
    means = go (which (eqb answer 17))
      where
        go : Which (eqb answer 17) → MeansHere P t s o (fit_for P t s o)
        go (yes' e) = rw e (in_full (eqb-true answer 17 e))
        go (no' e) = rw e (refl, eqb-false answer 17 e)

    alone : (x : Fit) → MeansHere P t s o x → x ≡ fit_for P t s o
    alone x m =
        only_one p core o (λ d. answer_with P t s o d ≡ 0) (λ d. answer_with P t s o d ≡ 17) (λ d f g. omega arith) answer x (fit_for P t s o) m means

    -- of another node for which nothing is reserved the room gets no more
    no_use : (j : ℕ) → Within p.nodes j → (j ≡ o.node → ⊥) → (Possible p core o (release j) → ⊥) → answer ≡ 17
        → answer_with P t s o (release j) ≡ 17
    no_use j w other unnamed full =
        let none : (core.latest j).packets ≡ 0 = nothing_there (which (leb 1 (core.latest j).packets)) in
        let free : load p (core.latest j) ≡ 0 = rw none (omega arith) in
        (with_release text nodes hubs at line plan past s c t on_time o full j w other).fails
        (omega (arith, free, no_room text nodes hubs at line plan past s c t on_time o full))
      where
        nothing_there : Which (leb 1 (core.latest j).packets) → (core.latest j).packets ≡ 0
        nothing_there (yes' e) = absurd (unnamed (w, other, leb-true 1 (core.latest j).packets e))
        nothing_there (no' e) = omega (arith, leb-false 1 (core.latest j).packets e)

  pub smallest : Calls P past s → (t : ℕ) → row_by P (until t) s ≡ 0 → Smallest P t s
  smallest c t on_time =
      record {
        means = means c t on_time;
        alone = alone c t on_time;
        released = released text nodes hubs at line plan past s c t on_time;
        no_use = no_use c t on_time;
      }
