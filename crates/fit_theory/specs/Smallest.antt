-- The change that is named is the smallest that a reserve shows to fit.
use Rattle.std.specs.Prelude.{ℕ, ◌≡◌, List}
use Rattle.rules.specs.Drawn.{Within}
use Rattle.rules.specs.Call.{reserve}
use Rattle.cells.specs.Decode.{plan_in, core_of}
use Rattle.cells.specs.Calls.{row_by, event_by}
use Rattle.offers.specs.Offers.{Offer, answer_to}
use Rattle.fit.specs.Change.{Fit}
use Rattle.fit.specs.Fit.{fit_for}
use Rattle.fit_theory.specs.Changes.{Change, packets, bits, release, Possible, Means}

-- P and s are the plan's and the hub's cells, t is the time
module _ (P : List ℕ) (t : ℕ) (s : List ℕ) where
  -- the answer to the offer so changed: that of the reserve at t, behind the release if it is one
  abbrev pub answer_with : Offer → Change → ℕ
  answer_with o (packets n) = row_by P (reserve t o.node n o.bits) s
  answer_with o (bits b) = row_by P (reserve t o.node o.packets b) s
  answer_with o (release j) = row_by P (reserve t o.node o.packets o.bits) (event_by P (reserve t j 0 0) s)

  -- a change fits where it is then answered 0, and fails where it is still answered 17
  abbrev pub MeansHere : Offer → Fit → Type 0
  MeansHere o = Means (plan_in P) (core_of (plan_in P) s) o (λ d. answer_with o d ≡ 0) (λ d. answer_with o d ≡ 17) (answer_to P t s o)

  pub record Smallest : Type 0 where
    -- the answer means what its case says, and no other answer does
    pub means : (o : Offer) → MeansHere o (fit_for P t s o)
    pub alone : (o : Offer) (x : Fit) → MeansHere o x → x ≡ fit_for P t s o
    -- a release is itself accepted
    pub released : (j : ℕ) → Within (plan_in P).nodes j → row_by P (reserve t j 0 0) s ≡ 0
    -- and that of another node which may not be named is of no use: of a 17 it makes a 17
    pub no_use : (o : Offer) (j : ℕ) → Within (plan_in P).nodes j → (j ≡ o.node → ⊥)
        → (Possible (plan_in P) (core_of (plan_in P) s) o (release j) → ⊥) → answer_to P t s o ≡ 17 → answer_with o (release j) ≡ 17
