-- Which change is named: the first of the three that there is, and where request 9's answer isn't 17, that answer.
use Prim.Native.Nat.{ℕ, ◌+◌, ◌-◌, ◌≤◌}
use mathlib.Core.Path.{◌≡◌, sym, ap, ◌∙◌}
use mathlib.Core.List.{List, []}
use native.Mathlib.Omega.{arith}
use borrow.Author.Tests.{ne_eqb}
use lib.Dec.{eqb}
use lib.ListN.{get_or}
use Rattle.std.specs.Prelude.{if◌then◌else◌}
use Rattle.rules.specs.Plan.{Plan}
use Rattle.rules.specs.Drawn.{Within}
use Rattle.rules.specs.Core.{Core, nothing_reserved}
use Rattle.rules.specs.Call.{until}
use Rattle.rules.specs.Rows.{load, loads}
use Rattle.cells.specs.Layout.{latest_cell, share_of}
use Rattle.cells.specs.Decode.{plan_in, core_of}
use Rattle.cells.specs.Calls.{rows_by, row_by}
use Rattle.rows.proofs.FirstRow.{goes_on, first_at_most, before_last}
use Rattle.admission.specs.Share.{limit_rows, row17_with, share_row_with}
use Rattle.admission.proofs.ReserveRows.{Reserved, limits_kept}
use Rattle.admission.proofs.Shares.{latest_cell_lem, loads-put}
use Rattle.offers.specs.Offers.{Offer, answer_to}
use Rattle.fit.specs.Change.{Fit, Answer, Packets, Bits, Release, Nothing}
use Rattle.fit.specs.Fit.{lower_packets, lower_bits, first_change, release_for, frame_room, fit_within, fit_for}

module _ (p : Plan) (s : Core) (room k n b : ℕ) where
  abbrev needed : ℕ
  needed = load p (record { packets = n; bits = b })

  module _ {m : ℕ} (e : m ≡ lower_packets p room n b) where
    pub names_packets : (m ≡ 0 → ⊥) → Packets m ≡ fit_within p s room k n b
    unfolding fit_within
    names_packets h =
        let c = lower_bits p room n b in
        let j = release_for p s room k needed in
        let some : Packets m ≡ first_change m c j = rw (ne_eqb m 0 h) in
        some ∙ ap (λ (x : ℕ). first_change x c j) e

    module _ (z : m ≡ 0) {c : ℕ} (f : c ≡ lower_bits p room n b) where
      no_packets : lower_packets p room n b ≡ 0
      no_packets = sym e ∙ z

      pub names_bits : (c ≡ 0 → ⊥) → Bits c ≡ fit_within p s room k n b
      unfolding fit_within
      names_bits h =
          let j = release_for p s room k needed in
          let some : Bits c ≡ first_change 0 c j = rw (ne_eqb c 0 h) in
          some ∙ ap (λ (x : ℕ). first_change x c j) (sym no_packets) ∙ ap (λ (x : ℕ). first_change (lower_packets p room n b) x j) f

      module _ (y : c ≡ 0) {t j : ℕ} (v : t ≡ needed) (g : j ≡ release_for p s room k t) where
        -- neither packets nor bits
        last_one : first_change 0 0 j ≡ fit_within p s room k n b
        unfolding fit_within
        last_one =
            ap (λ (x : ℕ). first_change 0 0 x) (g ∙ ap (release_for p s room k) v)
            ∙ ap (λ (x : ℕ). first_change 0 x (release_for p s room k needed)) (sym y ∙ f)
            ∙ ap (λ (x : ℕ). first_change x (lower_bits p room n b) (release_for p s room k needed)) (sym no_packets)

        pub names_release : (j ≡ 0 → ⊥) → Release j ≡ fit_within p s room k n b
        names_release h = let some : Release j ≡ first_change 0 0 j = rw (ne_eqb j 0 h) in some ∙ last_one

        pub names_nothing : j ≡ 0 → Nothing ≡ fit_within p s room k n b
        names_nothing h = ap (first_change 0 0) (sym h) ∙ last_one

-- the frame's room by the sum of all loads and node k's own cell
pub room_by_sum : (P s : List ℕ) (all k : ℕ) → Within (plan_in P).nodes k → all ≡ loads (plan_in P) (core_of (plan_in P) s).latest
    → (plan_in P).frame + load (plan_in P) (share_of (get_or s (latest_cell k) 0)) - ((plan_in P).interrupt + all) ≡ frame_room (plan_in P) (core_of (plan_in P) s) k
room_by_sum P s all k w e =
    let p = plan_in P in
    let own = ap (load p) (latest_cell_lem p s k w) in
    omega (arith, loads-put p (core_of p s).latest k nothing_reserved w, own, e)

module _ (P : List ℕ) (t : ℕ) (s : List ℕ) (o : Offer) where
  abbrev p : Plan
  p = plan_in P

  -- what an answer of request 9 leads to
  abbrev heard : ℕ → Fit
  heard r = if eqb r 17 then fit_within p (core_of p s) (frame_room p (core_of p s) o.node) o.node o.packets o.bits else Answer r

  pub comes_back : {r : ℕ} → r ≡ answer_to P t s o → (r ≡ 17 → ⊥) → Answer r ≡ fit_for P t s o
  unfolding fit_for
  comes_back {r} e h = let back : Answer r ≡ heard r = rw (ne_eqb r 17 h) in back ∙ ap heard e

  pub is_changed : {room : ℕ} → 17 ≡ answer_to P t s o → room ≡ frame_room p (core_of p s) o.node
      → fit_within p (core_of p s) room o.node o.packets o.bits ≡ fit_for P t s o
  unfolding fit_for
  is_changed e f = ap (λ (x : ℕ). fit_within p (core_of p s) x o.node o.packets o.bits) f ∙ ap heard e

-- a time is refused by 11 or 12
pub time_row_small : (P s : List ℕ) (t : ℕ) → row_by P (until t) s ≤ 12
unfolding row_by rows_by
time_row_small P s t = first_at_most 12 (rows_by (plan_in P) s (until t)) (omega arith)

-- 17 is the number of no row before it, so where it is the answer they all pass
pub full_passed : (P : List ℕ) (all k n b : ℕ) (s : List ℕ) → share_row_with P all k n b s ≡ 17 → Reserved P k n b
unfolding share_row_with
full_passed P all k n b s e =
    let p = plan_in P in
    let limits = limit_rows p k n b in
    limits_kept P k n b
    (sym (goes_on limits [] (before_last limits (row17_with p (core_of p s) all k (record { packets = n; bits = b })) (omega arith) e)))
