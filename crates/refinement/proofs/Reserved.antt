-- A node's latest reservation changes: nothing that counts depends on it.
use Prim.Native.Nat.{ℕ, ◌+◌, ◌*◌, ◌/◌, ◌%◌, ◌<◌}
use mathlib.Core.Path.{◌≡◌, refl, sym, ap, subst, ◌∙◌}
use mathlib.Core.Bool.{Bool, false}
use mathlib.Core.List.{List}
use native.Mathlib.Omega.{arith}
use lib.ListN.{get_or, set, length-set}
use lib.Seq.{get_or-set_same, get_or-set_other}
use Rattle.std.specs.Prelude.{if◌then◌else◌}
use Rattle.rules.specs.Drawn.{Within}
use Rattle.rules.specs.Core.{none, nothing_reserved}
use Rattle.rules.specs.Rows.{with_latest}
use Rattle.rules.proofs.Laws.Passes.{put_same, put_other, sum_same}
use Rattle.ports.specs.Mask.{digit}
use Rattle.cells.specs.Layout.{standing_cell, node_cell, latest_cell, share_of, share_code, request_of}
use Rattle.cells.specs.Decode.{plan_in, is_node, core_of, control_of}
use Rattle.cells.specs.Masks.{counts_by, stands}
use Rattle.refinement.specs.Kept.{Ready, counts_of, MasksRight, Kept, standing_in}
use Rattle.refinement.proofs.Changed.{Change, kept_but, counts-cells, others_count, mask_cell_lem}
use Rattle.refinement.proofs.Same.{agree}
use Rattle.refinement.proofs.Requested.{Left, own_field, change_but, change-control, change_core}

-- a reservation that was coded is read again
pub share_read : (n b : ℕ) → b < 65536 → share_of (share_code n b) ≡ record { packets = n; bits = b }
share_read n b u =
    let packets : (n * 65536 + b) / 65536 ≡ n = omega arith in
    let bits : (n * 65536 + b) % 65536 ≡ b = omega arith in
    λ i. record { packets = packets i; bits = bits i }

module _ (P : List ℕ) (R : Ready P) (s : List ℕ) (K : Kept (plan_in P) s) (k : ℕ) (w : Within (plan_in P).nodes k) (n b : ℕ) (u : b < 65536) where
  reserved : List ℕ
  reserved = set s (latest_cell k) (share_code n b)

  reserved-change : Change k s reserved
  unfolding reserved
  reserved-change =
      record { size = simp length-set K.size; same = λ i d e. get_or-set_other s (latest_cell k) i (share_code n b) 0 e.2 }

  reserved_own : get_or reserved (latest_cell k) 0 ≡ share_code n b
  unfolding reserved
  reserved_own = get_or-set_same s (latest_cell k) (share_code n b) 0 (omega (arith, K.size, w.up, R.drawn.few_nodes))

  reserved_kept : (j i : ℕ) → Within (plan_in P).nodes j → i < 4 → (i ≡ 2 → ⊥) → get_or reserved (node_cell j i) 0 ≡ get_or s (node_cell j i) 0
  unfolding reserved
  reserved_kept j i v l d =
      get_or-set_other s (latest_cell k) (node_cell j i) (share_code n b) 0
      (λ e. omega (arith, w.low, w.up, v.low, v.up, R.drawn.few_nodes))

  reserved_standing : get_or reserved standing_cell 0 ≡ standing_in (plan_in P).nodes reserved
  unfolding reserved
  reserved_standing =
      get_or-set_other s (latest_cell k) standing_cell (share_code n b) 0 (λ e. omega arith) ∙ K.standing
      ∙ sym (sum_same (plan_in P).nodes _ _ (λ j v. ap (λ (x : ℕ). digit (stands x)) (reserved_kept j 0 v (omega arith) (λ e. omega arith))))

  -- what counts is as it was
  reserved-counts : (is_high : Bool) → counts_of (plan_in P) is_high reserved ≡ counts_of (plan_in P) is_high s
  reserved-counts is_high i j = agree k own (others_count (plan_in P) R.drawn k w s reserved reserved-change is_high) j i
    where
      own : counts_of (plan_in P) is_high reserved k ≡ counts_of (plan_in P) is_high s k
      own =
          counts-cells (plan_in P) is_high reserved k
          ∙ (λ z. if is_node (plan_in P) k then
          counts_by is_high (reserved_kept k 0 w (omega arith) (λ e. omega arith) z) (reserved_kept k 3 w (omega arith) (λ e. omega arith) z)
          (reserved_kept k 1 w (omega arith) (λ e. omega arith) z) else false)
          ∙ sym (counts-cells (plan_in P) is_high s k)

  reserved_core : core_of (plan_in P) reserved ≡ with_latest k (record { packets = n; bits = b }) (core_of (plan_in P) s)
  unfolding core_of
  reserved_core =
      change_core (plan_in P) R.drawn k w s reserved reserved-change
      (with_latest k (record { packets = n; bits = b }) (core_of (plan_in P) s)) refl refl (λ j d. refl) (λ j d. refl)
      (λ j d. put_other (core_of (plan_in P) s).latest k (record { packets = n; bits = b }) j d) (λ j d. refl)
      (ap (λ (y : ℕ). if is_node (plan_in P) k then request_of y else none) (reserved_kept k 0 w (omega arith) (λ e. omega arith)))
      (ap (λ (y : ℕ). if is_node (plan_in P) k then share_of y else nothing_reserved) (reserved_kept k 1 w (omega arith) (λ e. omega arith)))
      (own_field (plan_in P) k w share_of nothing_reserved (get_or reserved (latest_cell k) 0) ∙ ap share_of reserved_own ∙ share_read n b u
      ∙ sym (put_same (core_of (plan_in P) s).latest k (record { packets = n; bits = b })))
      (ap (λ (y : ℕ). if is_node (plan_in P) k then y else 0) (reserved_kept k 3 w (omega arith) (λ e. omega arith)))

  pub reserve_left : Left (plan_in P) (set s (latest_cell k) (share_code n b)) (with_latest k (record { packets = n; bits = b }) (core_of (plan_in P) s))
      (control_of (plan_in P) s)
  unfolding reserved
  reserve_left =
      let few = R.drawn.few_hubs in
      let but = change_but (plan_in P) R.drawn k w s reserved reserved-change (kept_but (plan_in P) s K) reserved_standing in
      record {
        kept =
            record {
              size = reserved-change.size;
              masks = λ is_high g v.
                  mask_cell_lem (plan_in P) R.drawn k w s reserved reserved-change is_high g (omega (arith, v.up, few))
                  ∙ subst (λ (f : ℕ → Bool). MasksRight (plan_in P) is_high f s) (sym (reserved-counts is_high)) (K.masks is_high) g v;
              standing = but.standing;
              holder = but.holder;
              class = but.class;
              pointers = but.pointers;
            };
        core = reserved_core;
        control = change-control (plan_in P) R.drawn k w s reserved reserved-change;
      }
