-- Node k is granted in a class: its request is removed and, in class high, a grant is counted.
use Prim.Native.Nat.{ℕ, ◌<◌}
use mathlib.Core.Path.{◌≡◌, refl, sym, ap, subst, ◌∙◌}
use mathlib.Core.Bool.{Bool, true, false}
use mathlib.Core.List.{List}
use native.Mathlib.Omega.{arith}
use borrow.Author.Tests.{lt-ltb, le-ltb}
use lib.ListN.{get_or, set, length-set}
use lib.Seq.{get_or-set_same, get_or-set_other}
use Rattle.std.specs.Prelude.{if◌then◌else◌}
use Rattle.rules.specs.Choice.{put}
use Rattle.rules.specs.Drawn.{Within}
use Rattle.rules.specs.Call.{Class}
use Rattle.rules.specs.Core.{Core, none, nothing_reserved}
use Rattle.rules.specs.Machine.{one_more}
use Rattle.rules.specs.Rows.{with_request}
use Rattle.rules.proofs.Laws.Passes.{put_same, put_other, sum_same}
use Rattle.ports.specs.Mask.{digit}
use Rattle.cells.specs.Layout.{standing_cell, node_cell, granted_cell, class_of, request_of, share_of}
use Rattle.cells.specs.Decode.{plan_in, is_node, core_of, control_of}
use Rattle.cells.specs.Masks.{stands, granted_more, grant_node}
use Rattle.refinement.specs.Kept.{Ready, RightBut, Kept, standing_in}
use Rattle.refinement.proofs.Changed.{Change, kept_but, kept_right, right_but}
use Rattle.refinement.proofs.Requested.{Left, own_field, change_but, change-control, change_core, request_left}

-- the core with node k's request removed and a grant of class c counted
abbrev pub granted_core : ℕ → Class → Core → Core
granted_core k c s =
    record {
      clock = s.clock;
      line = s.line;
      request = put s.request k none;
      force = s.force;
      latest = s.latest;
      granted = put s.granted k (one_more c (s.granted k));
    }

-- the count is below what a cell of two halves can say
more_counted : (is_high : Bool) (n : ℕ) → (is_high ≡ true → n < 65535) → granted_more is_high n ≡ one_more (class_of is_high) n
more_counted true n l = rw (lt-ltb n 65535 (l refl))
more_counted false n l = refl

module _ (P : List ℕ) (R : Ready P) (s : List ℕ) (K : Kept (plan_in P) s) (k : ℕ) (w : Within (plan_in P).nodes k) (is_high : Bool)
    (few : is_high ≡ true → (core_of (plan_in P) s).granted k < 65535) where
  more : ℕ
  more = granted_more is_high (get_or s (granted_cell k) 0)

  counted : List ℕ
  counted = set s (granted_cell k) more

  counted_change : Change k s counted
  unfolding counted
  counted_change =
      record { size = simp length-set K.size; same = λ i d e. get_or-set_other s (granted_cell k) i more 0 e.3 }

  counted_own : get_or counted (granted_cell k) 0 ≡ more
  unfolding counted
  counted_own = get_or-set_same s (granted_cell k) more 0 (omega (arith, K.size, w.up, R.drawn.few_nodes))

  counted_kept : (j i : ℕ) → Within (plan_in P).nodes j → i < 3 → get_or counted (node_cell j i) 0 ≡ get_or s (node_cell j i) 0
  unfolding counted
  counted_kept j i v u =
      get_or-set_other s (granted_cell k) (node_cell j i) more 0 (λ e. omega (arith, w.low, v.low, v.up, R.drawn.few_nodes))

  counted_standing : get_or counted standing_cell 0 ≡ standing_in (plan_in P).nodes counted
  unfolding counted
  counted_standing =
      get_or-set_other s (granted_cell k) standing_cell more 0 (λ e. omega arith) ∙ K.standing
      ∙ sym (sum_same (plan_in P).nodes _ _ (λ j v. ap (λ (x : ℕ). digit (stands x)) (counted_kept j 0 v (omega arith))))

  more_is : more ≡ one_more (class_of is_high) ((core_of (plan_in P) s).granted k)
  unfolding core_of more
  more_is =
      let own = own_field (plan_in P) k w (λ x. x) 0 (get_or s (granted_cell k) 0) in
      more_counted is_high (get_or s (granted_cell k) 0) (λ e. (let l = few e in omega (arith, own)))
      ∙ ap (one_more (class_of is_high)) (sym own)

  counted_core : core_of (plan_in P) counted
      ≡ record {
        clock = (core_of (plan_in P) s).clock;
        line = (core_of (plan_in P) s).line;
        request = (core_of (plan_in P) s).request;
        force = (core_of (plan_in P) s).force;
        latest = (core_of (plan_in P) s).latest;
        granted = put (core_of (plan_in P) s).granted k (one_more (class_of is_high) ((core_of (plan_in P) s).granted k));
      }
  unfolding core_of
  counted_core =
      change_core (plan_in P) R.drawn k w s counted counted_change _ refl refl
      (λ j d. refl) (λ j d. refl) (λ j d. refl)
      (λ j d. put_other (core_of (plan_in P) s).granted k (one_more (class_of is_high) ((core_of (plan_in P) s).granted k)) j d)
      (ap (λ (y : ℕ). if is_node (plan_in P) k then request_of y else none) (counted_kept k 0 w (omega arith)))
      (ap (λ (y : ℕ). if is_node (plan_in P) k then share_of y else nothing_reserved) (counted_kept k 1 w (omega arith)))
      (ap (λ (y : ℕ). if is_node (plan_in P) k then share_of y else nothing_reserved) (counted_kept k 2 w (omega arith)))
      (own_field (plan_in P) k w (λ x. x) 0 (get_or counted (granted_cell k) 0) ∙ counted_own ∙ more_is
      ∙ sym (put_same (core_of (plan_in P) s).granted k (one_more (class_of is_high) ((core_of (plan_in P) s).granted k))))

  pub grant_left : Left (plan_in P) (grant_node P is_high k s) (granted_core k (class_of is_high) (core_of (plan_in P) s)) (control_of (plan_in P) s)
  unfolding grant_node counted more
  grant_left =
      let but = change_but (plan_in P) R.drawn k w s counted counted_change (kept_but (plan_in P) s K) counted_standing in
      let l =
      request_left P R counted counted_change.size k w
      (λ b.
      subst (λ (x : ℕ). RightBut (plan_in P) k x b counted) (sym (counted_kept k 0 w (omega arith)))
      (right_but (plan_in P) R.drawn k w s counted counted_change b (kept_right (plan_in P) k s K b))) but 0 in
      rw (le-ltb k 1 w.low, le-ltb 256 k (omega (arith, w.up, R.drawn.few_nodes)))
      (record {
        kept = l.kept;
        core = l.core ∙ ap (with_request k none) counted_core;
        control = l.control ∙ change-control (plan_in P) R.drawn k w s counted counted_change;
      })
