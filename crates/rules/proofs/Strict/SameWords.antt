-- The words of demand 3 read other figures of the plan than the line: with it and without it the same is
-- reserved, the same grants count, and the same requests are high.
use Prim.Native.Nat.{ℕ, ◌*◌, ◌≤◌}
use mathlib.Core.Path.{◌≡◌, refl, sym, ap, subst}
use mathlib.Core.Bool.{Bool}
use mathlib.Core.List.{List, [], ◌∷◌}
use Rattle.rules.specs.Plan.{Plan, with_strict}
use Rattle.rules.specs.Call.{normal, high, Call, ask, off, reserve, until, step, Answer, taken, refused, grant, rest, quiet}
use Rattle.rules.specs.Core.{Share, frame_of}
use Rattle.rules.specs.Run.{Entry}
use Rattle.rules.specs.Words.{reserved_by, reserved, ends_by, high_grants, turn_in, Keeps, High}

module _ (b : Bool) (p : Plan) where
  pub same-reserved : (k f : ℕ) (past : List Entry) → reserved (with_strict b p) k f past ≡ reserved p k f past
  unfolding reserved
  same-reserved k f [] = refl
  same-reserved k f (e ∷ past) = ap (reserved_by (f * p.frame) k e.call e.answer) (same-reserved k f past)

  -- what one entry adds, by cases, since the word matches on the call and its answer
  same_ends : (k f : ℕ) (call : Call) (answer : Answer) (ends : List ℕ)
      → ends_by (with_strict b p) k f call answer ends ≡ ends_by p k f call answer ends
  same_ends k f (step t) (grant s j high end moves) ends = refl
  same_ends k f (step t) (grant s j normal end moves) ends = refl
  same_ends k f (step t) taken ends = refl
  same_ends k f (step t) (refused m) ends = refl
  same_ends k f (step t) (rest s moves) ends = refl
  same_ends k f (step t) quiet ends = refl
  same_ends k f (ask c t j n) answer ends = refl
  same_ends k f (off t j) answer ends = refl
  same_ends k f (reserve t j m n) answer ends = refl
  same_ends k f (until t) answer ends = refl

  pub same_grants : (k f : ℕ) (past : List Entry) → high_grants (with_strict b p) k f past ≡ high_grants p k f past
  unfolding high_grants
  same_grants k f [] = refl
  same_grants k f (e ∷ past) = λ i. same_ends k f e.call e.answer (same_grants k f past i) i

  pub same_turn : (f : ℕ) (call : Call) (answer : Answer) → turn_in (with_strict b p) f call answer ≡ turn_in p f call answer
  same_turn f (step t) (grant s j c end moves) = refl
  same_turn f (step t) (rest s moves) = refl
  same_turn f (step t) taken = refl
  same_turn f (step t) (refused m) = refl
  same_turn f (step t) quiet = refl
  same_turn f (ask c t j n) answer = refl
  same_turn f (off t j) answer = refl
  same_turn f (reserve t j m n) answer = refl
  same_turn f (until t) answer = refl

  pub still_high : (k : ℕ) (past : List Entry) → High p k past → High (with_strict b p) k past
  still_high k past h =
      record {
        put_up = h.put_up;
        length = h.length;
        stands = h.stands;
        in_force = subst (λ (r : Share). 1 ≤ r.packets) (sym (same-reserved k (frame_of p h.put_up) past)) h.in_force;
        kept = λ f low up. subst (λ (r : Share). Keeps r h.length) (sym (same-reserved k f past)) (h.kept f low up);
      }
