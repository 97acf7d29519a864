-- The facts that decide what `lowest_from` answers, and that a mask answers as the set that it codes.
use Rattle.std.specs.Prelude.{Option, Some, None}
use mathlib.Core.Path.{◌≡◌, refl, sym, ap, ◌∙◌}
use mathlib.Core.Bool.{Bool, true, false, ◌&&◌}
use Prim.Native.Nat.{ℕ, suc, ◌≤◌, ◌<◌}
use native.Mathlib.Omega.{arith}
use lib.Dec.{leb}
use Rattle.ports.specs.Ports.{ports, at_or_after}
use Rattle.ports.specs.Mask.{shows, mask_of}
use Rattle.ports.specs.Search.{lowest_from}
use Rattle.ports.proofs.Answers.{Answers, first_answers, answers_agree, first_cong}
use Rattle.ports.proofs.Coding.{Same, shows_mask}
use Rattle.ports.proofs.Pointing.{after_kept, after_member, after_none}

-- ---- the lowest port at or after a pointer

pub record Lowest (f : ℕ → Bool) (pointer p : ℕ) : Type 0 where
  pub after : pointer ≤ p
  pub positive : 1 ≤ p
  pub within : p ≤ ports
  pub member : f p ≡ true
  pub least : (q : ℕ) → 1 ≤ q → pointer ≤ q → q < p → f q ≡ false

abbrev pub NoneAfter : (ℕ → Bool) → ℕ → Type 0
NoneAfter f pointer = (q : ℕ) → 1 ≤ q → pointer ≤ q → q ≤ ports → f q ≡ false

abbrev pub Right : (ℕ → Bool) → ℕ → Option ℕ → Type 0
Right f pointer (Some p) = Lowest f pointer p
Right f pointer None = NoneAfter f pointer

of_answers : (f : ℕ → Bool) (pointer : ℕ) (r : Option ℕ) → Answers (at_or_after pointer f) 1 (suc ports) r → Right f pointer r
of_answers f pointer (Some p) a =
    let m = after_member pointer f p a.member in
    record {
      after = m.0;
      positive = a.from;
      within = omega arith;
      member = m.1;
      least = λ q l h k. sym (after_kept pointer f q h) ∙ a.least q l k;
    }
of_answers f pointer None a = λ q l h k. sym (after_kept pointer f q h) ∙ a q l (omega arith)

to_answers : (f : ℕ → Bool) (pointer : ℕ) (r : Option ℕ) → Right f pointer r → Answers (at_or_after pointer f) 1 (suc ports) r
to_answers f pointer (Some p) a =
    record {
      from = a.positive;
      within = omega arith;
      member = after_kept pointer f p a.after ∙ a.member;
      least = λ q l h. after_none pointer f q (λ k. a.least q l k h);
    }
to_answers f pointer None a = λ q l h. after_none pointer f q (λ k. a q l k (omega arith))

-- the answer is right, and no other is
pub lowest_right : (f : ℕ → Bool) (pointer : ℕ) → Right f pointer (lowest_from f pointer)
unfolding lowest_from
lowest_right f pointer =
    of_answers f pointer (lowest_from f pointer) (first_answers ports (at_or_after pointer f) 1 (suc ports) refl)

pub right_lowest : (f : ℕ → Bool) (pointer : ℕ) (r : Option ℕ) → Right f pointer r → lowest_from f pointer ≡ r
unfolding lowest_from
right_lowest f pointer r a =
    answers_agree (at_or_after pointer f) 1 (suc ports) (lowest_from f pointer) r
    (first_answers ports (at_or_after pointer f) 1 (suc ports) refl) (to_answers f pointer r a)

-- ---- the same ports, the same answer

pub lowest_cong : (f g : ℕ → Bool) (pointer : ℕ) → Same ports f g → lowest_from f pointer ≡ lowest_from g pointer
unfolding lowest_from at_or_after
lowest_cong f g pointer e =
    first_cong ports (at_or_after pointer f) (at_or_after pointer g) 1 (λ p l h. ap (λ (b : Bool). leb pointer p && b) (e p l (omega arith)))

pub lowest_mask : (f : ℕ → Bool) (pointer : ℕ) → lowest_from (shows (mask_of f)) pointer ≡ lowest_from f pointer
lowest_mask f pointer = lowest_cong (shows (mask_of f)) f pointer (shows_mask ports f)
