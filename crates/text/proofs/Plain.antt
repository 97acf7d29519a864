-- Bytes without an LF: the blocks of eight in front that have none, and what follows them up to the first LF. Assumes nothing.
use mathlib.Core.Path.{◌≡◌, refl, sym, ap, ◌∙◌}
use mathlib.Core.Bool.{Bool, true, false, not, cond, ◌&&◌, ◌||◌}
use mathlib.Core.List.{List, [], ◌∷◌, ◌++◌}
use Prim.Native.Nat.{ℕ, zero, suc, ◌+◌, ◌*◌, ◌/◌, ◌≤◌, ◌<◌}
use native.Mathlib.Nat.{zero-add, suc-add}
use native.Mathlib.Omega.{arith}
use lib.Seq.{take-nil, take_at, drop_at, take_all}
use lib.Dec.{eqb}
use lib.ListN.{length, take, drop, get_or, length-take, length-drop, length-append}
use Rattle.std.proofs.lemmas.List.{get_or-take, get_or-drop}
use Rattle.std.specs.List.{prefix_len, list_any}
use Rattle.std.specs.Slice.Iter.{chunks_exact_rest, chunks_exact_size, chunks_exact_steps}
use Rattle.std.proofs.lemmas.Iterator.{YieldsList}
use Rattle.std.proofs.lemmas.Iterator.Splits.{YieldsList-from_shown_while}
use Rattle.text.specs.Line.{no_lf}
use Rattle.text.proofs.Words.{both}

-- the library's test, which is ours
abbrev pub plain : List ℕ → Bool
plain l = not (list_any (λ y. eqb y 10) l)

none_of : (l : List ℕ) → plain l ≡ no_lf l
unfolding no_lf
none_of [] = refl
none_of (b ∷ l) = go (eqb b 10) (none_of l)
  where
    go : (t : Bool) → not (list_any (λ y. eqb y 10) l) ≡ no_lf l → not (t || list_any (λ y. eqb y 10) l) ≡ (not t && no_lf l)
    go true e = refl
    go false e = e

-- k blocks of eight
abbrev pub blocks : ℕ → List ℕ → List (List ℕ)
blocks zero s = []
blocks (suc k) s = take 8 s ∷ blocks k (drop 8 s)

no_lf_append : (a b : List ℕ) → no_lf a ≡ true → no_lf b ≡ true → no_lf (a ++ b) ≡ true
unfolding no_lf
no_lf_append [] b h k = k
no_lf_append (x ∷ a) b h k =
    let p = both (not (eqb x 10)) (no_lf a) h in
    rw (p.0, no_lf_append a b p.1 k)

more_taken : (n m : ℕ) (s : List ℕ) → take (n + m) s ≡ take n s ++ take m (drop n s)
more_taken zero m s = rw (zero-add m)
more_taken (suc n) m [] = rw (take-nil (suc n + m), take-nil m)
more_taken (suc n) m (x ∷ s) = rw (suc-add n m) (ap (λ (l : List ℕ). x ∷ l) (more_taken n m s))

-- those in front without LF
pub plain_blocks : (k : ℕ) (s : List ℕ) → k * 8 ≤ length s
    → (prefix_len plain (blocks k s) * 8 ≤ length s) × (no_lf (take (prefix_len plain (blocks k s) * 8) s) ≡ true)
plain_blocks zero s room = (omega arith, unfold no_lf in refl)
plain_blocks (suc k) s room = go (plain (take 8 s)) refl (plain_blocks k (drop 8 s) (omega (arith, length-drop 8 s)))
  where
    go : (t : Bool) → plain (take 8 s) ≡ t
        → (prefix_len plain (blocks k (drop 8 s)) * 8 ≤ length (drop 8 s)) × (no_lf (take (prefix_len plain (blocks k (drop 8 s)) * 8) (drop 8 s)) ≡ true)
        → (cond t (1 + prefix_len plain (blocks k (drop 8 s))) 0 * 8 ≤ length s) × (no_lf (take (cond t (1 + prefix_len plain (blocks k (drop 8 s))) 0 * 8) s) ≡ true)
    go true e ih =
        let m : ℕ = prefix_len plain (blocks k (drop 8 s)) in
        let w : (1 + m) * 8 ≡ 8 + m * 8 = omega arith in
        (omega (arith, ih.0, length-drop 8 s), rw (w, more_taken 8 (m * 8) s) (no_lf_append (take 8 s) (take (m * 8) (drop 8 s)) (sym (none_of (take 8 s)) ∙ e) ih.1))
    go false e ih = (omega arith, unfold no_lf in refl)

cut : (l x r : List ℕ) → l ≡ x ++ r → length x ≡ 8 → blocks (length l / 8) l ≡ x ∷ blocks (length r / 8) r
cut l x r e w =
    let n : length l / 8 ≡ suc (length r / 8) = omega (arith, ap length e, length-append x r) in
    rw (n, e, take_at x r 8 w, drop_at x r 8 w)

-- the blocks that the library's iterator gives
pub blocks_given : (s : _) → chunks_exact_size s ≡ 8
    → YieldsList (chunks_exact_steps {A = ℕ}) (λ x. x.now) s (blocks (length (chunks_exact_rest s) / 8) (chunks_exact_rest s))
blocks_given s size =
    YieldsList-from_shown_while (chunks_exact_steps {A = ℕ}) (λ x. x.now) (λ r. blocks (length (chunks_exact_rest r) / 8) (chunks_exact_rest r))
    (λ r. chunks_exact_size r ≡ 8)
    (λ r t p h. ap (λ (k : ℕ). length (blocks k (chunks_exact_rest r))) {y = 0} (omega (arith, h.1.0, p)))
    (λ r x t p h. (h.0 ∙ p, cut (chunks_exact_rest r) x.now (chunks_exact_rest t) h.1.0 (h.1.1 ∙ p))) s size

-- bytes that are no LF, place by place
no_lf_places : (l : List ℕ) → ((k : ℕ) → k < length l → eqb (get_or l k 0) 10 ≡ false) → no_lf l ≡ true
unfolding no_lf
no_lf_places [] none = refl
no_lf_places (b ∷ l) none = rw (none 0 (omega arith), no_lf_places l (λ k h. none (suc k) (omega arith)))

-- behind those in front
module _ (s rest : List ℕ) (n : ℕ) (behind : rest ≡ drop n s) (inside : n ≤ length s) (clean : no_lf (take n s) ≡ true) where
  pub no_lf_on : (m : ℕ) → ((k : ℕ) → k < m → eqb (get_or rest k 0) 10 ≡ false) → no_lf (take (n + m) s) ≡ true
  no_lf_on m none =
      let more : no_lf (take m (drop n s)) ≡ true =
      no_lf_places (take m (drop n s)) (λ k h. let l : k < m = omega (arith, length-take m (drop n s)) in ap (λ (x : ℕ). eqb x 10) (get_or-take m (drop n s) k 0 l ∙ ap (λ (q : List ℕ). get_or q k 0) (sym behind)) ∙ none k l) in
      rw (more_taken n m s) (no_lf_append (take n s) (take m (drop n s)) clean more)

  pub no_lf_all : ((k : ℕ) → k < length rest → eqb (get_or rest k 0) 10 ≡ false) → no_lf s ≡ true
  no_lf_all none = ap no_lf (sym (take_all (n + length rest) s (omega (arith, ap length behind, length-drop n s)))) ∙ no_lf_on (length rest) none

  pub lf_there : (m : ℕ) → m < length rest → get_or rest m 0 ≡ 10 → (n + m < length s) × (get_or s (n + m) 0 ≡ 10)
  lf_there m h e = (omega (arith, ap length behind, length-drop n s), sym (get_or-drop n s m 0) ∙ ap (λ (l : List ℕ). get_or l m 0) (sym behind) ∙ e)
