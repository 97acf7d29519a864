-- One turn of the loops: the kinds and the calls from i on are call i's, and then those from i + 1 on.
use Prim.Native.Nat.{ℕ, zero, suc, ◌+◌, ◌-◌, ◌*◌, ◌<◌, ◌≤◌}
use mathlib.Core.Path.{◌≡◌, refl, sym, ap, ◌∙◌}
use mathlib.Core.Bool.{true, false}
use mathlib.Core.List.{List}
use native.Mathlib.Omega.{arith}
use lib.ListN.{get_or}
use Rattle.std.specs.Prelude.{if◌then◌else◌}
use Rattle.std.specs.List.{list_all, range_with_len}
use Rattle.rules.proofs.Laws.Passes.{Which, which, yes', no', true-false}
use Rattle.cells.specs.Calls.{perform_by}
use Rattle.call_list.specs.Table.{call_at, is_kind, kinds_from, told_of, put_seven, list_from}

one_less : (n i : ℕ) → i < n → n - i ≡ suc (n - (i + 1))
one_less n i l = omega arith

none_left : (n i : ℕ) → n ≤ i → n - i ≡ 0
none_left n i l = omega arith

-- the test of each call in turn
pub kinds_all : (cs : List ℕ) (i n : ℕ) → kinds_from cs i n ≡ list_all (λ j. is_kind (get_or cs (j * 5) 0)) (range_with_len i n)
unfolding kinds_from
kinds_all cs i zero = refl
kinds_all cs i (suc n) = go (kinds_all cs (i + 1) n) (which (is_kind (get_or cs (i * 5) 0)))
  where
    go : kinds_from cs (i + 1) n ≡ list_all (λ j. is_kind (get_or cs (j * 5) 0)) (range_with_len (i + 1) n) → Which (is_kind (get_or cs (i * 5) 0))
        → kinds_from cs i (suc n) ≡ list_all (λ j. is_kind (get_or cs (j * 5) 0)) (range_with_len i (suc n))
    go more (yes' k) = rw k more
    go more (no' k) = rw k

module _ (cs : List ℕ) (n i : ℕ) where
  kinds_here : i < n → kinds_from cs i (n - i) ≡ if is_kind (get_or cs (i * 5) 0) then kinds_from cs (i + 1) (n - (i + 1)) else false
  unfolding kinds_from
  kinds_here l = ap (kinds_from cs i) (one_less n i l)

  -- call i is of some kind, and so are those behind it
  pub kinds_on : i < n → kinds_from cs i (n - i) ≡ true → (is_kind (get_or cs (i * 5) 0) ≡ true) × (kinds_from cs (i + 1) (n - (i + 1)) ≡ true)
  kinds_on l e = go (which (is_kind (get_or cs (i * 5) 0))) (sym (kinds_here l) ∙ e)
    where
      go : Which (is_kind (get_or cs (i * 5) 0)) → (if is_kind (get_or cs (i * 5) 0) then kinds_from cs (i + 1) (n - (i + 1)) else false) ≡ true
          → (is_kind (get_or cs (i * 5) 0) ≡ true) × (kinds_from cs (i + 1) (n - (i + 1)) ≡ true)
      go (yes' k) f = (k, rw k at f)
      go (no' k) f = absurd (true-false (rw k at f) refl)

  pub list_here : (P s ans : List ℕ) → i < n
      → list_from P cs i (n - i) s ans
      ≡ list_from P cs (i + 1) (n - (i + 1)) (perform_by P (call_at cs i) s).cells (put_seven i (told_of (perform_by P (call_at cs i) s)) ans)
  unfolding list_from
  list_here P s ans l = ap (λ (m : ℕ). list_from P cs i m s ans) (one_less n i l)

  pub list_done : (P s ans : List ℕ) → n ≤ i → list_from P cs i (n - i) s ans ≡ record { cells = s; answers = ans }
  unfolding list_from
  list_done P s ans l = ap (λ (m : ℕ). list_from P cs i m s ans) (none_left n i l)
