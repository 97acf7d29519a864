-- The answers' table: an answer put at its place is read there, and no earlier one is touched.
use Prim.Native.Nat.{ℕ, ◌+◌, ◌*◌, ◌≤◌, ◌<◌}
use mathlib.Core.Path.{◌≡◌}
use mathlib.Core.Bool.{true}
use mathlib.Core.List.{List}
use native.Mathlib.Omega.{arith}
use borrow.Author.Tests.{ltb-true}
use lib.Dec.{ltb}
use lib.ListN.{length, get_or, set, length-set}
use lib.Seq.{get_or-set_same, get_or-set_other}
use Rattle.call_list.specs.Table.{Seven, seven_at, put_seven}

pub length-put : (i : ℕ) (x : Seven) (ans : List ℕ) → length (put_seven i x ans) ≡ length ans
unfolding put_seven
length-put i x ans = simp length-set

below_set : (l : List ℕ) (i j a : ℕ) → j < i → get_or (set l i a) j 0 ≡ get_or l j 0
below_set l i j a h = get_or-set_other l i j a 0 (λ e. omega arith)

-- the same, of two cells of one answer: the test computes
first-set : (l : List ℕ) (i m a : ℕ) → ltb 0 m ≡ true → get_or (set l (i + m) a) i 0 ≡ get_or l i 0
first-set l i m a h = below_set l (i + m) i a (omega (arith, ltb-true 0 m h))

later-set : (l : List ℕ) (i m n a : ℕ) → ltb n m ≡ true → get_or (set l (i + m) a) (i + n) 0 ≡ get_or l (i + n) 0
later-set l i m n a h = below_set l (i + m) (i + n) a (omega (arith, ltb-true n m h))

-- a cell before the seven
put-before : (i j : ℕ) (x : Seven) (ans : List ℕ) → j < i * 7 → get_or (put_seven i x ans) j 0 ≡ get_or ans j 0
unfolding put_seven
put-before i j x ans l =
    let l1 : j < i * 7 + 1 = omega arith in
    let l2 : j < i * 7 + 2 = omega arith in
    let l3 : j < i * 7 + 3 = omega arith in
    let l4 : j < i * 7 + 4 = omega arith in
    let l5 : j < i * 7 + 5 = omega arith in
    let l6 : j < i * 7 + 6 = omega arith in
    simp below_set

pub at_other : (i j : ℕ) (x : Seven) (ans : List ℕ) → j < i → seven_at (put_seven i x ans) j ≡ seven_at ans j
unfolding seven_at
at_other i j x ans l =
    rw (
      put-before i (j * 7) x ans (omega arith),
      put-before i (j * 7 + 1) x ans (omega arith),
      put-before i (j * 7 + 2) x ans (omega arith),
      put-before i (j * 7 + 3) x ans (omega arith),
      put-before i (j * 7 + 4) x ans (omega arith),
      put-before i (j * 7 + 5) x ans (omega arith),
      put-before i (j * 7 + 6) x ans (omega arith),
    )

pub at_same : (i : ℕ) (x : Seven) (ans : List ℕ) → i * 7 + 7 ≤ length ans → seven_at (put_seven i x ans) i ≡ x
unfolding seven_at put_seven
at_same i x ans l =
    let l0 : i * 7 < length ans = omega arith in
    let l1 : i * 7 + 1 < length ans = omega arith in
    let l2 : i * 7 + 2 < length ans = omega arith in
    let l3 : i * 7 + 3 < length ans = omega arith in
    let l4 : i * 7 + 4 < length ans = omega arith in
    let l5 : i * 7 + 5 < length ans = omega arith in
    let l6 : i * 7 + 6 < length ans = omega arith in
    search (get_or-set_same, first-set, later-set, length-set)
