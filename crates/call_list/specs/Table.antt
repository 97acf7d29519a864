-- A list of calls as a table of numbers, and their answers as another: five numbers a call, seven an answer.
use Rattle.std.specs.Prelude.{ℕ, zero, suc, ◌+◌, ◌*◌, ◌/◌, ◌%◌, Bool, true, false, ◌&&◌, List, [], ◌∷◌, eqb, leb, ltb, length, get_or, set, if◌then◌else◌}
use Rattle.rules.specs.Call.{Class, normal, high, Call, ask, off, reserve, until, step, Answer, taken, refused, grant, rest, quiet}
use Rattle.rules.specs.Run.{Entry}
use Rattle.cells.specs.Step.{Step}
use Rattle.cells.specs.Calls.{Performed, perform_by, class_numbered, step_answer, step_wait}
use Rattle.call_list.specs.declared.Seven as code

-- a call is kind, t, k, n and b: kind 1 is normal, 2 high, 3 off, 4 reserve, 5
-- until, 6 step; a number that its kind doesn't have is not looked at
abbrev pub numbered : ℕ → ℕ → ℕ → ℕ → ℕ → Call
numbered kind t k n b =
    if eqb kind 1 then ask normal t k b else
    (if eqb kind 2 then ask high t k b else
    (if eqb kind 3 then off t k else
    (if eqb kind 4 then reserve t k n b else
    (if eqb kind 5 then until t else step t))))

-- call i of a table, from 0
unfoldable pub call_at : List ℕ → ℕ → Call
call_at cs i = numbered (get_or cs (i * 5) 0) (get_or cs (i * 5 + 1) 0) (get_or cs (i * 5 + 2) 0) (get_or cs (i * 5 + 3) 0) (get_or cs (i * 5 + 4) 0)

-- how many calls the table has
abbrev pub count_of : List ℕ → ℕ
count_of cs = length cs / 5

abbrev pub is_kind : ℕ → Bool
is_kind kind = leb 1 kind && leb kind 6

-- calls i to i + n - 1 are each of some kind
unfoldable pub kinds_from : List ℕ → ℕ → ℕ → Bool
kinds_from cs i zero = true
kinds_from cs i (suc n) = if is_kind (get_or cs (i * 5) 0) then kinds_from cs (i + 1) n else false

-- 0, or why nothing is done: 1, numbers behind the last whole call or a call of no kind; 18, the answers' table is too short
unfoldable pub list_number : List ℕ → List ℕ → ℕ
list_number cs ans =
    if eqb (length cs % 5) 0 && kinds_from cs 0 (count_of cs)
    then (if ltb (length ans) (count_of cs * 7) then 18 else 0)
    else 1

-- an answer is a number, then time, node, class, end, moves and wait: 0 taken, 1 a grant, 2 a rest, 3
-- quiet, and else the number of the row that refused; a number that its case doesn't have is 0
pub record Seven : Type 0 where
  pub number : ℕ
  pub time : ℕ
  pub node : ℕ
  pub class : ℕ
  pub end : ℕ
  pub moves : ℕ
  pub wait : ℕ

abbrev pub class_code : Class → ℕ
class_code normal = 1
class_code high = 2

-- the numbers of an answer with its wait, which a grant alone has
unfoldable pub seven_of : Answer → ℕ → Seven
seven_of taken wait = record { number = 0; time = 0; node = 0; class = 0; end = 0; moves = 0; wait = 0 }
seven_of (refused n) wait = record { number = n; time = 0; node = 0; class = 0; end = 0; moves = 0; wait = 0 }
seven_of (grant s k c end moves) wait = record { number = 1; time = s; node = k; class = class_code c; end = end; moves = moves; wait = wait }
seven_of (rest s moves) wait = record { number = 2; time = s; node = 0; class = 0; end = 0; moves = moves; wait = 0 }
seven_of quiet wait = record { number = 3; time = 0; node = 0; class = 0; end = 0; moves = 0; wait = 0 }

abbrev pub told_of : Performed → Seven
told_of o = seven_of o.answer o.wait

abbrev pub step_seven : Step → Seven
step_seven x = seven_of (step_answer x) (step_wait x)

-- an answer that has only a number
abbrev pub number_seven : ℕ → Seven
number_seven n = record { number = n; time = 0; node = 0; class = 0; end = 0; moves = 0; wait = 0 }

-- the seven numbers that the code has
abbrev pub told_seven : code.Seven → Seven
told_seven x =
    record { number = x.number; time = x.time; node = x.node; class = x.class; end = x.end; moves = x.moves; wait = x.wait }

-- the other way: the answer that seven numbers are
unfoldable pub answer_of : Seven → Answer
answer_of x =
    if eqb x.number 0 then taken else
    (if eqb x.number 1 then grant x.time x.node (class_numbered x.class) x.end x.moves else
    (if eqb x.number 2 then rest x.time x.moves else
    (if eqb x.number 3 then quiet else refused x.number)))

-- answer i of a table, from 0
unfoldable pub seven_at : List ℕ → ℕ → Seven
seven_at ans i =
    record {
      number = get_or ans (i * 7) 0;
      time = get_or ans (i * 7 + 1) 0;
      node = get_or ans (i * 7 + 2) 0;
      class = get_or ans (i * 7 + 3) 0;
      end = get_or ans (i * 7 + 4) 0;
      moves = get_or ans (i * 7 + 5) 0;
      wait = get_or ans (i * 7 + 6) 0;
    }

unfoldable pub put_seven : ℕ → Seven → List ℕ → List ℕ
put_seven i x ans =
    set
    (set (set (set (set (set (set ans (i * 7) x.number) (i * 7 + 1) x.time) (i * 7 + 2) x.node) (i * 7 + 3) x.class) (i * 7 + 4) x.end)
    (i * 7 + 5) x.moves)
    (i * 7 + 6) x.wait

-- the cascade's cells and the answers' table after calls i to i + n - 1
pub record Listed : Type 0 where
  pub cells : List ℕ
  pub answers : List ℕ

unfoldable pub list_from : List ℕ → List ℕ → ℕ → ℕ → List ℕ → List ℕ → Listed
list_from P cs i zero s ans = record { cells = s; answers = ans }
list_from P cs i (suc n) s ans =
    let o = perform_by P (call_at cs i) s in
    list_from P cs (i + 1) n o.cells (put_seven i (told_of o) ans)

-- the calls of a table with the answers of another, the latest first: calls 0 to n - 1
unfoldable pub entries : List ℕ → List ℕ → ℕ → List Entry
entries cs ans zero = []
entries cs ans (suc n) = record { call = call_at cs n; answer = answer_of (seven_at ans n) } ∷ entries cs ans n
