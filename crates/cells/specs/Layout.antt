-- Where each number stands in the cascade's table, and how a number of several parts is coded in one or two cells.
use Rattle.std.specs.Prelude.{ℕ, ◌+◌, ◌-◌, ◌*◌, ◌/◌, ◌%◌, Bool, true, false, List, ltb, eqb, get_or, set, if◌then◌else◌}
use Rattle.rules.specs.Call.{Class, normal, high}
use Rattle.rules.specs.Core.{Request, none, standing, Share}
use Rattle.rules.specs.Control.{Pointer}
use Rattle.ports.specs.Mask.{digit}

-- Cells 0 and 1 are the clock, its low and its high 32 bits; 2 and 3 the end of
-- a busy line; 4 is 0 while the line rests; 5 is the hub that has control;
-- 6 is 1 where the latest grant was high; 7 is the number of standing requests. Each hub has 4
-- cells: its masks and its pointers, of the normal class and of the high one. Behind the hubs stand
-- six tables of 256 cells, one cell a node: the requests, the reservations in force, the latest
-- accepted ones, the high grants in the frame, and the low and the high 32 bits of the time at which
-- the standing request was first put up. They are tables since a frame's start passes over whole
-- ones, which the compiler vectorises.
abbrev pub cells : ℕ
cells = 1672

abbrev pub clock_cell : ℕ
clock_cell = 0

abbrev pub end_cell : ℕ
end_cell = 2

abbrev pub busy_cell : ℕ
busy_cell = 4

abbrev pub holder_cell : ℕ
holder_cell = 5

abbrev pub class_cell : ℕ
class_cell = 6

abbrev pub standing_cell : ℕ
standing_cell = 7

abbrev pub hub_cell : ℕ → ℕ → ℕ
hub_cell g i = 8 + (g - 1) * 4 + i

abbrev pub node_cell : ℕ → ℕ → ℕ
node_cell k i = 136 + i * 256 + (k - 1)

-- by whether the class is high
abbrev pub mask_cell : Bool → ℕ → ℕ
mask_cell is_high g = hub_cell g (digit is_high)

abbrev pub pointer_cell : Bool → ℕ → ℕ
pointer_cell is_high g = hub_cell g (2 + digit is_high)

abbrev pub request_cell : ℕ → ℕ
request_cell k = node_cell k 0

abbrev pub force_cell : ℕ → ℕ
force_cell k = node_cell k 1

abbrev pub latest_cell : ℕ → ℕ
latest_cell k = node_cell k 2

abbrev pub granted_cell : ℕ → ℕ
granted_cell k = node_cell k 3

abbrev pub since_cell : ℕ → ℕ
since_cell k = node_cell k 4

abbrev pub since_high_cell : ℕ → ℕ
since_high_cell k = node_cell k 5

abbrev pub class_of : Bool → Class
class_of true = high
class_of false = normal

-- g is a number that the table has cells of a hub for; a is what holds there, b elsewhere
abbrev pub if_hub : {A : Type 0} → ℕ → A → A → A
if_hub g a b = if ltb g 1 then b else (if ltb 32 g then b else a)

-- the same of a node
abbrev pub if_node : {A : Type 0} → ℕ → A → A → A
if_node k a b = if ltb k 1 then b else (if ltb 256 k then b else a)

-- a time in two cells
abbrev pub two_32 : ℕ
two_32 = 4294967296

abbrev pub time_at : List ℕ → ℕ → ℕ
time_at s i = get_or s i 0 + get_or s (i + 1) 0 * two_32

unfoldable pub put_time : ℕ → ℕ → List ℕ → List ℕ
put_time i t s = set (set s i (t % two_32)) (i + 1) (t / two_32)

-- two numbers below 65,536 in one cell
abbrev pub half : ℕ
half = 65536

-- a reservation is n × 65,536 + b
abbrev pub share_of : ℕ → Share
share_of x = record { packets = x / half; bits = x % half }

abbrev pub share_code : ℕ → ℕ → ℕ
share_code n b = n * half + b

-- a request is 65,536 + b or, high, 131,072 + b; below 65,536 none stands
abbrev pub request_of : ℕ → Request
request_of x = if ltb x 65536 then none else (if ltb x 131072 then standing normal (x % half) else standing high (x % half))

abbrev pub request_code : Request → ℕ
request_code none = 0
request_code (standing normal b) = 65536 + b
request_code (standing high b) = 131072 + b

-- a pointer is its port × 2, and 1 more where it is marked
abbrev pub pointer_of : ℕ → Pointer
pointer_of x = record { port = x / 2; marked = eqb (x % 2) 1 }

abbrev pub unmarked_code : ℕ → ℕ
unmarked_code q = q * 2

abbrev pub marked_code : ℕ → ℕ
marked_code q = q * 2 + 1
