-- "0 or the number that the single call would give": said of the numbers that are lent, three an offer: node, n and b.
use Rattle.std.specs.Prelude.{ℕ, ◌+◌, ◌*◌, ◌%◌, ◌≤◌, ◌<◌, ◌≡◌, List, length, get_or}
use Rattle.rules.specs.Plan.{Plan}
use Rattle.rules.specs.Call.{reserve, until}
use Rattle.rules.specs.Machine.{perform}
use Rattle.rules.specs.Control.{control}
use Rattle.rules.specs.Run.{Entry}
use Rattle.rules.specs.Words.{clock_at}
use Rattle.cells.specs.Decode.{hub_of}
use Rattle.cells.specs.Calls.{row_by, event_answer, EventPromise}
use Rattle.admission.specs.Share.{share_row_by}
use Rattle.offers.specs.Offers.{Offer, answer_to, clock_of, OffersPromise}

-- P and s are the plan's and the cascade's cells, t is the time, `numbers` and `buffer` are what is lent, r is the answer and `left` the
-- buffer left behind
pub record AsSingle (P : List ℕ) (t : ℕ) (s numbers buffer : List ℕ) (r : ℕ) (left : List ℕ) : Type 0 where
  -- m offers, up to 64, are answered where the buffer has a byte for each, and else refused by 18
  pub answered : (m : ℕ) → length numbers ≡ m * 3 → m ≤ 64 → m ≤ length buffer → r ≡ 0
  pub too_many : (m : ℕ) → length numbers ≡ m * 3 → 64 < m → r ≡ 18
  pub too_short : (m : ℕ) → length numbers ≡ m * 3 → length buffer < m → r ≡ 18
  -- numbers that end within an offer are refused by 1
  pub torn : (length numbers % 3 ≡ 0 → ⊥) → r ≡ 1
  -- byte i is what the single reserve of offer i answers, made at t: an offer answered 0 is taken, one answered 17 refused by 17
  pub single : r ≡ 0 → (i : ℕ) → i * 3 + 2 < length numbers → (row : ℕ) (z : List ℕ)
      → EventPromise P (reserve t (get_or numbers (i * 3) 0) (get_or numbers (i * 3 + 1) 0) (get_or numbers (i * 3 + 2) 0)) s row z
      → get_or left i 0 ≡ row
  -- bytes behind the answers stay, and the buffer is as long as it was
  pub behind : (i : ℕ) → length numbers ≤ i * 3 → get_or left i 0 ≡ get_or buffer i 0
  pub as_long : length left ≡ length buffer
  -- refused, no byte changes
  pub refused : (r ≡ 0 → ⊥) → left ≡ buffer

-- every call of `offers::at_time`, whatever is lent; `offers::at_clock` is that at the clock
abbrev pub Singly : List ℕ → ℕ → List ℕ → Type 0
Singly P t s = (numbers buffer : List ℕ) (r : ℕ) (left : List ℕ) → OffersPromise P t s numbers buffer r left → AsSingle P t s numbers buffer r left

-- P and p are a taken plan's cells and the plan, `past` the calls that were made with their answers, s the hub's cells behind them
pub record AtClock (P : List ℕ) (p : Plan) (past : List Entry) (s : List ℕ) : Type 0 where
  -- the clock is that of the calls and answers: the latest time of an accepted event or a handled instant
  pub clock : clock_of s ≡ clock_at past
  -- neither 11 nor 12 applies at it, so each answer is by 13, 14, 15 and 17, in their order
  pub on_time : row_by P (until (clock_of s)) s ≡ 0
  pub by_rows : (o : Offer) → answer_to P (clock_of s) s o ≡ share_row_by P o.node o.packets o.bits s
  -- and it is what the hub of the rules answers the single call
  pub by_rules : (o : Offer)
      → event_answer (answer_to P (clock_of s) s o) ≡ (perform p (control p) (reserve (clock_of s) o.node o.packets o.bits) (hub_of p s)).answer
