-- "A buyer planning a line offers up to 64 reservations, each as if alone against the present table."
use Rattle.std.specs.Prelude.{ℕ, ◌%◌, ◌≡◌, not, ◌||◌, List, [], ◌∷◌, eqb, ltb, length, if◌then◌else◌}
use Rattle.rules.specs.Call.{reserve}
use Rattle.rules.specs.Rows.{Row, first_row}
use Rattle.writer.specs.Write.{overwrite}
use Rattle.cells.specs.Layout.{time_at, clock_cell}
use Rattle.cells.specs.Calls.{number_of, row_by}

-- n packets a frame, of up to b bits each, for a node
pub record Offer : Type 0 where
  pub node : ℕ
  pub packets : ℕ
  pub bits : ℕ

-- the offers that a table of numbers holds, three an offer
unfoldable pub offers_in : List ℕ → List Offer
offers_in (k ∷ n ∷ b ∷ more) = record { node = k; packets = n; bits = b } ∷ offers_in more
offers_in [] = []
offers_in (k ∷ []) = []
offers_in (k ∷ n ∷ []) = []

-- "0 or the number that the single call would give": that of a reserve at t, by the plan's cells P and the cascade's cells s
abbrev pub answer_to : List ℕ → ℕ → List ℕ → Offer → ℕ
answer_to P t s o = row_by P (reserve t o.node o.packets o.bits) s

-- "in the order of the offers", each against the same table
unfoldable pub answers_to : List ℕ → ℕ → List ℕ → List Offer → List ℕ
answers_to P t s [] = []
answers_to P t s (o ∷ more) = answer_to P t s o ∷ answers_to P t s more

abbrev pub most_offers : ℕ
most_offers = 64

-- 1: the numbers end within an offer
abbrev pub row1 : List ℕ → Row
row1 numbers = record { number = 1; applies = not (eqb (length numbers % 3) 0) }

-- 18: "more than 64 offers, or a buffer shorter than the answers"
abbrev pub row18 : List ℕ → List ℕ → Row
row18 numbers buffer =
    let count = length (offers_in numbers) in
    record { number = 18; applies = ltb most_offers count || ltb (length buffer) count }

-- 0, or the number of the row that refuses the call
unfoldable pub offers_row : List ℕ → List ℕ → ℕ
offers_row numbers buffer = number_of (first_row (row1 numbers ∷ row18 numbers buffer ∷ []))

-- "Bytes behind the answers stay"; refused, "nothing is written"
unfoldable pub offers_left : List ℕ → ℕ → List ℕ → List ℕ → List ℕ → List ℕ
offers_left P t s numbers buffer =
    if eqb (offers_row numbers buffer) 0 then overwrite buffer 0 (answers_to P t s (offers_in numbers)) else buffer

-- "at the clock"
abbrev pub clock_of : List ℕ → ℕ
clock_of s = time_at s clock_cell

-- What an entry point promises for every content: P and s are the plan's and the cascade's cells, which are lent for reading only, numbers
-- and buffer the two tables at entry; r is the answer and left the buffer at exit.
abbrev pub OffersPromise : List ℕ → ℕ → List ℕ → List ℕ → List ℕ → ℕ → List ℕ → Type 0
OffersPromise P t s numbers buffer r left = (r ≡ offers_row numbers buffer) × (left ≡ offers_left P t s numbers buffer)
