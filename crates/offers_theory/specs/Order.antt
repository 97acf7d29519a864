-- "The order of the offers changes no answer": a permuted list gets the permuted answers.
use Rattle.std.specs.Prelude.{ℕ, ◌<◌, ◌≡◌, List, [], ◌∷◌, map, length, get_or, take}
use Rattle.offers.specs.Offers.{Offer, offers_in, offers_row, answers_to, OffersPromise}

-- what is read where a list has no offer
abbrev pub no_offer : Offer
no_offer = record { node = 0; packets = 0; bits = 0 }

-- the items that stand at these places of a list, counted from 0, in this order; in a permutation each place stands once
abbrev pub at_places : {A : Type 0} → A → List A → List ℕ → List A
at_places none xs places = map (λ (i : ℕ). get_or xs i none) places

abbrev pub Below : ℕ → List ℕ → Type 0
Below n [] = Unit {0}
Below n (i ∷ places) = (i < n) × Below n places

-- P and s are the plan's and the cascade's cells, t is the time
pub record OrderFree (P : List ℕ) (t : ℕ) (s : List ℕ) : Type 0 where
  -- of the answers
  pub permuted : (offers : List Offer) (places : List ℕ) → Below (length offers) places
      → answers_to P t s (at_places no_offer offers places) ≡ at_places 0 (answers_to P t s offers) places
  -- and of two calls, the second with the first one's offers at these places: whether it is refused is by how many numbers there are,
  -- and its bytes are the first one's at these places
  pub same_number : (numbers others buffer : List ℕ) → length others ≡ length numbers → offers_row others buffer ≡ offers_row numbers buffer
  pub bytes : (numbers others buffer : List ℕ) (places : List ℕ) → offers_in others ≡ at_places no_offer (offers_in numbers) places
      → Below (length (offers_in numbers)) places → (left left' : List ℕ)
      → OffersPromise P t s numbers buffer 0 left → OffersPromise P t s others buffer 0 left'
      → take (length places) left' ≡ at_places 0 left places
