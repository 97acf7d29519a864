-- The order of the offers changes no answer: each answer is by its own offer alone.
use Prim.Native.Nat.{ℕ, zero, suc, ◌+◌, ◌<◌}
use mathlib.Core.Path.{◌≡◌, refl, sym, ap, ap₂, ◌∙◌}
use mathlib.Core.List.{List, [], ◌∷◌}
use native.Mathlib.Omega.{arith}
use lib.ListN.{length, get_or, take, drop, length-map}
use lib.Seq.{take_at}
use Rattle.offers.specs.Offers.{Offer, offers_in, answer_to, answers_to, offers_row, OffersPromise}
use Rattle.offers.proofs.Laws.{offers_count, answers_count}
use Rattle.offers_theory.specs.Order.{no_offer, at_places, Below, OrderFree}
use Rattle.offers_theory.proofs.Single.{row_of, by_length, left_is, byte_at}

module _ (P : List ℕ) (t : ℕ) (s : List ℕ) where
  answer_at : (offers : List Offer) (i : ℕ) → i < length offers → get_or (answers_to P t s offers) i 0 ≡ answer_to P t s (get_or offers i no_offer)
  unfolding answers_to
  answer_at [] i l = absurd (omega arith)
  answer_at (o ∷ more) zero l = refl
  answer_at (o ∷ more) (suc i) l = answer_at more i (omega arith)

  permuted : (offers : List Offer) (places : List ℕ) → Below (length offers) places
      → answers_to P t s (at_places no_offer offers places) ≡ at_places 0 (answers_to P t s offers) places
  unfolding answers_to
  permuted offers [] below = refl
  permuted offers (i ∷ places) below =
      ap₂ (λ (a : ℕ) (more : List ℕ). a ∷ more) (sym (answer_at offers i below.0)) (permuted offers places below.1)

  -- the bytes at these places are the answers there
  bytes_at : (numbers buffer : List ℕ) → offers_row numbers buffer ≡ 0 → (left : List ℕ)
      → ((i : ℕ) → i < length (offers_in numbers) → get_or left i 0 ≡ get_or (answers_to P t s (offers_in numbers)) i 0)
      → (places : List ℕ) → Below (length (offers_in numbers)) places
      → at_places 0 (answers_to P t s (offers_in numbers)) places ≡ at_places 0 left places
  bytes_at numbers buffer z left same [] below = refl
  bytes_at numbers buffer z left same (i ∷ places) below =
      ap₂ (λ (a : ℕ) (more : List ℕ). a ∷ more) (sym (same i below.0)) (bytes_at numbers buffer z left same places below.1)

  bytes : (numbers others buffer : List ℕ) (places : List ℕ) → offers_in others ≡ at_places no_offer (offers_in numbers) places
      → Below (length (offers_in numbers)) places → (left left' : List ℕ)
      → OffersPromise P t s numbers buffer 0 left → OffersPromise P t s others buffer 0 left'
      → take (length places) left' ≡ at_places 0 left places
  bytes numbers others buffer places e below left left' w w' =
      let given = answers_to P t s (offers_in others) in
      let many : length given ≡ length places =
      answers_count P t s (offers_in others) ∙ ap length e ∙ length-map places (λ (i : ℕ). get_or (offers_in numbers) i no_offer) in
      ap (take (length places)) (w'.1 ∙ left_is P t s others buffer (sym w'.0))
      ∙ take_at given (drop (0 + length given) buffer) (length places) many
      ∙ ap (answers_to P t s) e
      ∙ permuted (offers_in numbers) places below
      ∙ bytes_at numbers buffer (sym w.0) left
      (λ i l. ap (λ (b : List ℕ). get_or b i 0) w.1 ∙ byte_at P t s numbers buffer (sym w.0) i (omega (arith, offers_count numbers))) places below

  pub order_free : OrderFree P t s
  order_free =
      record {
        permuted = permuted;
        same_number = λ numbers others buffer e. by_length others buffer ∙ ap (λ (n : ℕ). row_of n buffer) e ∙ sym (by_length numbers buffer);
        bytes = bytes;
      }
