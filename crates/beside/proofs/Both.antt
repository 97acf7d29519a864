-- What each of two tables saw of a list with the calls of both is an extended list of its own: so what is proved of one table alone holds
-- beside others.
use Prim.Native.Nat.{ℕ}
use mathlib.Core.Path.{◌≡◌, refl, sym, ap, ap₂, ◌∙◌, subst₂}
use mathlib.Core.Bool.{Bool, true, false}
use mathlib.Core.List.{List, [], ◌∷◌}
use Rattle.rules.specs.Call.{until}
use Rattle.cells.specs.Calls.{row_by}
use Rattle.beside.specs.Beside.{Reply, refusal, told, Effect, stays, comes_to, Beside, Lawful, seen, Item, of_hub, aside, effect_of, projected}
use Rattle.beside.specs.Extended.{cells_left, watching, state_left, AsidePromise, Extended, before, after, event, stepping, besides}
use Rattle.beside.specs.Both.{Either, on, States, put_in, both, seen_item, one_item, one_of}
use Rattle.beside.proofs.Projection.{until_accepted}

seen_projected : (B : Beside) (x : Effect) (ys : List (Item B)) → projected B (seen_item x ys) ≡ seen x (projected B ys)
unfolding projected
seen_projected B stays ys = refl
seen_projected B (comes_to t) ys = refl

-- a call beside the hub as the hub saw it goes on with any table's list
seen_one : (B : Beside) (P : List ℕ) {ys : List (Item B)} {b : B.State} {s : List ℕ} → Extended B P ys b s
    → (x : Effect) → ((t : ℕ) → x ≡ comes_to t → row_by P (until t) s ≡ 0)
    → (z : List ℕ) (c : B.State) → z ≡ cells_left P x s → c ≡ watching B P x s b → Extended B P (seen_item x ys) c z
seen_one B P {ys = ys} made stays ok z c f d = subst₂ (Extended B P ys) (sym d) (sym f) made
seen_one B P made (comes_to t) ok z c f d = after made (event (until t) refl 0 z c (sym (ok t refl), f) d)

module _ (F : Bool → Beside) where
  both_passed : ((i : Bool) → Lawful (F i)) → (P s : List ℕ) (q : Either F) (b : States F) (a : (both F).Told q) (t : ℕ)
      → (both F).reply P s q b ≡ told a → (both F).effect q a ≡ comes_to t → row_by P (until t) s ≡ 0
  both_passed law P s (on i q) b a t e f = (law i).as_until P s q (b i) a t e f

  pub both_lawful : ((i : Bool) → Lawful (F i)) → Lawful (both F)
  both_lawful law = record { as_until = both_passed law }

  same_effect : (j : Bool) (q : (F j).Ask) (r : Reply ((F j).Told q)) → effect_of (both F) (on j q) r ≡ effect_of (F j) q r
  same_effect j q (refusal n) = refl
  same_effect j q (told a) = refl

  put_same : (i : Bool) (c : (F i).State) (b : States F) → put_in F i c b i ≡ c
  put_same true c b = refl
  put_same false c b = refl

  module _ (P : List ℕ) where
    watching_at : (i : Bool) (x : Effect) (s : List ℕ) (b : States F) → watching (both F) P x s b i ≡ watching (F i) P x s (b i)
    watching_at i stays s b = refl
    watching_at i (comes_to t) s b = refl

    -- its own call
    state_mine : (i : Bool) (q : (F i).Ask) (r : Reply ((F i).Told q)) (s : List ℕ) (b : States F)
        → state_left (both F) P (on i q) r s b i ≡ state_left (F i) P q r s (b i)
    state_mine i q (refusal n) s b = refl
    state_mine i q (told a) s b =
        let w = watching (both F) P ((F i).effect q a) s b in
        put_same i ((F i).next P s q (w i)) w ∙ ap ((F i).next P s q) (watching_at i ((F i).effect q a) s b)

    -- a call on the other table
    state_others : (i j : Bool) → ((c : (F j).State) (b : States F) → put_in F j c b i ≡ b i)
        → (q : (F j).Ask) (r : Reply ((F j).Told q)) (s : List ℕ) (b : States F)
        → state_left (both F) P (on j q) r s b i ≡ watching (F i) P (effect_of (F j) q r) s (b i)
    state_others i j apart q (refusal n) s b = refl
    state_others i j apart q (told a) s b =
        let w = watching (both F) P ((F j).effect q a) s b in
        apart ((F j).next P s q (w j)) w ∙ watching_at i ((F j).effect q a) s b

    mine : (i : Bool) (q : (F i).Ask) (r : Reply ((F i).Told q)) {ys : List (Item (F i))} (s z : List ℕ) (b c : States F)
        → AsidePromise (both F) P (on i q) s b r z c → Extended (F i) P ys (b i) s → Extended (F i) P (aside q r ∷ ys) (c i) z
    mine i q r s z b c p made =
        after made
        (besides q r z (c i)
        (p.0, p.1 ∙ ap (λ (x : Effect). cells_left P x s) (same_effect i q r), ap (λ (x : States F). x i) p.2 ∙ state_mine i q r s b))

    others : (i j : Bool) → ((c : (F j).State) (b : States F) → put_in F j c b i ≡ b i) → Lawful (F j)
        → (q : (F j).Ask) (r : Reply ((F j).Told q)) {ys : List (Item (F i))} (s z : List ℕ) (b c : States F)
        → AsidePromise (both F) P (on j q) s b r z c → Extended (F i) P ys (b i) s → Extended (F i) P (seen_item (effect_of (F j) q r) ys) (c i) z
    others i j apart law q r s z b c p made =
        seen_one (F i) P made (effect_of (F j) q r) (until_accepted (F j) law P s q (b j) r p.0) z (c i)
        (p.1 ∙ ap (λ (x : Effect). cells_left P x s) (same_effect j q r)) (ap (λ (x : States F). x i) p.2 ∙ state_others i j apart q r s b)

    one_call : ((i : Bool) → Lawful (F i)) → (i j : Bool) (q : (F j).Ask) (r : Reply ((F j).Told q)) {ys : List (Item (F i))} (s z : List ℕ) (b c : States F)
        → AsidePromise (both F) P (on j q) s b r z c → Extended (F i) P ys (b i) s → Extended (F i) P (one_item F i j q r ys) (c i) z
    one_call law true true q r s z b c p made = mine true q r s z b c p made
    one_call law true false q r s z b c p made = others true false (λ c b. refl) (law false) q r s z b c p made
    one_call law false true q r s z b c p made = others false true (λ c b. refl) (law true) q r s z b c p made
    one_call law false false q r s z b c p made = mine false q r s z b c p made

    -- what table i saw of the list is an extended list, and leaves it as it is
    pub one_of_lem : ((i : Bool) → Lawful (F i)) → {xs : List (Item (both F))} {b : States F} {s : List ℕ} → Extended (both F) P xs b s → (i : Bool)
        → Extended (F i) P (one_of F i xs) (b i) s
    unfolding one_of
    one_of_lem law before i = before
    one_of_lem law (after more (event call ev r z c p w)) i = after (one_of_lem law more i) (event call ev r z (c i) p (ap (λ (x : States F). x i) w))
    one_of_lem law (after more (stepping t r z c p w)) i = after (one_of_lem law more i) (stepping t r z (c i) p (ap (λ (x : States F). x i) w))
    one_of_lem law (after {b = b} {s = s} more (besides (on j q) r z c p)) i = one_call law i j q r s z b c p (one_of_lem law more i)

  one_seen : (i j : Bool) (q : (F j).Ask) (r : Reply ((F j).Told q)) (ys : List (Item (F i)))
      → projected (F i) (one_item F i j q r ys) ≡ seen (effect_of (F j) q r) (projected (F i) ys)
  unfolding projected
  one_seen true true q r ys = refl
  one_seen true false q r ys = seen_projected (F true) (effect_of (F false) q r) ys
  one_seen false true q r ys = seen_projected (F false) (effect_of (F true) q r) ys
  one_seen false false q r ys = refl

  -- and the hub saw the same of it
  pub one_projected : (i : Bool) (xs : List (Item (both F))) → projected (F i) (one_of F i xs) ≡ projected (both F) xs
  unfolding one_of projected
  one_projected i [] = refl
  one_projected i (of_hub e ∷ xs) = ap (◌∷◌ e) (one_projected i xs)
  one_projected i (aside (on j q) r ∷ xs) =
      one_seen i j q r (one_of F i xs) ∙ ap₂ seen (sym (same_effect j q r)) (one_projected i xs)
