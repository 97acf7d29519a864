-- Two tables beside one hub, and lists with the calls of both; one of the two may be such a pair again.
use Rattle.std.specs.Prelude.{ℕ, Bool, true, false, List, [], ◌∷◌}
use Rattle.rules.specs.Call.{until, taken}
use Rattle.beside.specs.Beside.{Reply, Effect, stays, comes_to, Beside, entry, Item, of_hub, aside, effect_of}

-- a call as the hub saw it, in another table's list
abbrev pub seen_item : {B : Beside} → Effect → List (Item B) → List (Item B)
seen_item stays xs = xs
seen_item (comes_to t) xs = of_hub (entry (until t) taken) ∷ xs

module _ (F : Bool → Beside) where
  -- a call on one of them
  pub data Either : Type 0 where
    on : (i : Bool) → (F i).Ask → Either

  abbrev pub either_told : Either → Type 0
  either_told (on i q) = (F i).Told q

  -- what stands in both places
  abbrev pub States : Type 0
  States = (i : Bool) → (F i).State

  -- c in one place
  abbrev pub put_in : (i : Bool) → (F i).State → States → States
  put_in true c b true = c
  put_in true c b false = b false
  put_in false c b true = b true
  put_in false c b false = c

  abbrev pub either_reply : (P s : List ℕ) (q : Either) → States → Reply (either_told q)
  either_reply P s (on i q) b = (F i).reply P s q (b i)

  abbrev pub either_next : (P s : List ℕ) → Either → States → States
  either_next P s (on i q) b = put_in i ((F i).next P s q (b i)) b

  abbrev pub either_effect : (q : Either) → either_told q → Effect
  either_effect (on i q) a = (F i).effect q a

  -- each call goes to its own table, and both watch the hub
  abbrev pub both : Beside
  both =
      record {
        State = States;
        start = λ i. (F i).start;
        Ask = Either;
        Told = either_told;
        reply = either_reply;
        next = either_next;
        effect = either_effect;
        watch = λ P s e b i. (F i).watch P s e (b i);
      }

  -- What table i saw of a list: its own calls and the hub's; a call on the other table as the hub saw it.
  abbrev pub one_item : (i j : Bool) (q : (F j).Ask) → Reply ((F j).Told q) → List (Item (F i)) → List (Item (F i))
  one_item true true q r xs = aside q r ∷ xs
  one_item true false q r xs = seen_item (effect_of (F false) q r) xs
  one_item false true q r xs = seen_item (effect_of (F true) q r) xs
  one_item false false q r xs = aside q r ∷ xs

  unfoldable pub one_of : (i : Bool) → List (Item both) → List (Item (F i))
  one_of i [] = []
  one_of i (of_hub e ∷ xs) = of_hub e ∷ one_of i xs
  one_of i (aside (on j q) r ∷ xs) = one_item i j q r (one_of i xs)
