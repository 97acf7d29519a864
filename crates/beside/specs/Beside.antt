-- A table beside the hub with its own calls, as training, prices, bills and offers have one: no turn looks at it.
use Rattle.std.specs.Prelude.{ℕ, ◌≡◌, List, [], ◌∷◌}
use Rattle.rules.specs.Call.{Call, until, Answer, taken}
use Rattle.rules.specs.Run.{Entry}
use Rattle.cells.specs.Calls.{row_by}

-- a call beside the hub is refused with its number, or accepted and tells something
pub data Reply (A : Type 0) : Type 0 where
  refusal : ℕ → Reply A
  told : A → Reply A

-- all that an accepted one may do to the hub: nothing, or its clock comes to t
pub data Effect : Type 0 where
  stays : Effect
  comes_to : ℕ → Effect

-- what a request describes; P and s are the plan's cells and the hub's before a call
pub record Beside : Type 1 where
  -- what stands beside the hub, and what stands there before any call
  pub State : Type 0
  pub start : State
  -- the calls beside the hub, and what each tells where it is accepted
  pub Ask : Type 0
  pub Told : Ask → Type 0
  -- what a call must answer, and what an accepted one leaves beside the hub; a refused one changes nothing
  pub reply : (P s : List ℕ) (q : Ask) → State → Reply (Told q)
  pub next : (P s : List ℕ) → Ask → State → State
  -- what an accepted one does to the clock, by the call and what it told alone
  pub effect : (q : Ask) → Told q → Effect
  -- it may watch the hub: the cells before a call, the call and its answer
  pub watch : (P s : List ℕ) → Entry → State → State

-- what a request has to prove: its calls move the clock to t only where `until t` is accepted
pub record Lawful (B : Beside) : Type 0 where
  pub as_until : (P s : List ℕ) (q : B.Ask) (b : B.State) (a : B.Told q) (t : ℕ) → B.reply P s q b ≡ told a → B.effect q a ≡ comes_to t
      → row_by P (until t) s ≡ 0

abbrev pub entry : Call → Answer → Entry
entry call answer = record { call = call; answer = answer }

-- what the hub saw of a call beside it, in front of its past: nothing, or an accepted `until`
abbrev pub seen : Effect → List Entry → List Entry
seen stays past = past
seen (comes_to t) past = entry (until t) taken ∷ past

module _ (B : Beside) where
  -- a call with its answer: one of the hub's six, or one beside it
  pub data Item : Type 0 where
    of_hub : Entry → Item
    aside : (q : B.Ask) → Reply (B.Told q) → Item

  -- a refused call does nothing
  abbrev pub effect_of : (q : B.Ask) → Reply (B.Told q) → Effect
  effect_of q (refusal n) = stays
  effect_of q (told a) = B.effect q a

  -- The projection: an extended list as the hub saw it, the latest call first.
  unfoldable pub projected : List Item → List Entry
  projected [] = []
  projected (of_hub e ∷ xs) = e ∷ projected xs
  projected (aside q r ∷ xs) = seen (effect_of q r) (projected xs)
