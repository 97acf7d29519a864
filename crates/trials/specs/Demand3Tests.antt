-- Demand 3's premises and its claim as tests of a list of calls and answers, the latest first. Each is true just
-- where the word of `rules` that its comment names holds of the list: proofs/Demand3Tests.antt.
use Rattle.std.specs.Prelude.{ℕ, ◌+◌, ◌-◌, ◌*◌, Bool, true, false, not, ◌&&◌, ◌||◌, List, [], ◌∷◌, ltb, leb, eqb, length, get_or, if◌then◌else◌}
use Rattle.rules.specs.Choice.{any}
use Rattle.rules.specs.Plan.{Plan}
use Rattle.rules.specs.Call.{normal, high}
use Rattle.rules.specs.Core.{Share, frame_of}
use Rattle.rules.specs.Run.{Entry}
use Rattle.rules.specs.Words.{clock_at, reserved, Asked, none, asked, request_at, high_grants, turn_in, quiet_to, delay_limit}

-- `Keeps`: what is in force leaves a high request of b bits high
abbrev pub keeps : Share → ℕ → Bool
keeps r b = leb 1 r.packets && leb b r.bits

module _ (p : Plan) (k : ℕ) where
  -- whether some frame start behind t's frame, up to the clock, makes a high request of b bits normal
  abbrev pub made_normal : ℕ → ℕ → List Entry → Bool
  made_normal t b past = any (frame_of p (clock_at past) - frame_of p t) (λ i. not (keeps (reserved p k (frame_of p t + i) past) b))

  abbrev pub high_by : Asked → List Entry → Bool
  high_by none past = false
  high_by (asked normal t b) past = false
  high_by (asked high t b) past = leb 1 (reserved p k (frame_of p t) past).packets && not (made_normal t b past)

  -- `High`: k's request is high at a place
  unfoldable pub is_high : List Entry → Bool
  is_high past = high_by (request_at k past) past

module _ (p : Plan) (k f : ℕ) where
  -- how many high grants k has had in f
  abbrev pub grants : List Entry → ℕ
  grants past = length (high_grants p k f past)

  -- the clock is at most f × T
  abbrev pub early : List Entry → Bool
  early past = leb (clock_at past) (f * p.frame)

  -- `Unbroken`: back from k's first high grant in f, or from the list's end if none comes,
  -- its request is high at each place, as far as one with the clock at most f × T
  unfoldable pub unbroken : List Entry → Bool
  unbroken [] = false
  unbroken (e ∷ past) =
      let before = unbroken past in
      if eqb (grants (e ∷ past)) 0 then is_high p k (e ∷ past) && (early (e ∷ past) || before)
      else before

  -- whether the call e is a step that answers a grant or a rest at a time in f, after the first and up to the nth of k's high grants
  abbrev pub is_next_turn : ℕ → Entry → List Entry → Bool
  is_next_turn n e past = turn_in p f e.call e.answer && (leb 1 (grants past) && ltb (grants past) n)

  -- `NextTurns`: k's request is high at the place just before each of those
  unfoldable pub next_turns : ℕ → List Entry → Bool
  next_turns n [] = true
  next_turns n (e ∷ past) = (if is_next_turn n e past then is_high p k past else true) && next_turns n past

  -- f × T plus the delay limit
  abbrev pub limit : List Entry → ℕ
  limit whole = f * p.frame + delay_limit p k (λ j. reserved p j f whole)

  -- `Demand3`, in two halves: exactly n high grants, and the nth end within the limit
  abbrev pub exactly : List Entry → Bool
  exactly whole = eqb (grants whole) (reserved p k f whole).packets

  abbrev pub in_time : List Entry → Bool
  in_time whole = leb (get_or (high_grants p k f whole) 0 0) (limit whole)

-- `RunTo`: by the clock, or by a last step that is answered quiet
abbrev pub last_quiet : ℕ → List Entry → Bool
last_quiet time [] = false
last_quiet time (e ∷ past) = quiet_to time e.call e.answer

abbrev pub run_to : ℕ → List Entry → Bool
run_to time whole = leb time (clock_at whole) || last_quiet time whole
