-- The tests of demand 3's premises and its claim, and what they say: each is
-- true just where the word of `rules` that it stands for holds of the list.
use Prim.Native.Nat.{ℕ, ◌+◌, ◌-◌, ◌*◌, ◌≤◌, ◌<◌}
use mathlib.Core.Path.{◌≡◌, refl, sym, ap, ◌∙◌, subst}
use mathlib.Core.Bool.{Bool, true, false, not, ◌&&◌, ◌||◌}
use mathlib.Core.List.{List, [], ◌∷◌, ◌++◌}
use mathlib.Core.Logic.{◌↔◌, ⊎_elim}
use native.Mathlib.Omega.{arith}
use lib.Dec.{ltb, leb, eqb}
use lib.ListN.{length}
use borrow.Author.Tests.{ltb-true, lt-ltb, leb-true, le-leb, eqb-true, eq-eqb, not-true, not-false}
use Rattle.std.specs.Prelude.{if◌then◌else◌}
use Rattle.rules.specs.Plan.{Plan}
use Rattle.rules.specs.Drawn.{Within}
use Rattle.rules.specs.Call.{normal, high}
use Rattle.rules.specs.Core.{Share, frame_of}
use Rattle.rules.specs.Run.{Entry}
use Rattle.rules.specs.Words.{clock_at, reserved, Asked, none, asked, request_at, Keeps, High, high_grants, turn_in}
use Rattle.rules.specs.Demand.{Unbroken, NextTurns, RunTo, by_clock, by_quiet, Demand3}
use Rattle.rules.proofs.Laws.Passes.{Which, which, yes', no', true-false, or_left, or_right, or_cases, and_both, any_none, none_any}
use Rattle.rules.proofs.Laws.Clash.{clash}
use Rattle.trials.specs.Demand3Tests.{keeps, made_normal, high_by, is_high, grants, early, unbroken, is_next_turn, next_turns, exactly, in_time, last_quiet, run_to}

both_true : (a b : Bool) → a ≡ true → b ≡ true → (a && b) ≡ true
both_true a b e g = rw (e, g)

keeps_is : (r : Share) (b : ℕ) → (keeps r b ≡ true) ↔ Keeps r b
keeps_is r b = (
  λ e.
      let (some, fits) = and_both (leb 1 r.packets) (leb b r.bits) e in
      record { some = leb-true 1 r.packets some; fits = leb-true b r.bits fits },
  λ w. both_true (leb 1 r.packets) (leb b r.bits) (le-leb 1 r.packets w.some) (le-leb b r.bits w.fits),
)

module _ (p : Plan) (k : ℕ) (past : List Entry) where
  -- each frame start behind t's frame, up to the clock, keeps a high request of b bits
  abbrev AllKeep : ℕ → ℕ → Type 0
  AllKeep t b = (f : ℕ) → frame_of p t < f → f ≤ frame_of p (clock_at past) → Keeps (reserved p k f past) b

  all_keep : (t b : ℕ) → (made_normal p k t b past ≡ false) ↔ AllKeep t b
  all_keep t b = (λ e f low up. there e f low up, λ all. none_any _ _ (λ i v. at_each all i v))
    where
      there : made_normal p k t b past ≡ false → (f : ℕ) → frame_of p t < f → f ≤ frame_of p (clock_at past) → Keeps (reserved p k f past) b
      there e f low up =
          let i = f - frame_of p t in
          let at_f : frame_of p t + i ≡ f = omega arith in
          let kept = not-false _ (any_none (frame_of p (clock_at past) - frame_of p t) _ e i (record { low = omega arith; up = omega arith })) in
          (keeps_is (reserved p k f past) b).0 (subst (λ (y : ℕ). keeps (reserved p k y past) b ≡ true) at_f kept)

      at_each : AllKeep t b → (i : ℕ) → Within (frame_of p (clock_at past) - frame_of p t) i → not (keeps (reserved p k (frame_of p t + i) past) b) ≡ false
      at_each all i v =
          ap not ((keeps_is (reserved p k (frame_of p t + i) past) b).1 (all (frame_of p t + i) (omega (arith, v.low)) (omega (arith, v.low, v.up))))

  high_is : (is_high p k past ≡ true) ↔ High p k past
  unfolding is_high
  high_is = (go (request_at k past) refl, back)
    where
      go : (a : Asked) → request_at k past ≡ a → high_by p k a past ≡ true → High p k past
      go none q e = absurd (true-false e refl)
      go (asked normal t b) q e = absurd (true-false e refl)
      go (asked high t b) q e =
          let (some, keep) = and_both (leb 1 (reserved p k (frame_of p t) past).packets) (not (made_normal p k t b past)) e in
          record {
            put_up = t;
            length = b;
            stands = q;
            in_force = leb-true 1 (reserved p k (frame_of p t) past).packets some;
            kept = (all_keep t b).0 (not-true (made_normal p k t b past) keep);
          }

      back : High p k past → high_by p k (request_at k past) past ≡ true
      back h =
          let some = le-leb 1 (reserved p k (frame_of p h.put_up) past).packets h.in_force in
          let keep = ap not ((all_keep h.put_up h.length).1 h.kept) in
          ap (λ (a : Asked). high_by p k a past) h.stands ∙ both_true _ _ some keep

module _ (p : Plan) (k f : ℕ) where
  -- a place further on: there the request is high too, unless a high grant has come
  further : (e : Entry) (past : List Entry) → Unbroken p k f past → (high_grants p k f (e ∷ past) ≡ [] → High p k (e ∷ past)) → Unbroken p k f (e ∷ past)
  further e past u here =
      record { since = e ∷ u.since; before = u.before; place = ap (λ (l : List Entry). e ∷ l) u.place; early = u.early; first = u.first; high = stands }
    where
      last : high_grants p k f (e ∷ (u.since ++ u.before)) ≡ [] → High p k (e ∷ (u.since ++ u.before))
      last = subst (λ (l : List Entry). high_grants p k f (e ∷ l) ≡ [] → High p k (e ∷ l)) u.place here

      stands : (later passed : List Entry) → e ∷ u.since ≡ later ++ passed → high_grants p k f (passed ++ u.before) ≡ [] → High p k (passed ++ u.before)
      stands [] passed q = subst (λ (l : List Entry). high_grants p k f (l ++ u.before) ≡ [] → High p k (l ++ u.before)) q last
      stands (x ∷ later) passed q = u.high later passed (cc)

  -- a place where it starts
  starting : (past : List Entry) → clock_at past ≤ f * p.frame → high_grants p k f past ≡ [] → High p k past → Unbroken p k f past
  starting past early first here = record { since = []; before = past; place = refl; early = early; first = first; high = stands }
    where
      stands : (later passed : List Entry) → [] ≡ later ++ passed → high_grants p k f (passed ++ past) ≡ [] → High p k (passed ++ past)
      stands [] [] q n = here
      stands [] (x ∷ passed) q n = clash (cc)
      stands (x ∷ later) passed q n = clash (cc)

  -- it starts at this place, or further back
  data Since (e : Entry) (past : List Entry) : Type 0 where
    from_here : clock_at (e ∷ past) ≤ f * p.frame → high_grants p k f (e ∷ past) ≡ [] → Since e past
    from_before : Unbroken p k f past → Since e past

  since_when : (e : Entry) (past : List Entry) → Unbroken p k f (e ∷ past) → Since e past
  since_when e past u = go u.since refl
    where
      go : (s : List Entry) → u.since ≡ s → Since e past
      go [] q =
          let all : e ∷ past ≡ u.before = u.place ∙ ap (λ (l : List Entry). l ++ u.before) q in
          from_here (subst (λ (l : List Entry). clock_at l ≤ f * p.frame) (sym all) u.early) (ap (high_grants p k f) all ∙ u.first)
      go (x ∷ s) q =
          let all : e ∷ past ≡ x ∷ (s ++ u.before) = u.place ∙ ap (λ (l : List Entry). l ++ u.before) q in
          from_before
          (record {
            since = s;
            before = u.before;
            place = cc;
            early = u.early;
            first = u.first;
            high = λ later passed r. u.high (x ∷ later) passed (q ∙ ap (λ (l : List Entry). x ∷ l) r);
          })

  at_end : (whole : List Entry) → Unbroken p k f whole → high_grants p k f whole ≡ [] → High p k whole
  at_end whole u = subst (λ (l : List Entry). high_grants p k f l ≡ [] → High p k l) (sym u.place) (u.high [] u.since refl)

  nothing_yet : (l : List ℕ) → (eqb (length l) 0 ≡ true) ↔ (l ≡ [])
  nothing_yet [] = (λ e. refl, λ e. refl)
  nothing_yet (x ∷ l) = (λ e. absurd (let z = eqb-true (length (x ∷ l)) 0 e in omega arith), λ e. clash (cc))

  module _ (e : Entry) (past : List Entry) (earlier : (unbroken p k f past ≡ true) ↔ Unbroken p k f past) where
    before-first : eqb (grants p k f (e ∷ past)) 0 ≡ true → ((is_high p k (e ∷ past) && (early p k f (e ∷ past) || unbroken p k f past)) ≡ true) ↔ Unbroken p k f (e ∷ past)
    before-first n = (there, back)
      where
        none_yet : high_grants p k f (e ∷ past) ≡ []
        none_yet = (nothing_yet (high_grants p k f (e ∷ past))).0 n

        there : (is_high p k (e ∷ past) && (early p k f (e ∷ past) || unbroken p k f past)) ≡ true → Unbroken p k f (e ∷ past)
        there q =
            let (h, w) = and_both (is_high p k (e ∷ past)) (early p k f (e ∷ past) || unbroken p k f past) q in
            let stands = (high_is p k (e ∷ past)).0 h in
            ⊎_elim (λ c. starting (e ∷ past) (let l = leb-true (clock_at (e ∷ past)) _ c in omega arith) none_yet stands)
            (λ u. further e past (earlier.0 u) (λ g. stands))
            (or_cases (early p k f (e ∷ past)) (unbroken p k f past) w)

        begun : Since e past → (early p k f (e ∷ past) || unbroken p k f past) ≡ true
        begun (from_here c g) = or_left (early p k f (e ∷ past)) (unbroken p k f past) (le-leb (clock_at (e ∷ past)) _ (omega arith))
        begun (from_before u) = or_right (early p k f (e ∷ past)) (unbroken p k f past) (earlier.1 u)

        back : Unbroken p k f (e ∷ past) → (is_high p k (e ∷ past) && (early p k f (e ∷ past) || unbroken p k f past)) ≡ true
        back u = both_true _ _ ((high_is p k (e ∷ past)).1 (at_end (e ∷ past) u none_yet)) (begun (since_when e past u))

    behind-first : eqb (grants p k f (e ∷ past)) 0 ≡ false → (unbroken p k f past ≡ true) ↔ Unbroken p k f (e ∷ past)
    behind-first n = (λ q. further e past (earlier.0 q) (λ g. absurd (some_grant g)), λ u. go (since_when e past u))
      where
        some_grant : high_grants p k f (e ∷ past) ≡ [] → ⊥
        some_grant g = true-false ((nothing_yet (high_grants p k f (e ∷ past))).1 g) n

        go : Since e past → unbroken p k f past ≡ true
        go (from_here c g) = absurd (some_grant g)
        go (from_before u) = earlier.1 u

    one_more : (unbroken p k f (e ∷ past) ≡ true) ↔ Unbroken p k f (e ∷ past)
    unfolding unbroken
    one_more = go (which (eqb (grants p k f (e ∷ past)) 0))
      where
        go : Which (eqb (grants p k f (e ∷ past)) 0) → (unbroken p k f (e ∷ past) ≡ true) ↔ Unbroken p k f (e ∷ past)
        go (yes' n) = rw n (before-first n)
        go (no' n) = rw n (behind-first n)

  pub unbroken_is : (whole : List Entry) → (unbroken p k f whole ≡ true) ↔ Unbroken p k f whole
  unfolding unbroken request_at high_grants
  unbroken_is [] = (λ e. absurd (true-false e refl), λ u. let h = at_end [] u refl in let s = h.stands in clash (cc))
  unbroken_is (e ∷ past) = one_more e past (unbroken_is past)

  -- the request is high before the one call, if that is a next turn, and before the earlier ones
  module _ (n : ℕ) (e : Entry) (past : List Entry) where
    is_next_turn_lem : (is_next_turn p k f n e past ≡ true)
        ↔ ((turn_in p f e.call e.answer ≡ true) × (1 ≤ grants p k f past) × (grants p k f past < n))
    is_next_turn_lem = (
      λ q.
          let (turn, rest) = and_both (turn_in p f e.call e.answer) (leb 1 (grants p k f past) && ltb (grants p k f past) n) q in
          let (low, up) = and_both (leb 1 (grants p k f past)) (ltb (grants p k f past) n) rest in
          (turn, leb-true 1 (grants p k f past) low, ltb-true (grants p k f past) n up),
      λ t. both_true _ _ t.0 (both_true _ _ (le-leb 1 (grants p k f past) t.1) (lt-ltb (grants p k f past) n t.2)),
    )

    abbrev AtTurn : Type 0
    AtTurn = turn_in p f e.call e.answer ≡ true → 1 ≤ grants p k f past → grants p k f past < n → High p k past

    at_turn : ((if is_next_turn p k f n e past then is_high p k past else true) ≡ true) ↔ AtTurn
    at_turn = go (which (is_next_turn p k f n e past))
      where
        go : Which (is_next_turn p k f n e past) → ((if is_next_turn p k f n e past then is_high p k past else true) ≡ true) ↔ AtTurn
        go (yes' t) =
            let (turn, low, up) = is_next_turn_lem.0 t in
            rw t (λ q a b c. (high_is p k past).0 q, λ at. (high_is p k past).1 (at turn low up))
        go (no' t) = rw t (λ q a b c. absurd (true-false (is_next_turn_lem.1 (a, b, c)) t), λ at. refl)

    turns_more : AtTurn → NextTurns p k f past n → NextTurns p k f (e ∷ past) n
    turns_more here earlier = record { high = go }
      where
        go : (later : List Entry) (x : Entry) (before : List Entry) → e ∷ past ≡ later ++ (x ∷ before) → turn_in p f x.call x.answer ≡ true
            → 1 ≤ length (high_grants p k f before) → length (high_grants p k f before) < n → High p k before
        go [] x before q =
            let same : e ≡ x = cc in
            let behind : past ≡ before = cc in
            subst (λ (l : List Entry). turn_in p f x.call x.answer ≡ true → 1 ≤ grants p k f l → grants p k f l < n → High p k l) behind
            (subst (λ (y : Entry). turn_in p f y.call y.answer ≡ true → 1 ≤ grants p k f past → grants p k f past < n → High p k past) same here)
        go (y ∷ later) x before q = earlier.high later x before (cc)

    turns_less : NextTurns p k f (e ∷ past) n → NextTurns p k f past n
    turns_less t = record { high = λ later x before q. t.high (e ∷ later) x before (ap (λ (l : List Entry). e ∷ l) q) }

  no_turns : (n : ℕ) → NextTurns p k f [] n
  no_turns n = record { high = go }
    where
      go : (later : List Entry) (x : Entry) (before : List Entry) → [] ≡ later ++ (x ∷ before) → turn_in p f x.call x.answer ≡ true
          → 1 ≤ length (high_grants p k f before) → length (high_grants p k f before) < n → High p k before
      go [] x before q = clash (cc)
      go (y ∷ later) x before q = clash (cc)

  pub next_turns_is : (n : ℕ) (whole : List Entry) → (next_turns p k f n whole ≡ true) ↔ NextTurns p k f whole n
  unfolding next_turns
  next_turns_is n [] = (λ e. no_turns n, λ t. refl)
  next_turns_is n (e ∷ past) =
      let earlier = next_turns_is n past in (
        λ q.
            let (a, b) = and_both (if is_next_turn p k f n e past then is_high p k past else true) (next_turns p k f n past) q in
            turns_more n e past ((at_turn n e past).0 a) (earlier.0 b),
        λ t. both_true _ _ ((at_turn n e past).1 (t.high [] e past refl)) (earlier.1 (turns_less n e past t)),
      )

  pub demand3_is : (whole : List Entry) → ((exactly p k f whole && in_time p k f whole) ≡ true) ↔ Demand3 p k f whole
  demand3_is whole = (
    λ q.
        let (a, b) = and_both (exactly p k f whole) (in_time p k f whole) q in
        record { exactly = eqb-true _ _ a; in_time = leb-true _ _ b },
    λ d. both_true _ _ (eq-eqb _ _ d.exactly) (le-leb _ _ d.in_time),
  )

pub run_to_is : (time : ℕ) (whole : List Entry) → (run_to time whole ≡ true) ↔ RunTo time whole
run_to_is time whole = (
  λ q.
      ⊎_elim (λ c. by_clock (leb-true time (clock_at whole) c)) (quietly whole)
      (or_cases (leb time (clock_at whole)) (last_quiet time whole) q),
  back,
)
  where
    quietly : (l : List Entry) → last_quiet time l ≡ true → RunTo time l
    quietly [] q = absurd (true-false q refl)
    quietly (e ∷ past) q = by_quiet e past refl q

    back : RunTo time whole → run_to time whole ≡ true
    back (by_clock c) = or_left (leb time (clock_at whole)) (last_quiet time whole) (le-leb time (clock_at whole) c)
    back (by_quiet e past q h) = or_right (leb time (clock_at whole)) (last_quiet time whole) (ap (last_quiet time) q ∙ h)
