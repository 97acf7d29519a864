-- A node's request by the words of WaitWords, in the core and in the record of times, in frame `now`: a high one is kept by each frame's
-- start since its event, or a first one made it normal, and that start is its time.
use Prim.Native.Nat.{ℕ, ◌+◌, ◌-◌, ◌*◌, ◌≤◌, ◌<◌}
use mathlib.Core.Path.{◌≡◌, refl, sym, ap, ◌∙◌}
use mathlib.Core.Bool.{Bool, true, false, not, ◌||◌}
use mathlib.Core.List.{List}
use native.Mathlib.Omega.{arith}
use lib.Dec.{ltb, eqb}
use borrow.Author.Tests.{ltb-true, ltb-false, eqb-true, eqb-false, not-true, not-false, le-leb, lt-leb, eq-eqb, ne_eqb}
use Rattle.std.specs.Prelude.{if◌then◌else◌}
use Rattle.rules.specs.Plan.{Plan}
use Rattle.rules.specs.Call.{Class, normal, high}
use Rattle.rules.specs.Core.{Request, none, standing, Share, frame_of, reclassed, is_class}
use Rattle.rules.specs.Run.{Entry}
use Rattle.rules.specs.Words.{reserved}
use Rattle.rules.specs.WaitWords.{Up, nothing, up, Stand, stands, keeps, stand_by, first_put_up}
use Rattle.rules.specs.Waits.{turns_normal, stand_of}
use Rattle.rules.proofs.Laws.Passes.{Which, which, yes', no', true-false, Found, missing, lowest, first_found}

pub data Marks (p : Plan) (k : ℕ) (past : List Entry) (now : ℕ) : Up → Request → ℕ → Type 0 where
  neither : (time : ℕ) → Marks p k past now nothing none time
  plain : (since u b : ℕ) → Marks p k past now (up normal since u b) (standing normal b) since
  kept : (since u b : ℕ) → frame_of p u ≤ now → ((f : ℕ) → frame_of p u < f → f ≤ now → keeps (reserved p k f past) b ≡ true)
      → Marks p k past now (up high since u b) (standing high b) since
  turned : (since u b f time : ℕ) → frame_of p u < f → f ≤ now → keeps (reserved p k f past) b ≡ false
      → ((g : ℕ) → frame_of p u < g → g < f → keeps (reserved p k g past) b ≡ true) → time ≡ f * p.frame
      → Marks p k past now (up high since u b) (standing normal b) time

-- what a frame's start makes of a high request, by the core, by the watching state and by the words
pub data Start (r : Share) (b : ℕ) : Request → Bool → Type 0 where
  stays_high : keeps r b ≡ true → Start r b (standing high b) false
  turns_normal_lem : keeps r b ≡ false → Start r b (standing normal b) true

pub start_of : (r : Share) (b : ℕ) → Start r b (reclassed r (standing high b)) (turns_normal r (standing high b))
start_of r b = go (eqb r.packets 0) (ltb r.bits b) refl refl
  where
    go : (z l : Bool) → eqb r.packets 0 ≡ z → ltb r.bits b ≡ l
        → Start r b (if z || l then standing normal b else standing high b) (is_class normal (if z || l then standing normal b else standing high b))
    go true l e f = turns_normal_lem (rw (lt-leb 1 r.packets (omega (arith, eqb-true r.packets 0 e))))
    go false true e f =
        turns_normal_lem
        (rw (le-leb 1 r.packets (omega (arith, eqb-false r.packets 0 e)), lt-leb b r.bits (ltb-true r.bits b f)))
    go false false e f =
        stays_high
        (rw (le-leb 1 r.packets (omega (arith, eqb-false r.packets 0 e)), le-leb b r.bits (ltb-false r.bits b f)))

-- the time of a new request, by the request that it replaces in the core
pub first-put-up : (d : Class) (q : Request) (time t new : ℕ) → (is_class d q ≡ true → new ≡ time) → (is_class d q ≡ false → new ≡ t)
    → first_put_up d t (stand_of q time) ≡ new
first-put-up normal none time t new old anew = omega (arith, anew refl)
first-put-up high none time t new old anew = omega (arith, anew refl)
first-put-up normal (standing normal b) time t new old anew = omega (arith, old refl)
first-put-up normal (standing high b) time t new old anew = omega (arith, anew refl)
first-put-up high (standing normal b) time t new old anew = omega (arith, anew refl)
first-put-up high (standing high b) time t new old anew = omega (arith, old refl)

module _ (p : Plan) (k : ℕ) where
  -- what is reserved up to now is all that matters
  pub marks_on : {past on : List Entry} {now : ℕ} {u : Up} {q : Request} {time : ℕ}
      → ((f : ℕ) → f ≤ now → reserved p k f on ≡ reserved p k f past) → Marks p k past now u q time → Marks p k on now u q time
  marks_on same (neither time) = neither time
  marks_on same (plain since u b) = plain since u b
  marks_on same (kept since u b l ks) = kept since u b l (λ f m v. rw (same f v) (ks f m v))
  marks_on same (turned since u b f time l m n ks e) =
      turned since u b f time l m (rw (same f m) n) (λ g v w. rw (same g (omega arith)) (ks g v w)) e

  -- one frame's start or several: each finds the latest reservation in force, so the first of them does it all
  pub marks_start : {past : List Entry} {now soon : ℕ} {u : Up} {q : Request} {time : ℕ} (r : Share) → now < soon
      → ((f : ℕ) → now < f → reserved p k f past ≡ r) → Marks p k past now u q time
      → Marks p k past soon u (reclassed r q) (if turns_normal r q then (now + 1) * p.frame else time)
  marks_start r l later (neither time) = neither time
  marks_start r l later (plain since u b) = plain since u b
  marks_start r l later (turned since u b f time m v n ks e) = turned since u b f time m (omega arith) n ks e
  marks_start {past} {now} {soon} r l later (kept since u b m ks) = go (start_of r b)
    where
      all : keeps r b ≡ true → (f : ℕ) → frame_of p u < f → Which (ltb now f) → keeps (reserved p k f past) b ≡ true
      all h f v (yes' e) = rw (later f (ltb-true now f e)) h
      all h f v (no' e) = ks f v (ltb-false now f e)

      go : {q : Request} {t : Bool} → Start r b q t → Marks p k past soon (up high since u b) q (if t then (now + 1) * p.frame else since)
      go (stays_high h) = kept since u b (omega arith) (λ f v w. all h f v (which (ltb now f)))
      go (turns_normal_lem h) =
          turned since u b (now + 1) ((now + 1) * p.frame) (omega arith) (omega arith) (rw (later (now + 1) (omega arith)) h)
          (λ g v w. ks g v (omega arith)) refl

  -- So the words tell what is recorded: the first start that they find is the one that made the request normal
  module _ (t : ℕ) (past : List Entry) (since u b : ℕ) where
    abbrev Turning : ℕ → Type 0
    Turning f = Found (λ f. not (keeps (reserved p k f past) b)) (frame_of p u + 1) (frame_of p t - frame_of p u) f

    abbrev stand_from : ℕ → Stand
    stand_from f = if eqb f 0 then stands high since else stands normal (f * p.frame)

    stays : {f : ℕ} → frame_of p u ≤ frame_of p t → ((f : ℕ) → frame_of p u < f → f ≤ frame_of p t → keeps (reserved p k f past) b ≡ true)
        → Turning f → stand_from f ≡ stands high since
    stays {f} l ks (missing z less) = rw (eq-eqb f 0 z)
    stays {f} l ks (lowest m v n less) = absurd (true-false (ks f (omega arith) (omega arith)) (not-true _ n))

    turns : {f : ℕ} (g : ℕ) → frame_of p u < g → g ≤ frame_of p t → keeps (reserved p k g past) b ≡ false
        → ((f : ℕ) → frame_of p u < f → f < g → keeps (reserved p k f past) b ≡ true) → Turning f → stand_from f ≡ stands normal (g * p.frame)
    turns {f} g l m n ks (missing z less) = absurd (true-false (not-false _ (less g (omega arith) (omega arith))) n)
    turns {f} g l m n ks (lowest v w y less) =
        rw (ne_eqb f 0 (λ e. omega arith)) (ap (λ (x : ℕ). stands normal (x * p.frame)) (go (which (ltb f g)) (which (ltb g f))))
      where
        go : Which (ltb f g) → Which (ltb g f) → f ≡ g
        go (yes' e) h = absurd (true-false (ks f (omega arith) (ltb-true f g e)) (not-true _ y))
        go (no' e) (yes' h) = absurd (true-false (not-false _ (less g (omega arith) (ltb-true g f h))) n)
        go (no' e) (no' h) = omega (arith, ltb-false f g e, ltb-false g f h)

  pub stand_told : (t : ℕ) (past : List Entry) {u : Up} {q : Request} {time : ℕ} → Marks p k past (frame_of p t) u q time
      → stand_by p k t past u ≡ stand_of q time
  stand_told t past (neither time) = refl
  stand_told t past (plain since u b) = refl
  stand_told t past (kept since u b l ks) = stays t past since u b l ks (first_found _ _ _)
  stand_told t past (turned since u b f time l m n ks e) = turns t past since u b f l m n ks (first_found _ _ _) ∙ ap (stands normal) (sym e)
