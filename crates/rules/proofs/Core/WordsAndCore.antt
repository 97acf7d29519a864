-- How the words of demand 3 read the core off the calls and answers, but for the clock: a stronger form of `Told`, which each change keeps.
use Prim.Native.Nat.{ℕ, ◌≤◌, ◌<◌}
use mathlib.Core.Path.{◌≡◌, ap}
use mathlib.Core.List.{List, []}
use native.Mathlib.Omega.{arith}
use lib.Dec.{ltb}
use lib.ListN.{length}
use borrow.Author.Tests.{ltb-true, ltb-false}
use Rattle.rules.specs.Plan.{Plan}
use Rattle.rules.specs.Call.{normal, high}
use Rattle.rules.specs.Core.{Core, Request, standing, Share, frame_of, reclassed, advance}
use Rattle.rules.specs.Drawn.{Figures}
use Rattle.rules.specs.Run.{Entry}
use Rattle.rules.specs.Words.{reserved, Asked, asked, request_at, Keeps, high_grants}
use Rattle.rules.proofs.Laws.Passes.{Which, which, yes', no'}
use Rattle.rules.proofs.Laws.Frames.{frame_mono}
use Rattle.rules.proofs.Core.Instants.{Advanced, across, inside, advanced}
use Rattle.rules.proofs.Core.Requests.{Start, stays_high, becomes_normal, start_of}

-- k's request by the words, and in the core, in frame f: a high one is high still if each
-- frame start since kept it, and normal if one did not, or if nothing was in force as it came
pub data Tells (p : Plan) (k : ℕ) (past : List Entry) (now : ℕ) : Asked → Request → Type 0 where
  neither : Tells p k past now Asked.none Request.none
  plain : (t b : ℕ) → Tells p k past now (asked normal t b) (standing normal b)
  kept : (t b : ℕ) → frame_of p t ≤ now → 1 ≤ (reserved p k (frame_of p t) past).packets
      → ((f : ℕ) → frame_of p t < f → f ≤ now → Keeps (reserved p k f past) b)
      → Tells p k past now (asked high t b) (standing high b)
  made_normal_lem : (t b f : ℕ) → frame_of p t < f → f ≤ now → (Keeps (reserved p k f past) b → ⊥)
      → Tells p k past now (asked high t b) (standing normal b)
  taken_normal : (t b : ℕ) → frame_of p t ≤ now → (reserved p k (frame_of p t) past).packets ≡ 0
      → Tells p k past now (asked high t b) (standing normal b)

pub record Reads (p : Plan) (past : List Entry) (s : Core) : Type 0 where
  pub force : (k : ℕ) → reserved p k (frame_of p s.clock) past ≡ s.force k
  pub latest : (k f : ℕ) → frame_of p s.clock < f → reserved p k f past ≡ s.latest k
  pub request : (k : ℕ) → Tells p k past (frame_of p s.clock) (request_at k past) (s.request k)
  pub granted : (k : ℕ) → length (high_grants p k (frame_of p s.clock) past) ≡ s.granted k
  pub none-later : (k f : ℕ) → frame_of p s.clock < f → high_grants p k f past ≡ []

module _ (p : Plan) (k : ℕ) where
  -- one event can't have come both where nothing was in force and where something was
  pub not_both : (past : List Entry) (t u : ℕ) → t ≡ u → (reserved p k (frame_of p t) past).packets ≡ 0 → 1 ≤ (reserved p k (frame_of p u) past).packets → ⊥
  not_both past t u same none some = let e = ap (λ (x : ℕ). (reserved p k (frame_of p x) past).packets) same in omega (arith, e, none, some)

  -- what is reserved up to now is all that matters
  pub tells_on : {past on : List Entry} {now : ℕ} {a : Asked} {q : Request}
      → ((f : ℕ) → f ≤ now → reserved p k f on ≡ reserved p k f past) → Tells p k past now a q → Tells p k on now a q
  tells_on same neither = neither
  tells_on same (plain t b) = plain t b
  tells_on same (kept t b l n ks) = kept t b l (rw (same (frame_of p t) l) n) (λ f m u. rw (same f u) (ks f m u))
  tells_on same (made_normal_lem t b f l u n) = made_normal_lem t b f l u (λ h. n (rw (same f u) at h))
  tells_on same (taken_normal t b l z) = taken_normal t b l (rw (same (frame_of p t) l) z)

  -- one frame start or several: each finds the latest reservation in force
  pub tells_start : {past : List Entry} {now soon : ℕ} {a : Asked} {q : Request} (r : Share) → now < soon
      → ((f : ℕ) → now < f → reserved p k f past ≡ r) → Tells p k past now a q → Tells p k past soon a (reclassed r q)
  tells_start r l later neither = neither
  tells_start r l later (plain t b) = plain t b
  tells_start {past} {now} {soon} r l later (kept t b m n ks) = go (start_of r b)
    where
      keeps : Keeps r b → (f : ℕ) → frame_of p t < f → Which (ltb now f) → f ≤ soon → Keeps (reserved p k f past) b
      keeps h f v (yes' e) u = rw (later f (ltb-true now f e)) h
      keeps h f v (no' e) u = ks f v (ltb-false now f e)

      go : {x : Request} → Start r b x → Tells p k past soon (asked high t b) x
      go (stays_high h) = kept t b (omega arith) n (λ f v u. keeps h f v (which (ltb now f)) u)
      go (becomes_normal h) = made_normal_lem t b soon (omega arith) (omega arith) (λ x. h (rw (later soon l) at x))
  tells_start r l later (made_normal_lem t b f m u n) = made_normal_lem t b f m (omega arith) n
  tells_start r l later (taken_normal t b m z) = taken_normal t b (omega arith) z

-- the clock's advance changes no word
module _ (p : Plan) (fig : Figures p) (past : List Entry) (t : ℕ) (s : Core) (late : s.clock ≤ t) (was : Reads p past s) where
  pub advance-reads : Reads p past (advance p t s)
  advance-reads = go (advanced p t s)
    where
      go : {r : Core} → Advanced p t s r → Reads p past r
      go (inside l) =
          let same : frame_of p t ≡ frame_of p s.clock = omega (arith, frame_mono p fig s.clock t late) in
          record {
            force = λ k. rw same (was.force k);
            latest = λ k f l. was.latest k f (omega arith);
            request = λ k. rw same (was.request k);
            granted = λ k. rw same (was.granted k);
            none-later = λ k f l. was.none-later k f (omega arith);
          }
      go (across l) =
          record {
            force = λ k. was.latest k (frame_of p t) l;
            latest = λ k f m. was.latest k f (omega arith);
            request = λ k. tells_start p k (s.latest k) l (λ f m. was.latest k f m) (was.request k);
            granted = λ k. ap length (was.none-later k (frame_of p t) l);
            none-later = λ k f m. was.none-later k f (omega arith);
          }
