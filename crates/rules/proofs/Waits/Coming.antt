-- What holds of the recorded times at every place (`Recorded`), and that the clock's advance keeps it.
use Prim.Native.Nat.{ℕ, ◌+◌, ◌*◌, ◌≤◌, ◌<◌}
use mathlib.Core.Path.{◌≡◌}
use mathlib.Core.List.{List}
use native.Mathlib.Omega.{arith}
use borrow.Author.Tests.{lt-ltb, le-ltb}
use Rattle.std.specs.Prelude.{if◌then◌else◌}
use Rattle.rules.specs.Plan.{Plan}
use Rattle.rules.specs.Core.{Core, Request, frame_of, advance}
use Rattle.rules.specs.Drawn.{Figures}
use Rattle.rules.specs.Run.{Entry}
use Rattle.rules.specs.WaitWords.{up_at}
use Rattle.rules.specs.Waits.{turns_normal, come_to}
use Rattle.rules.proofs.Laws.Passes.{Which, which, yes', no'}
use Rattle.rules.proofs.Laws.Frames.{starts, frame_mono}
use Rattle.rules.proofs.Core.Instants.{Advanced, across, inside, advanced}
use Rattle.rules.proofs.Core.WordsAndCore.{Reads}
use Rattle.rules.proofs.Waits.Marks.{Marks, marks_start}

pub record Recorded (p : Plan) (past : List Entry) (clock : ℕ) (request : ℕ → Request) (times : ℕ → ℕ) : Type 0 where
  pub marks : (k : ℕ) → Marks p k past (frame_of p clock) (up_at p k past) (request k) (times k)
  pub early : (k : ℕ) → times k ≤ clock

-- the recorded time of k as the clock comes to t: within its frame, and over a frame's start
module _ (p : Plan) (t : ℕ) (s : Core) (times : ℕ → ℕ) (k : ℕ) where
  come_inside : frame_of p t ≤ frame_of p s.clock → come_to p t s times k ≡ times k
  unfolding come_to
  come_inside l = rw (le-ltb (frame_of p s.clock) (frame_of p t) l)

  come_across : frame_of p s.clock < frame_of p t
      → come_to p t s times k ≡ (if turns_normal (s.latest k) (s.request k) then (frame_of p s.clock + 1) * p.frame else times k)
  unfolding come_to
  come_across l = go (which (turns_normal (s.latest k) (s.request k)))
    where
      go : Which (turns_normal (s.latest k) (s.request k))
          → come_to p t s times k ≡ (if turns_normal (s.latest k) (s.request k) then (frame_of p s.clock + 1) * p.frame else times k)
      go (yes' e) = rw (lt-ltb (frame_of p s.clock) (frame_of p t) l, e) (omega arith)
      go (no' e) = rw (lt-ltb (frame_of p s.clock) (frame_of p t) l, e) (omega arith)

module _ (p : Plan) (fig : Figures p) (past : List Entry) (t : ℕ) (s : Core) (times : ℕ → ℕ) (late : s.clock ≤ t)
    (reads : Reads p past s) (was : Recorded p past s.clock s.request times) where
  early_across : (k : ℕ) → frame_of p s.clock < frame_of p t → come_to p t s times k ≤ t
  early_across k l = rw (come_across p t s times k l) (go (which (turns_normal (s.latest k) (s.request k))))
    where
      go : Which (turns_normal (s.latest k) (s.request k))
          → (if turns_normal (s.latest k) (s.request k) then (frame_of p s.clock + 1) * p.frame else times k) ≤ t
      go (yes' e) = rw e (starts p fig (frame_of p s.clock + 1) t (omega arith))
      go (no' e) = rw e (omega (arith, was.early k))

  pub come_recorded : Recorded p past (advance p t s).clock (advance p t s).request (come_to p t s times)
  come_recorded = go (advanced p t s)
    where
      go : {r : Core} → Advanced p t s r → Recorded p past r.clock r.request (come_to p t s times)
      go (inside l) =
          let same : frame_of p t ≡ frame_of p s.clock = omega (arith, frame_mono p fig s.clock t late) in
          record {
            marks = λ k. rw (same, come_inside p t s times k l) (was.marks k);
            early = λ k. omega (arith, come_inside p t s times k l, was.early k);
          }
      go (across l) =
          record {
            marks = λ k. rw (come_across p t s times k l) (marks_start p k (s.latest k) l (reads.latest k) (was.marks k));
            early = λ k. early_across k l;
          }
