-- A frame's start: while the clock stands there, at most one node has had a high grant in the frame, and the pointer stands behind it.
use Prim.Native.Nat.{ℕ, ◌+◌, ◌*◌, ◌≤◌, ◌<◌}
use mathlib.Core.Path.{◌≡◌, refl, sym, ap, ◌∙◌}
use mathlib.Core.List.{List, [], ◌∷◌}
use native.Mathlib.Omega.{arith}
use Rattle.rules.specs.Plan.{Plan}
use Rattle.rules.specs.Drawn.{Within, Figures}
use Rattle.rules.specs.Call.{Class, normal, high, Call, time}
use Rattle.rules.specs.Core.{Core, Line, busy, bits_of, frame_of, advance, counts_in, at, due, class, sought}
use Rattle.rules.specs.Machine.{Machine, Hub, Outcome, restful}
use Rattle.rules.specs.Flat.{Pointers, behind}
use Rattle.rules.specs.Run.{made}
use Rattle.rules.proofs.Flat.Follows.{Follows}
use Rattle.rules.proofs.Laws.Frames.{starts, frame_mono}
use Rattle.rules.proofs.Core.CallCases.{in_time_lem, Course, refusal, event, quietly, granting, resting as rested, course}
use Rattle.rules.proofs.Core.Instants.{Advanced, across, inside, advanced}
use Rattle.rules.proofs.Core.Requests.{counts-stands, put_all}
use Rattle.rules.proofs.Flat.Turns.{Pointed, pointed_start, pointed_rest, node_counts, pointed_turn, pointers_turn}
use Rattle.rules.proofs.Core.ClockAdvance.{advance_clock, advance-line, due_late, due_end}
use Rattle.rules.proofs.Core.AlwaysSound.{Good, good, instant_sound, turn_counts}
use Rattle.rules.proofs.Demand3.Fair.{more_same, more_other}
use Rattle.rules.proofs.Demand3.HighTurn.{turn_at}
use Rattle.rules.proofs.Core.EventChanges.{kept_by_change}

-- nobody has had a high grant, or node i has had one, just now: the line is busy with it, and the pointer a stands behind i
pub data Opening (p : Plan) (clock : ℕ) (line : Line) (G : ℕ → ℕ) (a : ℕ) : Type 0 where
  nobody : ((j : ℕ) → G j ≡ 0) → Opening p clock line G a
  only : (i e : ℕ) → Within p.nodes i → line ≡ busy e → clock < e → G i ≡ 1 → ((j : ℕ) → (j ≡ i → ⊥) → G j ≡ 0) → a ≡ behind p i
      → Opening p clock line G a

-- so it is if the clock stands at its frame's start
abbrev pub AtStart : Plan → ℕ → Line → (ℕ → ℕ) → ℕ → Type 0
AtStart p clock line G a = clock ≡ frame_of p clock * p.frame → Opening p clock line G a

pub record Opened (p : Plan) (M : Machine) (follows : Follows p M) (h : Hub M.State) : Type 0 where
  pub pointed : Pointed p M follows h.turn
  pub opening : AtStart p h.core.clock h.core.line h.core.granted (pointed.pointers high)

module _ (p : Plan) (fig : Figures p) where
  -- the clock comes to t: to a new frame's start, where grants count from 0, or it stood there already
  opening_advance : (s : Core) (a t : ℕ) → s.clock ≤ t → AtStart p s.clock s.line s.granted a → {c : Core} → Advanced p t s c
      → AtStart p c.clock c.line c.granted a
  opening_advance s a t late was (across l) start = nobody (λ j. refl)
  opening_advance s a t late was (inside l) start =
      let frame : frame_of p t ≡ frame_of p s.clock = omega (arith, frame_mono p fig s.clock t late) in
      let began = starts p fig (frame_of p s.clock) s.clock (omega arith) in
      let product = ap (λ (x : ℕ). x * p.frame) frame in
      let same : s.clock ≡ t = omega arith in
      go (was (omega arith)) same
    where
      go : Opening p s.clock s.line s.granted a → s.clock ≡ t → Opening p t s.line s.granted a
      go (nobody z) same = nobody z
      go (only i e v l b g z x) same = only i e v l (omega arith) g z x

  -- an instant that is handled there finds no grant made yet
  nobody_yet : (s : Core) (a d : ℕ) → due p s ≡ at d → Opening p (advance p d s).clock (advance p d s).line (advance p d s).granted a
      → (j : ℕ) → (advance p d s).granted j ≡ 0
  nobody_yet s a d e (nobody z) = z
  nobody_yet s a d e (only i x v l b g z y) =
      let ends = due_end p fig s x (sym (advance-line p d s) ∙ l) in
      let same : x ≡ d = cc in
      let here = advance_clock p d s in
      absurd (omega arith)

  module _ (M : Machine) (follows : Follows p M) (h : Hub M.State) (ok : Good p fig M follows h) (was : Opened p M follows h) where
    module _ (d : ℕ) (e : due p h.core ≡ at d) where
      before_turn : AtStart p (advance p d h.core).clock (advance p d h.core).line (advance p d h.core).granted (was.pointed.pointers high)
      before_turn =
          opening_advance h.core (was.pointed.pointers high) d (due_late p fig h.core ok.sound d e) was.opening (advanced p d h.core)

      zeros : (advance p d h.core).clock ≡ frame_of p (advance p d h.core).clock * p.frame → (j : ℕ) → (advance p d h.core).granted j ≡ 0
      zeros start = nobody_yet h.core (was.pointed.pointers high) d e (before_turn start)

      after_turn : (c : Class) → sought p (advance p d h.core) ≡ class c → Opened p M follows (turn_at p M d c (advance p d h.core) h.turn).hub
      after_turn normal n =
          record {
            pointed =
                pointed_turn p M follows h.turn was.pointed normal (counts_in normal (advance p d h.core))
                (turn_counts p fig M follows h ok d normal n);
            opening = λ start. nobody (put_all (λ j g. g ≡ 0) (advance p d h.core).granted _ _ (zeros start _) (zeros start));
          }
      after_turn high n =
          let s = advance p d h.core in
          let some = turn_counts p fig M follows h ok d high n in
          let node = (M.choose high (counts_in high s) h.turn).node in
          let chosen = node_counts p M follows h.turn was.pointed high (counts_in high s) some in
          let stood = counts-stands high s node chosen.holds in
          let bits : bits_of (s.request node) ≡ stood.0 = ap bits_of stood.1 in
          let short = (instant_sound p fig M follows h ok d e).short node stood.0 high stood.1 in
          let here = advance_clock p d h.core in
          record {
            pointed = pointed_turn p M follows h.turn was.pointed high (counts_in high s) some;
            opening = λ start.
                only node (d + bits_of (s.request node) + p.overhead) chosen.within refl (omega arith)
                (omega (arith, more_same s.granted node, zeros start node))
                (λ j x. more_other s.granted node j x ∙ zeros start j)
                (ap (λ (π : Pointers). π high) (pointers_turn p M follows h.turn was.pointed high (counts_in high s) some));
          }

      after_rest : Opened p M follows (record { core = restful (advance p d h.core); turn = (M.rested h.turn).state })
      after_rest = record { pointed = pointed_rest p M follows h.turn was.pointed; opening = λ start. nobody (zeros start) }

    opened_next : {call : Call} {o : Outcome M.State} → Course p M h call o → Opened p M follows o.hub
    opened_next (refusal call n e) = was
    opened_next (event call e a) =
        record {
          pointed = was.pointed;
          opening =
              kept_by_change (λ clock line G. AtStart p clock line G (was.pointed.pointers high)) call (advance p (time call) h.core)
              (opening_advance h.core (was.pointed.pointers high) (time call) (in_time_lem p h.core call a).late was.opening
              (advanced p (time call) h.core));
        }
    opened_next (quietly t i n) = was
    opened_next (granting t d c i e l n) = after_turn d e c n
    opened_next (rested t d i e l n) = after_rest d e

  module _ (M : Machine) (follows : Follows p M) (some : 1 ≤ p.nodes) where
    pub opened : (calls : List Call) → Opened p M follows (made p M calls).hub
    unfolding made
    opened [] = record { pointed = pointed_start p M follows some; opening = λ start. nobody (λ j. refl) }
    opened (call ∷ earlier) =
        let h = (made p M earlier).hub in
        opened_next M follows h (good p fig M follows some earlier) (opened earlier) (course p M h call)
