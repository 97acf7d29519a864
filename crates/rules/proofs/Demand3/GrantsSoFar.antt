-- How far node k has come in frame f, at a place: the frame is still to
-- come, or k has some of its n high grants, or it has them all, in time.
use Prim.Native.Nat.{ℕ, ◌+◌, ◌*◌, ◌≤◌, ◌<◌}
use mathlib.Core.Path.{◌≡◌, refl, ap, ◌∙◌, subst, fun_ext}
use mathlib.Core.List.{List, [], ◌∷◌}
use native.Mathlib.Omega.{arith}
use lib.ListN.{length, get_or}
use Rattle.rules.specs.Plan.{Plan}
use Rattle.rules.specs.Drawn.{Within, Figures}
use Rattle.rules.specs.Call.{high, Call, Answer}
use Rattle.rules.specs.Core.{Core, Share, Line, frame_of}
use Rattle.rules.specs.Rows.{loads}
use Rattle.rules.specs.Machine.{Machine, Hub}
use Rattle.rules.specs.Run.{Entry}
use Rattle.rules.specs.Words.{High, high_grants, delay_limit}
use Rattle.rules.proofs.Flat.Follows.{Follows}
use Rattle.rules.proofs.Laws.Frames.{next_start}
use Rattle.rules.proofs.Flat.Turns.{Pointed}
use Rattle.rules.proofs.Core.Sound.{Sound, Told}
use Rattle.rules.proofs.Laws.Sums.{room}
use Rattle.rules.proofs.Demand3.Fair.{Fair, cost, reach}
use Rattle.rules.proofs.Demand3.Standing.{Standing}
use Rattle.rules.proofs.Demand3.LineWhileWaiting.{Held}

-- a call with its answer
abbrev pub entry : Call → Answer → Entry
entry call answer = record { call = call; answer = answer }

-- what is read off the list at a place, from the place on where k's request stands unbroken; R is what is reserved in f
pub record Facts (p : Plan) (k f : ℕ) (R : ℕ → Share) (past : List Entry) (s : Core) : Type 0 where
  pub sound : Sound p s
  pub told : Told p past s
  pub force : frame_of p s.clock ≡ f → (j : ℕ) → s.force j ≡ R j
  pub first : high_grants p k f past ≡ [] → High p k past

-- as the next turn is chosen, after the first and up to the nth of k's high grants in f, its request is high
abbrev pub NextHigh : Plan → ℕ → ℕ → (ℕ → Share) → List Entry → Type 0
NextHigh p k f R past = 1 ≤ length (high_grants p k f past) → length (high_grants p k f past) < (R k).packets → High p k past

module _ (p : Plan) (M : Machine) (follows : Follows p M) (k f : ℕ) (R : ℕ → Share) where
  -- within f, with fewer than n high grants of k; G are the high grants of each node
  pub record Running (clock : ℕ) (line : Line) (G : ℕ → ℕ) (σ : M.State) : Type 0 where
    pub in_frame : frame_of p clock ≡ f
    pub pointed : Pointed p M follows σ
    pub fair : Fair k G (pointed.pointers high)
    pub left : G k < (R k).packets
    pub size : 1 ≤ (R k).bits
    pub held : Held (reach p (f * p.frame) R G) clock (G k) line

  pub data GrantsSoFar (past : List Entry) (h : Hub M.State) : Type 0 where
    waiting : h.core.clock < f * p.frame → Pointed p M follows h.turn → GrantsSoFar past h
    running : Running h.core.clock h.core.line h.core.granted h.turn → GrantsSoFar past h
    done : f ≤ frame_of p h.core.clock → length (high_grants p k f past) ≡ (R k).packets
        → get_or (high_grants p k f past) 0 0 ≤ f * p.frame + delay_limit p k R → GrantsSoFar past h

empty : (l : List ℕ) → length l ≡ 0 → l ≡ []
empty [] e = refl
empty (x ∷ l) e = absurd (omega arith)

-- within f the core counts k's high grants
pub counted : (p : Plan) (k f : ℕ) (past : List Entry) (s : Core) → Told p past s → frame_of p s.clock ≡ f
    → length (high_grants p k f past) ≡ s.granted k
counted p k f past s told e = subst (λ (x : ℕ). length (high_grants p k x past) ≡ s.granted k) e (told.granted k)

module _ (p : Plan) (k f : ℕ) (R : ℕ → Share) (past : List Entry) (s : Core) (at_place : Facts p k f R past s) where
  -- k's request is high as long as k has no grant in f
  pub standing_first : frame_of p s.clock ≡ f → s.granted k ≡ 0 → Standing s k
  standing_first e z =
      let h = at_place.first (empty (high_grants p k f past) (counted p k f past s at_place.told e ∙ z)) in
      record { bits = h.length; stands = at_place.told.high k h }

  pub standing_before : frame_of p s.clock < f → Standing s k
  standing_before l =
      let h = at_place.first (at_place.told.none-later k f l) in
      record { bits = h.length; stands = at_place.told.high k h }

  module _ (e : frame_of p s.clock ≡ f) where
    pub within : (j : ℕ) → s.granted j ≤ (R j).packets
    within j = let q = ap (λ (r : Share). r.packets) (at_place.force e j) in omega (arith, at_place.sound.spent j)

    -- where k's request is high, k has a share
    pub shared : Standing s k → (1 ≤ (R k).packets) × (1 ≤ (R k).bits)
    shared h =
        let same = at_place.force e k in
        let n = ap (λ (r : Share). r.packets) same in
        let b = ap (λ (r : Share). r.bits) same in
        let ok = at_place.sound.allowed k h.bits h.stands in
        let short = at_place.sound.short k h.bits high h.stands in
        (omega arith, omega arith)

    -- while k's share is not spent, the reach leaves room for one more grant of k, within f
    pub within_frame : Figures p → Within p.nodes k → s.granted k < (R k).packets → 1 ≤ (R k).bits → reach p (f * p.frame) R s.granted < (f + 1) * p.frame
    within_frame fig w left size =
        let same : loads p s.force ≡ loads p R = ap (loads p) (fun_ext (at_place.force e)) in
        let fits = room p.nodes s.granted (λ j. (R j).packets) (cost p R) k w (λ j v. within j) left in
        omega (arith, at_place.sound.force_fits, next_start p fig f)
