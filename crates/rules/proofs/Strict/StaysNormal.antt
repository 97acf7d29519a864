-- A request taken as normal stays one. By the words it is no high one at once, since they ask that something was in force. A high
-- grant goes to a request that the core has as high, and what is high there is high by the words (`core_high`).
use Prim.Native.Nat.{ℕ, ◌≤◌}
use mathlib.Core.Path.{◌≡◌, refl, sym, subst}
use mathlib.Core.Bool.{true}
use mathlib.Core.List.{List, ◌∷◌, ◌++◌}
use native.Mathlib.Omega.{arith}
use Rattle.rules.specs.Plan.{Plan}
use Rattle.rules.specs.Drawn.{Drawn, Figures}
use Rattle.rules.specs.Call.{Class, normal, high, Call, step, grant}
use Rattle.rules.specs.Core.{Core, standing, advance, counts_in}
use Rattle.rules.specs.Machine.{Machine, Hub, Outcome}
use Rattle.rules.specs.Control.{control}
use Rattle.rules.specs.Run.{Entry, made}
use Rattle.rules.specs.Words.{High}
use Rattle.rules.specs.AnyMoment.{packets_then, PutUp}
use Rattle.rules.specs.Strict.{TakenNormal, StaysNormal}
use Rattle.rules.proofs.Laws.Clash.{clash}
use Rattle.rules.proofs.Flat.Follows.{Follows}
use Rattle.rules.proofs.Flat.Turns.{node_counts}
use Rattle.rules.proofs.Core.Instants.{Advanced, across, inside, advanced}
use Rattle.rules.proofs.Core.Requests.{reclassed_high, counts-stands}
use Rattle.rules.proofs.Core.CallCases.{Course, refusal, event, quietly, granting, resting, course}
use Rattle.rules.proofs.Core.WordsAndCore.{not_both}
use Rattle.rules.proofs.Core.AlwaysSound.{Good, good, turn_counts}
use Rattle.rules.proofs.Core.HighExactly.{core_high}
use Rattle.rules.proofs.Core.Places.{made_at}
use Rattle.rules.proofs.Control.FollowsFlat.{control_follows}

not_high : (p : Plan) (k : ℕ) (past : List Entry) → TakenNormal p k past → High p k past → ⊥
not_high p k past x h =
    let same : x.put_up ≡ h.put_up = cc in
    not_both p k past x.put_up h.put_up same x.unreserved h.in_force

not_put_up : (p : Plan) (k t : ℕ) (whole : List Entry) → packets_then p k t whole ≡ 0 → PutUp p k t whole → ⊥
not_put_up p k t whole none x = omega (arith, none, x.left)

-- the clock's advance makes no request high
was_high : (p : Plan) (d : ℕ) (s : Core) (k b : ℕ) → (advance p d s).request k ≡ standing high b → s.request k ≡ standing high b
was_high p d s k b = go (advanced p d s)
  where
    go : {r : Core} → Advanced p d s r → r.request k ≡ standing high b → s.request k ≡ standing high b
    go (across l) e = (reclassed_high (s.latest k) (s.request k) b e).0
    go (inside l) e = e

module _ (p : Plan) (fig : Figures p) (M : Machine) (follows : Follows p M) where
  -- what a high grant goes to is high in the core before the step
  granted_high : (h : Hub M.State) → Good p fig M follows h → {call : Call} {o : Outcome M.State} → Course p M h call o
      → (s k end moves : ℕ) → grant s k high end moves ≡ o.answer → (b : ℕ) × (h.core.request k ≡ standing high b)
  granted_high h ok (refusal call n e) s k end moves q = clash (cc)
  granted_high h ok (event call e a) s k end moves q = clash (cc)
  granted_high h ok (quietly t i n) s k end moves q = clash (cc)
  granted_high h ok (resting t d i e l n) s k end moves q = clash (cc)
  granted_high h ok (granting t d c i e l n) s k end moves q =
      let core = advance p d h.core in
      let f = counts_in c core in
      let counts = (node_counts p M follows h.turn ok.pointed c f (turn_counts p fig M follows h ok d c n)).holds in
      let class : c ≡ high = cc in
      let node : (M.choose c f h.turn).node ≡ k = cc in
      let there : counts_in c core k ≡ true = subst (λ (j : ℕ). counts_in c core j ≡ true) node counts in
      let stood = counts-stands high core k (subst (λ (x : Class). counts_in x core k ≡ true) class there) in
      (stood.0, was_high p d h.core k stood.0 stood.1)

  module _ (some : 1 ≤ p.nodes) (calls : List Call) where
    high_only : (later : List Entry) (t s k end moves : ℕ) (before : List Entry)
        → (made p M calls).past ≡ later ++ (record { call = step t; answer = grant s k high end moves } ∷ before) → High p k before
    high_only later t s k end moves before e =
        let m = made_at p M calls later (record { call = step t; answer = grant s k high end moves }) before e in
        let h = (made p M m.earlier).hub in
        let q = granted_high h (good p fig M follows some m.earlier) (course p M h (step t)) s k end moves m.answer in
        subst (High p k) (sym m.past) (core_high p fig M follows some m.earlier k q.0 q.1).0

    granted_normal : (later : List Entry) (t s k : ℕ) (c : Class) (end moves : ℕ) (before : List Entry)
        → (made p M calls).past ≡ later ++ (record { call = step t; answer = grant s k c end moves } ∷ before) → TakenNormal p k before → c ≡ normal
    granted_normal later t s k normal end moves before e x = refl
    granted_normal later t s k high end moves before e x = absurd (not_high p k before x (high_only later t s k end moves before e))

pub stays_normal : (p : Plan) → Drawn p → (calls : List Call) → StaysNormal p (made p (control p) calls).past
stays_normal p drawn calls =
    let follows = control_follows p drawn in
    record {
      not_high = not_high p;
      not_put_up = λ k t. not_put_up p k t (made p (control p) calls).past;
      high_only = high_only p drawn.figures (control p) follows drawn.some_node calls;
      granted_normal = granted_normal p drawn.figures (control p) follows drawn.some_node calls;
    }
