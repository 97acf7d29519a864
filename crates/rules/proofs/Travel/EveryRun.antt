-- Over every list of calls: in a run of grants of one class each call keeps to the round, and its
-- moves are paid for by returns and by passings. Behind the last return, or the first grant, the
-- passings are at most two for each hub but the root. And the nodes granted tell the returns.
use Prim.Native.Nat.{ℕ, ◌+◌, ◌-◌, ◌*◌, ◌≤◌}
use mathlib.Core.Path.{◌≡◌, refl, sym, ap, ap₂, ◌∙◌, subst}
use mathlib.Core.Bool.{true}
use mathlib.Core.List.{List, [], ◌∷◌, ◌++◌, map}
use native.Mathlib.Omega.{arith}
use native.Mathlib.Nat.{mul-add}
use Rattle.rules.specs.Choice.{any}
use Rattle.rules.specs.Plan.{Plan}
use Rattle.rules.specs.Drawn.{Drawn}
use Rattle.rules.specs.Call.{Class, same, Call}
use Rattle.rules.specs.Core.{Core, advance, counts_in, class, sought}
use Rattle.rules.specs.Machine.{Hub, Outcome, grant_to, perform}
use Rattle.rules.specs.Flat.{Pointers, flat}
use Rattle.rules.specs.Control.{Control, choose_by, control}
use Rattle.rules.specs.Run.{Entry, made}
use Rattle.rules.specs.Agree.{moves_of}
use Rattle.rules.specs.Travel.{call_returns, left_by, returns, node_by, latest_node, round_by, rounds, travel, grants_in, goes_on, unbroken, farthest, RunOfGrants, Travels}
use Rattle.rules.proofs.Laws.Passes.{true-false, and_both}
use Rattle.rules.proofs.Laws.Clash.{clash}
use Rattle.rules.proofs.Flat.Agree.{sought-counts, turns_like}
use Rattle.rules.proofs.Core.CallCases.{Course, refusal, event, quietly, granting, resting, course}
use Rattle.rules.proofs.Core.Places.{Place, place}
use Rattle.rules.proofs.Control.Steps.{same-eq}
use Rattle.rules.proofs.Control.FollowsFlat.{Like, choose_lands, control_follows}
use Rattle.rules.proofs.Travel.Rounds.{total, Tour, begins, round_up}
use Rattle.rules.proofs.Travel.OneMoreTurn.{Behind, landed_behind, chosen_tours, chosen_tells}

module _ (p : Plan) (D : Drawn p) (c : Class) where
  -- the run's first grant, or one more, at d in class j: class c counts there, so the turn lands
  module _ (h : Hub Control) (π : Pointers) (like : Like p D h.turn π) (d : ℕ) (j : Class) (i : same j c ≡ true)
      (n : sought p (advance p d h.core) ≡ class j) where
    abbrev core : Core
    core = advance p d h.core

    counts : any p.nodes (counts_in c core) ≡ true
    counts = sought-counts p core c (n ∙ ap class (same-eq j c i))

    -- what holds of a grant in class c holds of this one
    by_class : (P : Outcome Control → Type 0) → P (grant_to p (control p) d c core (choose_by p c (counts_in c core) h.turn))
        → P (grant_to p (control p) d j core (choose_by p j (counts_in j core) h.turn))
    by_class P = subst (λ (k : Class). P (grant_to p (control p) d k core (choose_by p k (counts_in k core) h.turn))) (sym (same-eq j c i))

    landed : Behind p D c (choose_by p c (counts_in c core) h.turn).state (choose_by p c (counts_in c core) h.turn).node
    landed = landed_behind p D c (choose_lands p D c (counts_in c core) h.turn π counts like)

  -- an outcome that leaves the holder behind the latest grant, which was to node k before
  abbrev LeftBehind : ℕ → Outcome Control → Type 0
  LeftBehind k o = Behind p D c o.hub.turn (node_by k o.answer)

  -- a call on hub h, from passings v: the tour goes on, the call's moves are paid for, and its answer tells the returns
  pub record Paid (h : Hub Control) (k : ℕ) (v : ℕ → ℕ) (o : Outcome Control) : Type 0 where
    pub tour : Tour p D c o.hub.turn
    pub cost : moves_of o.answer + total p v ≤ 2 * (p.hubs - 1) * call_returns p h o.answer + total p tour.passings
    pub behind : LeftBehind k o
    pub told : call_returns p h o.answer ≡ round_by k o.answer

  module _ (h : Hub Control) (π : Pointers) (like : Like p D h.turn π) where
    first-behind : {call : Call} {o : Outcome Control} → Course p (control p) h call o → grants_in c o.answer ≡ true → (k : ℕ) → LeftBehind k o
    first-behind (refusal call n r) e k = absurd (true-false e refl)
    first-behind (event call i r) e k = absurd (true-false e refl)
    first-behind (quietly t i b) e k = absurd (true-false e refl)
    first-behind (granting t d j i r l n) e k = by_class h π like d j e n (LeftBehind k) (landed h π like d j e n)
    first-behind (resting t d i r l n) e k = absurd (true-false e refl)

    -- a call that doesn't break the run
    module _ (k : ℕ) (b : Behind p D c h.turn k) (s : Tour p D c h.turn) where
      grant_pays : (d : ℕ) (j : Class) → same j c ≡ true → sought p (advance p d h.core) ≡ class j
          → Paid h k s.passings (grant_to p (control p) d j (advance p d h.core) (choose_by p j (counts_in j (advance p d h.core)) h.turn))
      grant_pays d j i n =
          let f = counts_in c (advance p d h.core) in
          let t = chosen_tours p D c f h.turn s in
          by_class h π like d j i n (Paid h k s.passings)
          (record {
            tour = t.tour;
            cost = omega (arith, t.cost);
            behind = landed h π like d j i n;
            told = chosen_tells p D c f h.turn π (counts h π like d j i n) like k b;
          })

      call_pays : {call : Call} {o : Outcome Control} → Course p (control p) h call o → goes_on c o.answer ≡ true → Paid h k s.passings o
      call_pays (refusal call n r) e = record { tour = s; cost = omega arith; behind = b; told = refl }
      call_pays (event call i r) e = record { tour = s; cost = omega arith; behind = b; told = refl }
      call_pays (quietly t i r) e = record { tour = s; cost = omega arith; behind = b; told = refl }
      call_pays (granting t d j i r l n) e = grant_pays d j e n
      call_pays (resting t d i r l n) e = absurd (true-false e refl)

module _ (p : Plan) where
  -- the entry that a call makes behind others
  abbrev entry : Call → List Call → Entry
  entry call calls = record { call = call; answer = (perform p (control p) call (made p (control p) calls).hub).answer }

  -- the calls of a run's entries are those that were made
  calls_of_lem : (calls : List Call) → map (λ (e : Entry). e.call) (made p (control p) calls).past ≡ calls
  unfolding made
  calls_of_lem [] = refl
  calls_of_lem (call ∷ calls) = ap (λ (l : List Call). call ∷ l) (calls_of_lem calls)

  pub left_by_lem : (calls : List Call) (past : List Entry) → (made p (control p) calls).past ≡ past → left_by p past ≡ (made p (control p) calls).hub
  left_by_lem calls past e =
      ap (left_by p) (sym e) ∙ ap (λ (l : List Call). (made p (control p) l).hub) (calls_of_lem calls)

module _ (p : Plan) (D : Drawn p) (c : Class) where
  -- a run of grants at the end of a list of calls: what stands behind `before`, the last of which is its first grant
  pub record Along (calls : List Call) (before since : List Entry) : Type 0 where
    pub tour : Tour p D c (made p (control p) calls).hub.turn
    pub cost : travel since ≤ 2 * (p.hubs - 1) * returns p before since + total p tour.passings
    pub behind : Behind p D c (made p (control p) calls).hub.turn (latest_node (since ++ before))
    pub told : returns p before since ≡ rounds before since

  module _ (call : Call) (calls : List Call) where
    abbrev h : Hub Control
    h = (made p (control p) calls).hub

    like : Like p D h.turn (made p (flat p) calls).hub.turn
    unfolding control_follows
    like = turns_like p (control p) (control_follows p D) calls

    along_first : (before : List Entry) → grants_in c (entry p call calls).answer ≡ true → Along (call ∷ calls) (entry p call calls ∷ before) []
    unfolding made travel returns rounds latest_node
    along_first before e =
        let b = first-behind p D c h (made p (flat p) calls).hub.turn like (course p (control p) h call) e (latest_node before) in
        record { tour = begins p D c b.port b.looks b.latest; cost = omega arith; behind = b; told = refl }

    along_more : (before since : List Entry) → (made p (control p) calls).past ≡ since ++ before → Along calls before since
        → goes_on c (entry p call calls).answer ≡ true → Along (call ∷ calls) before (entry p call calls ∷ since)
    unfolding made travel returns rounds latest_node
    along_more before since e a g =
        let k = call_pays p D c h (made p (flat p) calls).hub.turn like (latest_node (since ++ before)) a.behind a.tour (course p (control p) h call) g in
        let l = left_by_lem p calls (since ++ before) e in
        record {
          tour = k.tour;
          cost = rw (l, mul-add) (omega (arith, a.cost, k.cost));
          behind = k.behind;
          told = rw l (ap₂ ◌+◌ a.told k.told);
        }

  along : (calls : List Call) (since : List Entry) (first : Entry) (before : List Entry) → (made p (control p) calls).past ≡ since ++ (first ∷ before)
      → grants_in c first.answer ≡ true → unbroken c since ≡ true → Along calls (first ∷ before) since
  unfolding made unbroken
  along [] [] first before e g r = clash (cc)
  along [] (x ∷ since) first before e g r = clash (cc)
  along (call ∷ calls) [] first before e g r =
      let i : first ≡ entry p call calls = cc in
      subst (λ (y : Entry). Along (call ∷ calls) (y ∷ before) []) (sym i)
      (along_first call calls before (subst (λ (y : Entry). grants_in c y.answer ≡ true) i g))
  along (call ∷ calls) (x ∷ since) first before e g r =
      let (here, earlier) = and_both (goes_on c x.answer) (unbroken c since) r in
      let i : x ≡ entry p call calls = cc in
      let l : (made p (control p) calls).past ≡ since ++ (first ∷ before) = cc in
      subst (λ (y : Entry). Along (call ∷ calls) (first ∷ before) (y ∷ since)) (sym i)
      (along_more call calls (first ∷ before) since l (along calls since first before l g earlier)
      (subst (λ (y : Entry). goes_on c y.answer ≡ true) i here))

-- of every run of grants within a list of calls
module _ (p : Plan) (D : Drawn p) (calls : List Call) where
  module _ (c : Class) (r : RunOfGrants c (made p (control p) calls).past) where
    abbrev w : ℕ
    w = returns p (r.first ∷ r.before) r.since

    ended : Place p (control p) calls (r.since ++ (r.first ∷ r.before))
    ended = place p (control p) calls r.later (r.since ++ (r.first ∷ r.before)) r.place

    run : Along p D c ended.earlier (r.first ∷ r.before) r.since
    run = along p D c ended.earlier r.since r.first r.before (sym ended.past) r.starts r.goes_on

    few : travel r.since ≤ farthest p w
    few = omega (arith, run.cost, round_up p D c run.tour, mul-add (2 * (p.hubs - 1)) w 1)

  pub control_travels : Travels p (made p (control p) calls).past
  control_travels = record { few = few; read_off = λ c r. (run c r).told }
