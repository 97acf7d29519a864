-- Of every list of calls: the looks of each call are at most 4 × L - 1, and 3 × L - 1 in a grant of the class of the latest.
use Prim.Native.Nat.{ℕ, zero, suc, ◌+◌, ◌-◌, ◌*◌, ◌≤◌}
use mathlib.Core.Path.{◌≡◌, refl, sym, subst}
use mathlib.Core.Bool.{Bool, true}
use mathlib.Core.List.{List}
use native.Mathlib.Omega.{arith}
use lib.Dec.{eqb}
use borrow.Author.Tests.{eqb-true, eqb-false}
use Rattle.rules.specs.Choice.{any}
use Rattle.rules.specs.Plan.{Plan, most_levels, levels}
use Rattle.rules.specs.Drawn.{Drawn, Within}
use Rattle.rules.specs.Call.{Class, same, Call, Answer}
use Rattle.rules.specs.Core.{advance, counts_in}
use Rattle.rules.specs.Machine.{Hub, Outcome, perform}
use Rattle.rules.specs.Flat.{Pointers, flat}
use Rattle.rules.specs.Control.{Control, hand_to, walk, most_looks, turning, choose_by, control}
use Rattle.rules.specs.Run.{made}
use Rattle.rules.specs.Agree.{moves_of}
use Rattle.rules.specs.Travel.{walk_returns, choose_returns, call_returns, grants_in}
use Rattle.rules.specs.Looks.{walk_looks, nearest_looks, choose_looks, call_looks, most_in_walk, most_in_call, PlaceOf, there, looks_at, same_class, FewLooks}
use Rattle.rules.proofs.Laws.Passes.{Which, which, yes', no', true-false}
use Rattle.rules.proofs.Flat.Agree.{sought-counts, turns_like}
use Rattle.rules.proofs.Flat.Turns.{chosen_counts}
use Rattle.rules.proofs.Core.CallCases.{Course, refusal, event, quietly, granting, resting, course}
use Rattle.rules.proofs.Core.Places.{MadeAt, made_at}
use Rattle.rules.proofs.Control.Cover.{hangs}
use Rattle.rules.proofs.Control.Pointers.{Chain, chain_within, chain_level, good_from_root}
use Rattle.rules.proofs.Control.Steps.{same-eq}
use Rattle.rules.proofs.Control.Levels.{level_up, levels-up}
use Rattle.rules.proofs.Control.Walk.{DownAt, down_lands}
use Rattle.rules.proofs.Control.Nearest.{level_low, nearest_near}
use Rattle.rules.proofs.Control.FollowsFlat.{Like, control_follows}
use Rattle.rules.proofs.Travel.EveryRun.{left_by_lem}
use Rattle.rules.proofs.Looks.Enough.{Told, EnoughAt, enough}

module _ (p : Plan) (D : Drawn p) where
  -- one look a level, from hub g up to the root
  nearest_level : (l g : ℕ) → Within p.hubs g → p.level g ≤ l → nearest_looks p l g ≡ p.level g
  unfolding nearest_looks
  nearest_level zero g w u = absurd (omega (arith, level_low p D g w))
  nearest_level (suc l) g w u = go (nearest_level l) (which (eqb g 1))
    where
      go : ((h : ℕ) → Within p.hubs h → p.level h ≤ l → nearest_looks p l h ≡ p.level h) → Which (eqb g 1) → nearest_looks p (suc l) g ≡ p.level g
      go onward (yes' e) = rw (e, eqb-true g 1 e) (omega (arith, D.root_level))
      go onward (no' e) =
          let low : 2 ≤ g = omega (arith, eqb-false g 1 e, w.low) in
          let hung = (hangs p D g low w.up).hung in
          rw e (omega (arith, onward (p.parent g) (D.hung_parent g low w.up) (omega (arith, hung.level)), hung.level))

  module _ (c : Class) (f : ℕ → Bool) (σ : Control) (π : Pointers) (some : any p.nodes f ≡ true) (like : Like p D σ π) where
    -- a walk from a hub that is led to: 3 × L less its level are enough
    walk_few : (g m : ℕ) → Chain p (σ.pointer c) g
        → Told (3 * levels p - p.level g) m (walk p c f most_looks (hand_to g σ) m) (walk_looks p c f most_looks (hand_to g σ))
        (walk_returns p c f most_looks (hand_to g σ))
    unfolding DownAt EnoughAt
    walk_few g m ch =
        let n = 3 * levels p - p.level g in
        let lands =
        down_lands p D c f some n (hand_to g σ) m (like.passing c) ch (good_from_root p D ch (like.good c))
        (omega (arith, level_up p D g (chain_within p D ch))) in
        enough p c f n most_looks (hand_to g σ) m (omega (arith, levels-up p D))
        (λ z. omega (arith, (chosen_counts (omega arith) lands.chosen).within.low))

    -- of the class of the latest grant
    same_few : same c σ.latest ≡ true → Told (most_in_walk p) 0 (choose_by p c f σ) (choose_looks p c f σ) (choose_returns p c f σ)
    unfolding choose_by choose_looks choose_returns
    same_few e =
        let ch = subst (λ (d : Class). Chain p (σ.pointer d) σ.holder) (sym (same-eq c σ.latest e)) like.chain in
        let t = walk_few σ.holder 0 ch in
        rw e (record { few = omega (arith, t.few, chain_level p D ch); told = t.told })

    choose_few : choose_looks p c f σ ≤ most_in_call p
    unfolding choose_looks
    choose_few = go (which (same c σ.latest))
      where
        go : Which (same c σ.latest) → choose_looks p c f σ ≤ most_in_call p
        go (yes' e) = omega (arith, (same_few e).few)
        go (no' e) =
            let w = chain_within p D like.chain in
            let n = nearest_near p D (σ.pointer c) σ.holder w in
            let t = walk_few (turning p c σ) 0 n.chain in
            rw e
            (omega (
              arith,
              t.few,
              chain_level p D n.chain,
              nearest_level most_levels σ.holder w (D.few_levels σ.holder w),
              level_up p D σ.holder w,
            ))

  -- a call on a hub that a run reaches
  module _ (h : Hub Control) (π : Pointers) (like : Like p D h.turn π) where
    call_few : {call : Call} {o : Outcome Control} → Course p (control p) h call o → call_looks p h o.answer ≤ most_in_call p
    call_few (refusal call n r) = omega arith
    call_few (event call i r) = omega arith
    call_few (quietly t i b) = omega arith
    call_few (granting t d c i r l n) =
        choose_few c (counts_in c (advance p d h.core)) h.turn π (sought-counts p (advance p d h.core) c n) like
    call_few (resting t d i r l n) = omega arith

    call_told : {call : Call} {o : Outcome Control} → Course p (control p) h call o → grants_in h.turn.latest o.answer ≡ true
        → (call_looks p h o.answer ≤ most_in_walk p) × (call_looks p h o.answer ≡ moves_of o.answer + call_returns p h o.answer + 1)
    call_told (refusal call n r) e = absurd (true-false e refl)
    call_told (event call i r) e = absurd (true-false e refl)
    call_told (quietly t i b) e = absurd (true-false e refl)
    call_told (granting t d c i r l n) e =
        let s = same_few c (counts_in c (advance p d h.core)) h.turn π (sought-counts p (advance p d h.core) c n) like e in
        (s.few, omega (arith, s.told))
    call_told (resting t d i r l n) e = absurd (true-false e refl)

-- at every place of a list
module _ (p : Plan) (D : Drawn p) (calls : List Call) where
  module _ (e : PlaceOf (made p (control p) calls).past) where
    at : MadeAt p (control p) calls e.entry e.before
    at = made_at p (control p) calls e.later e.entry e.before e.place

    abbrev hub : Hub Control
    hub = (made p (control p) at.earlier).hub

    like : Like p D hub.turn (made p (flat p) at.earlier).hub.turn
    unfolding control_follows
    like = turns_like p (control p) (control_follows p D) at.earlier

    -- what is shown of the hub that the earlier calls left, and its answer
    of_it : (P : Hub Control → Answer → Type 0) → P hub (perform p (control p) e.entry.call hub).answer → P (there p e) e.entry.answer
    of_it P x =
        subst (λ (h : Hub Control). P h e.entry.answer) (sym (left_by_lem p at.earlier e.before (sym at.past)))
        (subst (P hub) (sym at.answer) x)

    few : looks_at p e ≤ most_in_call p
    few =
        of_it (λ h a. call_looks p h a ≤ most_in_call p)
        (call_few p D hub (made p (flat p) at.earlier).hub.turn like (course p (control p) hub e.entry.call))

    told : same_class p e ≡ true
        → (looks_at p e ≤ most_in_walk p) × (looks_at p e ≡ moves_of e.entry.answer + call_returns p (there p e) e.entry.answer + 1)
    told =
        of_it
        (λ h a. grants_in h.turn.latest a ≡ true → (call_looks p h a ≤ most_in_walk p) × (call_looks p h a ≡ moves_of a + call_returns p h a + 1))
        (call_told p D hub (made p (flat p) at.earlier).hub.turn like (course p (control p) hub e.entry.call))

  pub control-looks : FewLooks p (made p (control p) calls).past
  control-looks = record { few = few; few_in_class = λ e s. (told e s).0; told = λ e s. (told e s).1 }
