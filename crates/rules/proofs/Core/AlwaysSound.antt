-- `Sound` holds at every place of a run.
use Prim.Native.Nat.{ℕ, zero, suc, ◌+◌, ◌≤◌}
use mathlib.Core.Path.{◌≡◌, refl, subst}
use mathlib.Core.Bool.{true}
use mathlib.Core.List.{List, [], ◌∷◌}
use native.Mathlib.Omega.{arith}
use Rattle.rules.specs.Choice.{any, sum}
use Rattle.rules.specs.Plan.{Plan}
use Rattle.rules.specs.Call.{Class, Call, time}
use Rattle.rules.specs.Core.{Core, none, standing, fresh, advance, counts_in, Sought, class, sought, at, due}
use Rattle.rules.specs.Drawn.{Figures}
use Rattle.rules.specs.Rows.{loads, accept, first_row, rows, put_up, change}
use Rattle.rules.specs.Machine.{Machine, Hub, Outcome}
use Rattle.rules.specs.Run.{made}
use Rattle.rules.specs.Promises.{Askable, Acceptable, asks, leaves, reserves, waits}
use Rattle.rules.proofs.Core.Acceptance.{acceptable}
use Rattle.rules.proofs.Core.CallCases.{Event, in_time_lem, not_due, Course, refusal, event, quietly, granting, resting, course}
use Rattle.rules.proofs.Core.Requests.{put_up_high}
use Rattle.rules.proofs.Core.Instants.{Seeking, seeks, none-counts, seeking}
use Rattle.rules.proofs.Flat.Turns.{Pointed, pointed_start, pointed_rest, node_counts, pointed_turn}
use Rattle.rules.proofs.Flat.Follows.{Follows}
use Rattle.rules.proofs.Core.Sound.{Sound}
use Rattle.rules.proofs.Core.SoundChanges.{Proper, none_proper, sound_of, request_sound, latest_sound, rest_sound, grant_sound}
use Rattle.rules.proofs.Core.ClockAdvance.{advance_sound, advance_clock, advance_latest, due_late, due_end, not_before_end}
use Rattle.rules.proofs.Laws.Clash.{clash}

-- what an acceptable event leaves
module _ (p : Plan) (s : Core) where
  asked_proper : (c : Class) (t k b : ℕ) → Askable p s c t k b → Proper p ((advance p t s).force k) k (standing (put_up ((advance p t s).force k) c) b)
  asked_proper c t k b a =
      record {
        allowed = λ d f.
            (let g : b ≡ d = cc in
            let up = put_up_high ((advance p t s).force k) c (cc) in
            record { some = up.1; fits = subst (λ (x : ℕ). x ≤ ((advance p t s).force k).bits) g (a.share.fits up.0 up.1) });
        node = λ d x f. a.node;
        short = λ d x f. (let g : b ≡ d = cc in omega (arith, a.short));
        long = λ d x f. (let g : b ≡ d = cc in omega (arith, a.long));
      }

  -- once the clock has come to its time
  event_sound : {call : Call} → Acceptable p s call → Sound p (advance p (time call) s) → Sound p (change call (advance p (time call) s))
  event_sound (asks c t k b a) ok =
      request_sound p (advance p t s) ok k (standing (put_up ((advance p t s).force k) c) b) (asked_proper c t k b a)
  event_sound (leaves t k o w) ok = request_sound p (advance p t s) ok k none (none_proper p ((advance p t s).force k) k)
  event_sound (reserves t k n b a) ok =
      latest_sound p (advance p t s) ok k (record { packets = n; bits = b }) (rw (advance_latest p t s) a.holds)
  event_sound (waits t o) ok = ok

sum-zero : (n : ℕ) (f : ℕ → ℕ) → ((k : ℕ) → f k ≡ 0) → sum n f ≡ 0
unfolding sum
sum-zero zero f h = refl
sum-zero (suc n) f h = omega (arith, sum-zero n f h, h (suc n))

nothing_loads : (p : Plan) → loads p fresh.latest ≡ 0
nothing_loads p = sum-zero p.nodes _ (λ k. omega arith)

pub fresh_sound : (p : Plan) → Figures p → Sound p fresh
fresh_sound p fig =
    let fits : p.interrupt + loads p fresh.latest ≤ p.frame = omega (arith, nothing_loads p, fig.interrupt_up) in
    sound_of p fresh fits fits (λ k. omega arith) (λ k. none_proper p _ k) (record { late = λ e l. clash (cc); soon = λ e l. clash (cc) })

module _ (p : Plan) (fig : Figures p) (M : Machine) (follows : Follows p M) where
  -- what holds of the whole hub at every place: the core is sound, and the machine's state is like pointers within 1 to N
  pub record Good (h : Hub M.State) : Type 0 where
    pub sound : Sound p h.core
    pub pointed : Pointed p M follows h.turn

  module _ (h : Hub M.State) (ok : Good h) where
    -- the clock comes to the due instant, or to the time of an accepted event
    pub instant_sound : (d : ℕ) → due p h.core ≡ at d → Sound p (advance p d h.core)
    instant_sound d e =
        advance_sound p d h.core ok.sound (due_late p fig h.core ok.sound d e)
        (λ f l. (let q = due_end p fig h.core f l in let g : d ≡ f = cc in omega arith))

    pub arrival_sound : {call : Call} → Event call → first_row (rows p h.core call) ≡ accept → Sound p (advance p (time call) h.core)
    arrival_sound {call} e a =
        advance_sound p (time call) h.core ok.sound (in_time_lem p h.core call a).late
        (λ f l. not_before_end p fig h.core (time call) f (not_due p h.core e a) l)

    -- the turn goes to a node that counts in the class sought
    pub turn_counts : (d : ℕ) (c : Class) → sought p (advance p d h.core) ≡ class c
        → any p.nodes (counts_in c (advance p d h.core)) ≡ true
    turn_counts d c e = go (seeking p (advance p d h.core)) e
      where
        go : {x : Sought} → Seeking p (advance p d h.core) x → x ≡ class c → any p.nodes (counts_in c (advance p d h.core)) ≡ true
        go (seeks x a) q = let r : x ≡ c = cc in subst (λ (y : Class). any p.nodes (counts_in y (advance p d h.core)) ≡ true) r a
        go (none-counts a) q = clash (cc)

    good_next : {call : Call} {o : Outcome M.State} → Course p M h call o → Good o.hub
    good_next (refusal call n e) = ok
    good_next (event call e a) =
        record { sound = event_sound p h.core (acceptable p h.core e a) (arrival_sound e a); pointed = ok.pointed }
    good_next (quietly t i n) = ok
    good_next (granting t d c i e l n) =
        let some = turn_counts d c n in
        let f = counts_in c (advance p d h.core) in
        record {
          sound =
              grant_sound p (advance p d h.core) (instant_sound d e) d (M.choose c f h.turn).node c (advance_clock p d h.core)
              (node_counts p M follows h.turn ok.pointed c f some).holds;
          pointed = pointed_turn p M follows h.turn ok.pointed c f some;
        }
    good_next (resting t d i e l n) =
        record { sound = rest_sound p (advance p d h.core) (instant_sound d e); pointed = pointed_rest p M follows h.turn ok.pointed }

  module _ (some : 1 ≤ p.nodes) where
    pub good : (calls : List Call) → Good (made p M calls).hub
    unfolding made
    good [] = record { sound = fresh_sound p fig; pointed = pointed_start p M follows some }
    good (call ∷ earlier) = good_next (made p M earlier).hub (good earlier) (course p M (made p M earlier).hub call)

    pub sound : (calls : List Call) → Sound p (made p M calls).hub.core
    sound calls = (good calls).sound
