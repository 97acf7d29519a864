-- Admission keeps its promise: at every place of a run the frame holds what was accepted.
use Prim.Native.Nat.{ℕ, ◌≤◌}
use mathlib.Core.Path.{◌≡◌, ap}
use mathlib.Core.List.{List, [], ◌∷◌}
use lib.Dec.{ltb}
use borrow.Author.Tests.{ltb-true, ltb-false}
use Rattle.rules.specs.Plan.{Plan}
use Rattle.rules.specs.Call.{Call}
use Rattle.rules.specs.Core.{Share, frame_of}
use Rattle.rules.specs.Drawn.{Figures}
use Rattle.rules.specs.Rows.{load, loads}
use Rattle.rules.specs.Machine.{Machine}
use Rattle.rules.specs.Run.{made}
use Rattle.rules.specs.Words.{reserved}
use Rattle.rules.specs.Promises.{Holds, Admits}
use Rattle.rules.proofs.Laws.Passes.{Which, which, yes', no', sum_same}
use Rattle.rules.proofs.Flat.Follows.{Follows}
use Rattle.rules.proofs.Core.AlwaysSound.{fresh_sound, sound}
use Rattle.rules.proofs.Core.AlwaysTold.{told}
use Rattle.rules.proofs.Core.Stable.{reserved-settled}

module _ (p : Plan) where
  same-loads : (r q : ℕ → Share) → ((k : ℕ) → r k ≡ q k) → loads p r ≡ loads p q
  same-loads r q h = sum_same p.nodes (λ k. load p (r k)) (λ k. load p (q k)) (λ k w. ap (λ (x : Share). load p x) (h k))

module _ (p : Plan) (fig : Figures p) (M : Machine) (follows : Follows p M) (some : 1 ≤ p.nodes) where
  -- in a frame that the clock has come to nothing more is reserved, and in a later one it is the latest accepted
  frame_holds : (calls : List Call) (f : ℕ) → Holds p (loads p (λ k. reserved p k f (made p M calls).past))
  unfolding made reserved
  frame_holds [] f = (fresh_sound p fig).latest_fits
  frame_holds (call ∷ earlier) f = go (frame_holds earlier f) (which (ltb (frame_of p (made p M (call ∷ earlier)).hub.core.clock) f))
    where
      go : Holds p (loads p (λ k. reserved p k f (made p M earlier).past)) → Which (ltb (frame_of p (made p M (call ∷ earlier)).hub.core.clock) f)
          → Holds p (loads p (λ k. reserved p k f (made p M (call ∷ earlier)).past))
      go before (yes' e) =
          rw
          (same-loads p (λ k. reserved p k f (made p M (call ∷ earlier)).past) (made p M (call ∷ earlier)).hub.core.latest
          (λ k. (told p fig M follows some (call ∷ earlier)).latest k f (ltb-true _ _ e)))
          (sound p fig M follows some (call ∷ earlier)).latest_fits
      go before (no' e) =
          rw
          (same-loads p (λ k. reserved p k f (made p M (call ∷ earlier)).past) (λ k. reserved p k f (made p M earlier).past)
          (λ k. reserved-settled p fig M follows some call earlier k f (ltb-false _ _ e)))
          before

  pub admission_holds : (calls : List Call) → Admits p (made p M calls).past (made p M calls).hub.core
  admission_holds calls =
      record {
        latest = (sound p fig M follows some calls).latest_fits;
        force = (sound p fig M follows some calls).force_fits;
        frame = frame_holds calls;
      }
