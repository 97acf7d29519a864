-- Row 17 is by the room that the frame has left for a node, and what another node gives up is added to it.
use Prim.Native.Nat.{ℕ, ◌+◌, ◌≤◌, ◌<◌}
use mathlib.Core.Path.{◌≡◌, sym, ap}
use mathlib.Core.Bool.{true, false}
use native.Mathlib.Omega.{arith}
use borrow.Author.Tests.{lt-ltb, le-ltb}
use Rattle.rules.specs.Choice.{put}
use Rattle.rules.specs.Plan.{Plan}
use Rattle.rules.specs.Drawn.{Within}
use Rattle.rules.specs.Core.{Core, Share, nothing_reserved}
use Rattle.rules.specs.Rows.{load, loads, row17}
use Rattle.rules.specs.Promises.{Holds}
use Rattle.rules.proofs.Laws.Passes.{put_other}
use Rattle.admission.proofs.Shares.{loads-put}
use Rattle.fit.specs.Fit.{frame_room, cost}

-- the frame holds what is reserved, as admission keeps it in every run
module _ (p : Plan) (s : Core) (holds : Holds p (loads p s.latest)) (k : ℕ) (w : Within p.nodes k) where
  pub room_passes : (r : Share) → load p r ≤ frame_room p s k → (row17 p s k r).applies ≡ false
  room_passes r fits =
      le-ltb p.frame (p.interrupt + loads p (put s.latest k r))
      (omega (arith, loads-put p s.latest k r w, loads-put p s.latest k nothing_reserved w))

  pub room_stops : (r : Share) → frame_room p s k < load p r → (row17 p s k r).applies ≡ true
  room_stops r over =
      lt-ltb p.frame (p.interrupt + loads p (put s.latest k r))
      (omega (arith, loads-put p s.latest k r w, loads-put p s.latest k nothing_reserved w))

  -- with another node's reservation given up
  pub room_behind : (j : ℕ) → Within p.nodes j → (j ≡ k → ⊥) → (z : Core) → z.latest ≡ put s.latest j nothing_reserved
      → frame_room p z k ≡ frame_room p s k + cost p s j
  room_behind j v other z e =
      let freed = put s.latest j nothing_reserved in
      let own : load p (freed k) ≡ load p (s.latest k) = ap (load p) (put_other s.latest j nothing_reserved k (λ f. other (sym f))) in
      rw e
      (omega (
        arith,
        own,
        loads-put p freed k nothing_reserved w,
        loads-put p s.latest j nothing_reserved v,
        loads-put p s.latest k nothing_reserved w,
      ))
