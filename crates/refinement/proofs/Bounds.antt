-- A node that counts in class high has fewer high grants in the frame than a cell can say: its share fits in the frame.
use Prim.Native.Nat.{ℕ, ◌+◌, ◌≤◌, ◌<◌}
use mathlib.Core.Path.{◌≡◌}
use mathlib.Core.Bool.{true}
use native.Mathlib.Nat.{mul-le-mul_left}
use native.Mathlib.Omega.{arith}
use Rattle.rules.specs.Plan.{Plan}
use Rattle.rules.specs.Call.{high}
use Rattle.rules.specs.Core.{Core, counts_in}
use Rattle.rules.specs.Drawn.{Figures, Within}
use Rattle.rules.specs.Rows.{load, loads}
use Rattle.rules.proofs.Laws.Passes.{sum-put}
use Rattle.rules.proofs.Core.Requests.{counts-stands, counts_left}
use Rattle.rules.proofs.Core.Sound.{Sound}

-- one node's load is no more than all
load_part : (p : Plan) (s : Core) (k : ℕ) → Within p.nodes k → load p (s.force k) ≤ loads p s.force
load_part p s k w = omega (arith, sum-put p.nodes (λ j. load p (s.force j)) k 0 w)

pub few_granted : (p : Plan) → Figures p → (s : Core) → Sound p s → (k : ℕ) → Within p.nodes k → counts_in high s k ≡ true → s.granted k < 65535
few_granted p fig s ok k w e =
    let below = counts_left s k e in
    let stood = counts-stands high s k e in
    let fits = (ok.allowed k stood.0 stood.1).fits in
    let short = ok.short k stood.0 high stood.1 in
    let long : 512 ≤ (s.force k).bits + p.overhead = omega arith in
    let most = mul-le-mul_left (s.force k).packets long in
    omega (arith, most, below, load_part p s k w, ok.force_fits, fig.frame_up)
