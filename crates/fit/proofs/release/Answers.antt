-- `release` meets its contract: behind j nodes the best one and its cost are those of nodes 1 to j.
use Prim.Native.Nat.{ℕ, ◌+◌, ◌*◌, ◌/◌, ◌%◌, ◌<◌}
use mathlib.Core.Path.{◌≡◌, sym, ap, ◌∙◌}
use mathlib.Core.Bool.{Bool, not, ◌&&◌, ◌||◌}
use mathlib.Core.List.{List}
use native.Mathlib.Omega.{arith}
use lib.Dec.{eqb, ltb, leb}
use lib.ListN.{get_or}
use Rattle.std.specs.Prelude.{if◌then◌else◌}
use Rattle.plan.specs.Tables.{overhead_cell}
use Rattle.cells.specs.Layout.{half}
use Rattle.cells.specs.Decode.{plan_in}
use Rattle.fit.proofs.OnePass.{so_far, costs, none_yet, no_cost, cost_is, one_more}
use Rattle.fit.proofs.release.Goals as goal
use Rattle.fit.proofs.release.Goals.{then-better, else-better}

pub loop-j-init : goal.loop-j-init
loop-j-init c =
    let a = c.args in
    (none_yet a.p.now a.s.now a.room a.k a.needed, no_cost a.p.now a.s.now a.room a.k a.needed)

-- what the test of node j + 1 makes of the best one so far is the best one of one node more
tested : (P s : List ℕ) (room k needed j best least : ℕ) {load : ℕ} {is_better : Bool} → j < (plan_in P).nodes
    → best ≡ so_far P s room k needed j → least ≡ costs P s room k needed best
    → let share = get_or s (648 + j) 0 in load ≡ share / half * (share % half + get_or P overhead_cell 0)
    → is_better ≡ ((not (eqb (j + 1) k) && (not (eqb (share / half) 0) && leb needed (room + load))) && (eqb best 0 || ltb load least))
    → (if is_better then j + 1 else best) ≡ so_far P s room k needed (j + 1)
tested P s room k needed j best least some_node is_best is_least own better =
    let share = get_or s (648 + j) 0 in
    ap (λ (b : Bool). if b then j + 1 else best) better
    ∙ ap (λ (x : ℕ). if (not (eqb (j + 1) k) && (not (eqb (share / half) 0) && leb needed (room + x))) && (eqb best 0 || ltb x least) then j + 1 else best)
    own
    ∙ one_more P s room k needed j some_node is_best is_least

pub loop-j-preserved : goal.loop-j-preserved
loop-j-preserved c =
    let a = c.args in
    let l = c.loop-j in
    let inv = l.invariant in
    let some_node : l.j < (plan_in a.p.now).nodes = omega (arith, c.nodes-j-end.ensures, c.loop-j-test.true) in
    let next = tested a.p.now a.s.now a.room a.k a.needed l.j l.best l.least some_node inv.0 inv.1 c.load-load.ensures c.better.ensures in
    elim c.if-better.branch [
      | then-better w ↦ (
        w.best-is ∙ ap (λ (b : Bool). if b then l.j + 1 else l.best) (sym w.if-better.true) ∙ next,
        w.least-is ∙ c.load-load.ensures ∙ cost_is a.p.now a.s.now a.room a.k a.needed l.j some_node ∙ ap (costs a.p.now a.s.now a.room a.k a.needed) (sym w.best-is),
      )
      | else-better w ↦ (
        w.best-is ∙ ap (λ (b : Bool). if b then l.j + 1 else l.best) (sym w.if-better.false) ∙ next,
        w.least-is ∙ inv.1 ∙ ap (costs a.p.now a.s.now a.room a.k a.needed) (sym w.best-is),
      )
    ]

pub returns : goal.returns
returns c =
    let a = c.args in
    let l = c.loop-j in
    let all : l.j ≡ (plan_in a.p.now).nodes = omega (arith, c.nodes-j-end.ensures) in
    l.invariant.0 ∙ ap (so_far a.p.now a.s.now a.room a.k a.needed) all
