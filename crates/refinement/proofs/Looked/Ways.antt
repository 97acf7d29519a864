-- The walk of `rules` and the walk over the cells go look by look.
use Prim.Native.Nat.{ℕ, suc, ◌+◌}
use mathlib.Core.Path.{◌≡◌, refl, ap}
use mathlib.Core.Bool.{Bool, true, false}
use mathlib.Core.List.{List}
use lib.Dec.{ltb, eqb}
use Rattle.rules.specs.Plan.{Plan, Port, node, empty, hub}
use Rattle.rules.specs.Call.{Class}
use Rattle.rules.specs.Control.{Control, at_port, lowest, point, down, up, walk}
use Rattle.rules.specs.Looks.{walk_looks}
use Rattle.rules.proofs.Laws.Passes.{Which, which, yes', no'}
use Rattle.cells.specs.declared.Look.{Look}
use Rattle.cells.specs.declared.Look.TheVariants.{Node, Pass, Round, Stop}
use Rattle.cells.specs.Turns.{Turned, look_by, after_look, walk_by}
use Rattle.cells.specs.Looks.{after_look_looks, walk_by_looks}
use Rattle.refinement.proofs.Looked.Least.{Walker, Way, ends, goes, stops, Stepwise}

-- of `rules`: the control, and the moves so far
module _ (p : Plan) (c : Class) (f : ℕ → Bool) where
  abbrev pub ruled : Walker (Control × ℕ)
  ruled = record { node = λ n x. (walk p c f n x.0 x.1).node; looks = λ n x. walk_looks p c f n x.0 }

  module _ (σ : Control) (m : ℕ) where
    abbrev found : ℕ
    found = lowest p f σ.holder (σ.pointer c σ.holder).port

    up_way : eqb found 0 ≡ true → Which (eqb σ.holder 1) → Way ruled (σ, m)
    unfolding walk walk_looks
    up_way e (yes' r) = goes (point c 1 (at_port 1) σ, m) (λ n. rw (e, r)) (λ n. rw (e, r))
    up_way e (no' r) = goes (up p c σ, m + 1) (λ n. rw (e, r)) (λ n. rw (e, r))

    port_way : eqb found 0 ≡ false → (x : Port) → p.port σ.holder found ≡ x → Way ruled (σ, m)
    unfolding walk walk_looks
    port_way e (node k) i = ends k (λ n. rw (e, i)) (λ n. rw (e, i))
    port_way e empty i = stops (λ n. rw (e, i))
    port_way e (hub h) i = goes (down c found h σ, m + 1) (λ n. rw (e, i)) (λ n. rw (e, i))

    ruled_way : Way ruled (σ, m)
    ruled_way = go (which (eqb found 0))
      where
        go : Which (eqb found 0) → Way ruled (σ, m)
        go (yes' e) = up_way e (which (eqb σ.holder 1))
        go (no' e) = port_way e (p.port σ.holder found) refl

  pub ruled_steps : Stepwise ruled
  unfolding walk
  ruled_steps = record { none = λ x. refl; way = λ x. ruled_way x.0 x.1 }

abbrev granted : Turned → ℕ
granted w = w.turn.node

-- over the cells: the hub that has control, the moves so far, and the cells
module _ (P : List ℕ) (is_high : Bool) where
  abbrev pub coded : Walker (ℕ × ℕ × List ℕ)
  coded =
      record {
        node = λ n x. granted (walk_by P is_high n x.0 x.1 x.2);
        looks = λ n x. walk_by_looks P is_high n x.0 x.2;
      }

  module _ (g m : ℕ) (s : List ℕ) where
    abbrev look : Look
    look = (look_by P is_high g s).look

    abbrev left : List ℕ
    left = (look_by P is_high g s).cells

    -- what follows a look
    after : (n : ℕ) → ltb g 1 ≡ false → ltb 32 g ≡ false → (x : Look) → look ≡ x
        → walk_by P is_high (suc n) g m s ≡ after_look P is_high (walk_by P is_high n) g m x left
    unfolding walk_by
    after n e i x l = rw (e, i, l)

    after_looks : (n : ℕ) → ltb g 1 ≡ false → ltb 32 g ≡ false → (x : Look) → look ≡ x
        → walk_by_looks P is_high (suc n) g s ≡ after_look_looks (walk_by_looks P is_high n) x left
    unfolding walk_by_looks
    after_looks n e i x l = rw (e, i, l)

    -- no hub is looked at
    nowhere : (n : ℕ) → ltb g 1 ≡ true → walk_by P is_high (suc n) g m s ≡ record { turn = record { node = 0; hub = g; moves = m }; cells = s }
    unfolding walk_by
    nowhere n e = rw e

    nowhere_either : (n : ℕ) → ltb g 1 ≡ false → ltb 32 g ≡ true
        → walk_by P is_high (suc n) g m s ≡ record { turn = record { node = 0; hub = g; moves = m }; cells = s }
    unfolding walk_by
    nowhere_either n e i = rw (e, i)

    hub_way : ltb g 1 ≡ false → ltb 32 g ≡ false → (x : Look) → look ≡ x → Way coded (g, m, s)
    unfolding after_look
    hub_way e i (Node k) l = ends k (λ n. ap granted (after n e i (Node k) l)) (λ n. after_looks n e i (Node k) l)
    hub_way e i (Pass h) l = goes (h, m + 1, left) (λ n. ap granted (after n e i (Pass h) l)) (λ n. after_looks n e i (Pass h) l)
    hub_way e i Round l = goes (1, m, left) (λ n. ap granted (after n e i Round l)) (λ n. after_looks n e i Round l)
    hub_way e i Stop l = stops (λ n. ap granted (after n e i Stop l))

    coded_way : Way coded (g, m, s)
    coded_way = go (which (ltb g 1)) (which (ltb 32 g))
      where
        go : Which (ltb g 1) → Which (ltb 32 g) → Way coded (g, m, s)
        go (yes' e) i = stops (λ n. ap granted (nowhere n e))
        go (no' e) (yes' i) = stops (λ n. ap granted (nowhere_either n e i))
        go (no' e) (no' i) = hub_way e i (look_by P is_high g s).look refl

  pub coded_steps : Stepwise coded
  unfolding walk_by
  coded_steps = record { none = λ x. refl; way = λ x. coded_way x.0 x.1 x.2 }
