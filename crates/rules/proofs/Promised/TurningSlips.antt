-- Each wrong hub of `TurningSlips` is told from the right one by its run; its last
-- run takes more moves than the old rule 2 did, which the right one never does.
-- And what they are made with is rule 2 where nothing is got wrong.
use Prim.Native.Nat.{ℕ, zero, suc}
use mathlib.Core.Path.{◌≡◌, refl}
use Rattle.rules.specs.Choice.{any, sum, first}
use Rattle.rules.specs.Plan.{Plan}
use Rattle.rules.specs.Core.{advance, counts_in, counts, held, due, sought}
use Rattle.rules.specs.Control.{Pointer, below, lowest, walk, led, nearest, choose_by, choose_from_root, from_root}
use Rattle.rules.specs.Machine.{perform}
use Rattle.rules.specs.Run.{made, answers}
use Rattle.rules.specs.Slips.{Each}
use Rattle.rules.specs.TurningSlips.{right_rule, counted_to_root, led_by, nearest_by, pair, handed_up, turning_slips}
use Rattle.rules.proofs.Laws.Clash.{clash}

pub turning_slips_shown : Each turning_slips
unfolding any sum first advance counts_in counts held due sought below lowest walk led nearest choose_by perform made led_by nearest_by
turning_slips_shown = (
  record { right = refl; wrong = refl; differ = λ e. clash (cc) },
  (
    record { right = refl; wrong = refl; differ = λ e. clash (cc) },
    (record { right = refl; wrong = refl; differ = λ e. clash (cc) }, (record { right = refl; wrong = refl; differ = λ e. clash (cc) }, tt)),
  ),
)

-- the old rule 2 answers the last run as the right hub does
pub handed_up_from_root : answers pair (from_root pair) (handed_up counted_to_root).calls ≡ (handed_up counted_to_root).right_answers
unfolding any sum first advance counts_in counts held due sought below lowest walk choose_from_root perform made
handed_up_from_root = refl

module _ (p : Plan) (P : ℕ → Pointer) where
  led_right : (l g : ℕ) → led_by right_rule p P l g ≡ led p P l g
  unfolding led_by led
  led_right zero g = refl
  led_right (suc l) g = rw (led_right l (p.parent g))

  pub nearest_right : (l g : ℕ) → nearest_by right_rule p P l g ≡ nearest p P l g
  unfolding nearest_by nearest
  nearest_right zero g = refl
  nearest_right (suc l) g = rw (led_right 5 g, nearest_right l (p.parent g))
