-- Where a run over a text's event lines is, and one pass of it. Assumes nothing.
use Rattle.std.specs.Prelude.{Option, Some, None}
use mathlib.Core.Path.{◌≡◌, refl, sym, ap, ◌∙◌}
use mathlib.Core.Bool.{Bool, true, false}
use mathlib.Core.List.{List}
use Prim.Native.Nat.{ℕ, suc, ◌-◌, ◌<◌}
use native.Mathlib.Omega.{arith}
use lib.ListN.{length}
use Rattle.text.specs.Part.{part}
use Rattle.reader.specs.LineReader.{found_at, ahead}
use Rattle.reader.specs.declared.Found.{Found}
use Rattle.reader.specs.declared.Reader.{Reader}
use Rattle.log_spec.specs.Cells.{Run, events_by}
use Rattle.line_run.specs.LineRun.{Ran, line_by}
use Rattle.line_run.proofs.Ran.{ran_same}
use Rattle.text_run.proofs.PassLaws.{behind_line, passed, nearer, fewer, short, over, onwards}

-- a run with these tables over this text
module _ (write : Bool) (P text : List ℕ) where
  -- the lines from a place on, with this much fuel
  abbrev from_line : ℕ → ℕ → ℕ → List ℕ → List ℕ → ℕ → Run
  from_line left place line = events_by write P text left (record { at = place; number = line })

  -- the run from its first line on
  abbrev pub whole_run : ℕ → ℕ → List ℕ → List ℕ → ℕ → Run
  whole_run = from_line (suc (length text))

  -- with how much fuel (`left` and one more) the run is at this line, at these cells, bytes and
  -- place; and that what is left to do is the whole run, with fuel for every line that can be left
  pub record State (whole : Run) (at number : ℕ) (cells buffer : List ℕ) (z : ℕ) : Type 0 where
    pub left : ℕ
    pub same : whole ≡ from_line (suc left) at number cells buffer z
    pub enough : length text - at < suc left

  pub start : (place line : ℕ) (cells buffer : List ℕ) (at : ℕ) → State (whole_run place line cells buffer at) place line cells buffer at
  start place line cells buffer at = record { left = length text; same = refl; enough = omega arith }

  -- the line that the reader hands out at a place, and its run
  abbrev pub ahead_of : ℕ → ℕ → Found
  ahead_of at number = found_at text at number

  abbrev pub ran : ℕ → ℕ → List ℕ → List ℕ → ℕ → Run
  ran at number = line_by write P (part text at (ahead_of at number).end) number (ahead_of at number).ended

  -- a pass from a state, on that line
  module _ (whole : Run) (at number : ℕ) (cells buffer : List ℕ) (z : ℕ) (t : State whole at number cells buffer z) (xs ys : List ℕ) where
    abbrev behind : List ℕ → List ℕ → ℕ → Run
    behind = from_line t.left (ahead_of at number).at (ahead_of at number).number

    step : whole ≡ behind_line (ahead_of at number).ended behind (ran at number cells buffer z)
    step = t.same ∙ passed write P text at number t.left cells buffer z

    -- the line didn't fit
    pub stops : Ran (ran at number cells buffer z) None xs ys → Ran whole None xs ys
    stops came = ran_same step (short behind (ran at number cells buffer z) (ahead_of at number).ended came)

    -- the run is over
    pub ends : (ahead_of at number).ended ≡ false → {r : Option ℕ} → Ran (ran at number cells buffer z) r xs ys → Ran whole r xs ys
    ends e came = ran_same step (over behind (ran at number cells buffer z) (ahead_of at number).ended e came)

    -- it goes on
    module _ (e : (ahead_of at number).ended ≡ true) where
      pub goes : (y : ℕ) → Ran (ran at number cells buffer z) (Some y) xs ys → State whole (ahead_of at number).at (ahead_of at number).number xs ys y
      goes y came =
          let m = fewer write P text at number t.left cells buffer z e t.enough in
          let l : t.left ≡ suc (t.left - 1) = omega arith in
          record {
            left = t.left - 1;
            same =
                step ∙ onwards behind (ran at number cells buffer z) (ahead_of at number).ended e came
                ∙ ap (λ (k : ℕ). from_line k (ahead_of at number).at (ahead_of at number).number xs ys y) l;
            enough = omega arith;
          }

      -- nearer to the text's end
      pub falls : length text - (ahead_of at number).at < length text - at
      falls =
          let n = nearer write P text at number t.left cells buffer z e in
          omega (arith, n.0, n.1)

  -- the run of a line that a reader of this text handed out is the run of that line
  module _ (cells buffer xs ys : List ℕ) (z : ℕ) where
    pub on_line : (r : Reader) (bytes : List ℕ) (number : ℕ) (ended : Bool) → r.text.now ≡ text
        → bytes ≡ part r.text.now r.at (ahead r).end → number ≡ r.number → ended ≡ (ahead r).ended
        → {p : Option ℕ} → Ran (line_by write P bytes number ended cells buffer z) p xs ys → Ran (ran r.at r.number cells buffer z) p xs ys
    on_line r bytes number ended here own same lf p = rw (own, same, lf, here) at p

  -- and so is whether its LF was there
  pub same_end : (r : Reader) {ended b : Bool} → r.text.now ≡ text → ended ≡ (ahead r).ended → ended ≡ b → (ahead_of r.at r.number).ended ≡ b
  same_end r own lf e = ap (λ (x : List ℕ). (found_at x r.at r.number).ended) (sym own) ∙ sym lf ∙ e
