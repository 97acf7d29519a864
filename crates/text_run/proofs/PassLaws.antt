-- The run from a reader's place on, by the line that the reader hands out there.
use Rattle.std.specs.Prelude.{Option, Some, None}
use mathlib.Core.Path.{◌≡◌, refl, sym, ap, ◌∙◌}
use mathlib.Core.Bool.{Bool, true, false}
use mathlib.Core.List.{List}
use Prim.Native.Nat.{ℕ, suc, ◌-◌, ◌≤◌, ◌<◌}
use native.Mathlib.Omega.{arith}
use lib.ListN.{length}
use Rattle.text.specs.Part.{part}
use Rattle.text.specs.Line.{next_line}
use Rattle.text.specs.declared.Cursor.{Cursor}
use Rattle.text.specs.declared.Next.{Next}
use Rattle.text.specs.declared.Next.TheVariants.{Line, Unended, Done}
use Rattle.text.proofs.Parts.{part_length}
use Rattle.text.proofs.Lines.{scanned_line, scanned_unended}
use Rattle.reader.specs.declared.Found.{Found}
use Rattle.reader.specs.LineReader.{found, found_at}
use Rattle.log_lines.specs.FirstLine.{refused_line}
use Rattle.event_lines.specs.Event.{event_of, call_on}
use Rattle.log_spec.specs.Cells.{Run, line, going_on, event_line_by, next_by, events_by}
use Rattle.line_run.specs.LineRun.{Ran, line_by}
use Rattle.line_run.proofs.LineLaws.{some_bytes, no_bytes}
use Rattle.line_run.proofs.Ran.{onto, halted}

-- behind a line with its LF the run goes on
abbrev pub behind_line : Bool → (List ℕ → List ℕ → ℕ → Run) → Run → Run
behind_line true more x = going_on more x
behind_line false more x = x

module _ (write : Bool) (P text : List ℕ) (at number left : ℕ) (s b : List ℕ) (z : ℕ) where
  abbrev c : Cursor
  c = record { at = at; number = number }

  -- the line that is found, and the run behind it
  abbrev ran : Found → Run
  ran f = line_by write P (part text at f.end) number f.ended s b z

  abbrev again : Found → List ℕ → List ℕ → ℕ → Run
  again f = events_by write P text left (record { at = f.at; number = f.number })

  by_case : (x : Next) → next_line text c ≡ x → next_by write P text (events_by write P text left) x s b z ≡ behind_line (found c x).ended (again (found c x)) (ran (found c x))
  unfolding found line_by
  by_case (Line start end n next) e =
      let l = scanned_line text c start end n next e in
      λ i. going_on (events_by write P text left next) (event_line_by write P (l.numbered i) (call_on (event_of (part text (l.begins i) end))) s b z)
  by_case (Unended start end n) e =
      let u = scanned_unended text c start end n e in
      ap (λ (m : ℕ). line write (refused_line m 1) s b z) u.numbered ∙ sym (some_bytes write P number s b z (part text at end) (omega (arith, part_length text at end, u.begins, u.ends, u.more)))
  by_case (Done n) e = sym (no_bytes write P number s b z (part text at at) (omega (arith, part_length text at at)))

  abbrev f : Found
  f = found_at text at number

  pub passed : events_by write P text (suc left) c s b z ≡ behind_line f.ended (again f) (ran f)
  unfolding events_by
  passed = by_case (next_line text c) refl

  -- a line with its LF takes the reader on, and within the text
  nearer_by_case : (x : Next) → next_line text c ≡ x → (found c x).ended ≡ true → (at < (found c x).at) × ((found c x).at ≤ length text)
  unfolding found
  nearer_by_case (Line start end n next) e h =
      let l = scanned_line text c start end n next e in
      (omega (arith, l.begins, l.onward, l.ends), l.inside)
  nearer_by_case (Unended start end n) e h = let q : ◌≡◌ {A = ℕ} 0 1 = cc in absurd (omega arith)
  nearer_by_case (Done n) e h = let q : ◌≡◌ {A = ℕ} 0 1 = cc in absurd (omega arith)

  pub nearer : f.ended ≡ true → (at < f.at) × (f.at ≤ length text)
  nearer = nearer_by_case (next_line text c) refl

  pub fewer : f.ended ≡ true → length text - at < suc left → length text - f.at < left
  fewer h enough =
      let w = nearer h in
      omega (arith, w.0, w.1)

-- how the run goes on, by whether the line fitted and whether its LF was there
module _ (more : List ℕ → List ℕ → ℕ → Run) (x : Run) {s' b' : List ℕ} where
  pub short : (ended : Bool) → Ran x None s' b' → Ran (behind_line ended more x) None s' b'
  short true came = halted more x came
  short false came = came

  pub over : (ended : Bool) → ended ≡ false → {r : Option ℕ} → Ran x r s' b' → Ran (behind_line ended more x) r s' b'
  over ended e came = rw e came

  pub onwards : (ended : Bool) → ended ≡ true → {z : ℕ} → Ran x (Some z) s' b' → behind_line ended more x ≡ more s' b' z
  onwards ended e came = rw e (onto more x came)
