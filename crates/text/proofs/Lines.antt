-- The lines of a text: drawn again they are the text, a line ends at the first LF, and the scanner hands them out one by one.
-- Assumes nothing.
use mathlib.Core.Path.{◌≡◌, refl, sym, ap, ◌∙◌}
use mathlib.Core.Bool.{Bool, true, false, not}
use mathlib.Core.List.{List, [], ◌∷◌, ◌++◌}
use Prim.Native.Nat.{ℕ, ◌+◌, ◌-◌, ◌≤◌, ◌<◌}
use native.Mathlib.Nat.{add_assoc, suc-add}
use native.Mathlib.Omega.{arith}
use borrow.Author.Tests.{eqb-true, not-true}
use lib.Dec.{eqb}
use native.Mathlib.Numerals.{add-one}
use lib.ListN.{length, take, drop, get_or, length-append, length-drop, take-append-drop}
use lib.Seq.{drop-drop, drop-cons, take-length, length-take-le}
use Rattle.text.specs.Part.{part}
use Rattle.text.specs.Line.{Lines, nothing, unended, ended, before, lines, draw_lines, no_lf, next_number, hand_out, next_line}
use Rattle.text.specs.declared.Cursor.{Cursor}
use Rattle.text.specs.declared.Next.TheVariants.{Line, Unended, Done}
use Rattle.text.proofs.Parts.{part-take}
use Rattle.text.proofs.Words.{both}

-- a byte before lines is drawn before them
draw-before : (t : Bool) (b : ℕ) (ls : Lines) → eqb b 10 ≡ t → draw_lines (before t b ls) ≡ b ∷ draw_lines ls
unfolding before draw_lines
draw-before true b ls e = rw (eqb-true b 10 e)
draw-before false b nothing e = refl
draw-before false b (unended l) e = refl
draw-before false b (ended l rest) e = refl

pub draw-lines : (text : List ℕ) → draw_lines (lines text) ≡ text
unfolding lines draw_lines
draw-lines [] = refl
draw-lines (b ∷ text) = draw-before (eqb b 10) b (lines text) refl ∙ ap (λ (l : List ℕ). b ∷ l) (draw-lines text)

-- a line ends at the first LF
pub lines_ended : (l rest : List ℕ) → no_lf l ≡ true → lines (l ++ 10 ∷ rest) ≡ ended l (lines rest)
unfolding lines before no_lf
lines_ended [] rest h = refl
lines_ended (b ∷ l) rest h =
    let p = both (not (eqb b 10)) (no_lf l) h in
    rw (not-true (eqb b 10) p.0, lines_ended l rest p.1)

-- bytes with no LF behind them are a line whose LF is missing
pub lines_unended : (b : ℕ) (l : List ℕ) → no_lf (b ∷ l) ≡ true → lines (b ∷ l) ≡ unended (b ∷ l)
unfolding lines before no_lf
lines_unended b [] h =
    let p = both (not (eqb b 10)) (no_lf []) h in
    rw (not-true (eqb b 10) p.0)
lines_unended b (c ∷ l) h =
    let p = both (not (eqb b 10)) (no_lf (c ∷ l)) h in
    ap (λ (t : Bool). before t b (lines (c ∷ l))) (not-true (eqb b 10) p.0)
    ∙ ap (before false b) (lines_unended c l p.1)

-- what the first line of a text says of its bytes
pub record FirstEnded (s l : List ℕ) (rest : Lines) : Type 0 where
  pub bytes : take (length l) s ≡ l
  pub behind : lines (drop (length l + 1) s) ≡ rest
  pub clean : no_lf l ≡ true

first-before : (t : Bool) (b : ℕ) (s : List ℕ) (ls : Lines) (l : List ℕ) (rest : Lines) → eqb b 10 ≡ t → ls ≡ lines s
    → ((k : List ℕ) (r : Lines) → ls ≡ ended k r → FirstEnded s k r)
    → before t b ls ≡ ended l rest → FirstEnded (b ∷ s) l rest
unfolding before no_lf
first-before true b s ls l rest e q ih h =
    let p : l ≡ [] = cc in
    let r : ls ≡ rest = cc in
    rw p (record { bytes = refl; behind = sym q ∙ r; clean = refl })
first-before false b s nothing l rest e q ih h = let z : ◌≡◌ {A = ℕ} 0 1 = cc in absurd (omega arith)
first-before false b s (unended k) l rest e q ih h = let z : ◌≡◌ {A = ℕ} 0 1 = cc in absurd (omega arith)
first-before false b s (ended k r) l rest e q ih h =
    let f = ih k r refl in
    let p : l ≡ b ∷ k = cc in
    let o : r ≡ rest = cc in
    rw p (record {
      bytes = ap (λ (x : List ℕ). b ∷ x) f.bytes;
      behind = rw (suc-add (length k) 1) (f.behind ∙ o);
      clean = rw (e, f.clean);
    })

pub first_ended : (s l : List ℕ) (rest : Lines) → lines s ≡ ended l rest → FirstEnded s l rest
unfolding lines
first_ended [] l rest h = let z : ◌≡◌ {A = ℕ} 0 1 = cc in absurd (omega arith)
first_ended (b ∷ s) l rest h = first-before (eqb b 10) b s (lines s) l rest refl refl (λ k r e. first_ended s k r e) h

pub first_unended : (s l : List ℕ) → lines s ≡ unended l → s ≡ l
unfolding draw_lines
first_unended s l h = sym (draw-lines s) ∙ ap draw_lines h

unended_some : (s l : List ℕ) → lines s ≡ unended l → 1 ≤ length s
unfolding lines
unended_some [] l h = let z : ◌≡◌ {A = ℕ} 0 1 = cc in absurd (omega arith)
unended_some (b ∷ s) l h = omega arith

-- the place behind a first line lies within the text
first-length : (s l : List ℕ) (rest : Lines) → lines s ≡ ended l rest → length l + 1 ≤ length s
unfolding draw_lines
first-length s l rest h =
    let e : s ≡ l ++ 10 ∷ draw_lines rest = sym (draw-lines s) ∙ ap draw_lines h in
    rw (e, length-append l (10 ∷ draw_lines rest)) (omega arith)

-- what a line that was handed out says: it is the first of the lines at the cursor, and the others stand at the next cursor
pub record LineAt (text : List ℕ) (c : Cursor) (start end number : ℕ) (next : Cursor) : Type 0 where
  pub begins : start ≡ c.at
  pub numbered : number ≡ c.number
  pub counted : next.number ≡ next_number c.number
  pub first : lines (drop c.at text) ≡ ended (part text start end) (lines (drop next.at text))
  pub ends : next.at ≡ end + 1
  pub onward : start ≤ end
  pub inside : next.at ≤ length text

-- what bytes behind the last LF say: they are all that stands at the cursor
pub record UnendedAt (text : List ℕ) (c : Cursor) (start end number : ℕ) : Type 0 where
  pub begins : start ≡ c.at
  pub numbered : number ≡ c.number
  pub first : lines (drop c.at text) ≡ unended (part text start end)
  pub ends : end ≡ length text
  pub more : start < end

module _ (text : List ℕ) (c : Cursor) where
  line_ended : (l : List ℕ) (rest : Lines) (start end number : ℕ) (next : Cursor) → lines (drop c.at text) ≡ ended l rest
      → hand_out c (ended l rest) ≡ Line start end number next → LineAt text c start end number next
  unfolding hand_out
  line_ended l rest start end number next h e =
      let a : start ≡ c.at = cc in
      let b : end ≡ c.at + length l = cc in
      let f = first_ended (drop c.at text) l rest h in
      let n : next ≡ record { at = c.at + length l + 1; number = next_number c.number } = cc in
      let m : next.at ≡ c.at + length l + 1 = ap (λ (x : Cursor). x.at) n in
      let bytes : part text start end ≡ l = rw (a, b) (part-take text c.at (length l) ∙ f.bytes) in
      let there : drop next.at text ≡ drop (length l + 1) (drop c.at text) = rw (m, add_assoc c.at (length l) 1) (sym (drop-drop (length l + 1) c.at text)) in
      record {
        begins = a;
        numbered = cc;
        counted = ap (λ (x : Cursor). x.number) n;
        first = rw (bytes, there, f.behind) h;
        ends = rw (m, b);
        onward = omega arith;
        inside = omega (arith, first-length (drop c.at text) l rest h, length-drop c.at text);
      }

  -- by the answer: a line with its LF
  pub scanned_line : (start end number : ℕ) (next : Cursor) → next_line text c ≡ Line start end number next → LineAt text c start end number next
  unfolding next_line hand_out
  scanned_line start end number next h = go (lines (drop c.at text)) refl h
    where
      go : (ls : Lines) → lines (drop c.at text) ≡ ls → hand_out c ls ≡ Line start end number next → LineAt text c start end number next
      go nothing q e = let z : ◌≡◌ {A = ℕ} 0 1 = cc in absurd (omega arith)
      go (unended l) q e = let z : ◌≡◌ {A = ℕ} 0 1 = cc in absurd (omega arith)
      go (ended l rest) q e = line_ended l rest start end number next q e

  line_unended : (l : List ℕ) (start end number : ℕ) → lines (drop c.at text) ≡ unended l
      → hand_out c (unended l) ≡ Unended start end number → UnendedAt text c start end number
  unfolding hand_out
  line_unended l start end number h e =
      let a : start ≡ c.at = cc in
      let b : end ≡ c.at + length l = cc in
      let f : drop c.at text ≡ l = first_unended (drop c.at text) l h in
      let some : 1 ≤ length (drop c.at text) = unended_some (drop c.at text) l h in
      let n : length (drop c.at text) ≡ length text - c.at = length-drop c.at text in
      let m : length (drop c.at text) ≡ length l = ap length f in
      let bytes : part text start end ≡ l = rw (a, b) (part-take text c.at (length l) ∙ rw (f, take-length l)) in
      record { begins = a; numbered = cc; first = rw bytes h; ends = omega arith; more = omega arith }

  -- bytes behind the last LF, up to the text's end
  pub scanned_unended : (start end number : ℕ) → next_line text c ≡ Unended start end number → UnendedAt text c start end number
  unfolding next_line hand_out
  scanned_unended start end number h = go (lines (drop c.at text)) refl h
    where
      go : (ls : Lines) → lines (drop c.at text) ≡ ls → hand_out c ls ≡ Unended start end number → UnendedAt text c start end number
      go nothing q e = let z : ◌≡◌ {A = ℕ} 0 1 = cc in absurd (omega arith)
      go (unended l) q e = line_unended l start end number q e
      go (ended l rest) q e = let z : ◌≡◌ {A = ℕ} 0 1 = cc in absurd (omega arith)

  -- nothing is left
  pub scanned_done : (number : ℕ) → next_line text c ≡ Done number → (lines (drop c.at text) ≡ nothing) × (number ≡ c.number) × (length text ≤ c.at)
  unfolding next_line hand_out draw_lines
  scanned_done number h = go (lines (drop c.at text)) refl h
    where
      go : (ls : Lines) → lines (drop c.at text) ≡ ls → hand_out c ls ≡ Done number → (lines (drop c.at text) ≡ nothing) × (number ≡ c.number) × (length text ≤ c.at)
      go nothing q e =
          let f : drop c.at text ≡ [] = sym (draw-lines (drop c.at text)) ∙ ap draw_lines q in
          (q, cc, omega (arith, length-drop c.at text, ap length f))
      go (unended l) q e = let z : ◌≡◌ {A = ℕ} 0 1 = cc in absurd (omega arith)
      go (ended l rest) q e = let z : ◌≡◌ {A = ℕ} 0 1 = cc in absurd (omega arith)

-- the first line by where its LF stands
first_at : (s : List ℕ) (n : ℕ) → n < length s → get_or s n 0 ≡ 10 → no_lf (take n s) ≡ true → lines s ≡ ended (take n s) (lines (drop (n + 1) s))
first_at s n inside h clean =
    let d : drop n s ≡ 10 ∷ drop (n + 1) s = drop-cons s n 0 inside ∙ rw (h, add-one n) in
    ap lines (sym (take-append-drop n s) ∙ ap (λ (l : List ℕ). take n s ++ l) d) ∙ lines_ended (take n s) (drop (n + 1) s) clean

-- what is answered, by the bytes that are left at the cursor
module _ (text : List ℕ) (c : Cursor) (rest : List ℕ) (there : rest ≡ drop c.at text) where
  pub lf_found : (n : ℕ) → n < length rest → get_or rest n 0 ≡ 10 → no_lf (take n rest) ≡ true
      → Line c.at (c.at + n) c.number (record { at = c.at + n + 1; number = next_number c.number }) ≡ next_line text c
  unfolding next_line hand_out
  lf_found n inside h clean =
      let l : n ≡ length (take n rest) = sym (length-take-le n rest (omega arith)) in
      ap (λ (k : ℕ). Line c.at (c.at + k) c.number (record { at = c.at + k + 1; number = next_number c.number })) l
      ∙ sym (ap (hand_out c) (ap lines (sym there) ∙ first_at rest n inside h clean))

  pub lf_missing : 1 ≤ length rest → no_lf rest ≡ true → Unended c.at (c.at + length rest) c.number ≡ next_line text c
  unfolding next_line hand_out
  lf_missing some clean = go rest some clean there
    where
      go : (l : List ℕ) → 1 ≤ length l → no_lf l ≡ true → l ≡ drop c.at text → Unended c.at (c.at + length l) c.number ≡ hand_out c (lines (drop c.at text))
      go [] some clean e = absurd (omega arith)
      go (b ∷ l) some clean e = sym (ap (hand_out c) (ap lines (sym e) ∙ lines_unended b l clean))

  pub nothing_left : length rest ≡ 0 → Done c.number ≡ next_line text c
  unfolding next_line hand_out lines
  nothing_left none = go rest none there
    where
      go : (l : List ℕ) → length l ≡ 0 → l ≡ drop c.at text → Done c.number ≡ hand_out c (lines (drop c.at text))
      go [] none e = sym (ap (λ (k : List ℕ). hand_out c (lines k)) (sym e))
      go (b ∷ l) none e = absurd (omega arith)
