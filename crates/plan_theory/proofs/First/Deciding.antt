-- A reading of lines decides by a line: no row applies above it, and nothing below it matters. Carried over line by line. Assumes nothing.
use Prim.Native.Nat.{ℕ, zero, suc, ◌≤◌, ◌<◌}
use mathlib.Core.Path.{◌≡◌, refl, sym, ap, ◌∙◌}
use mathlib.Core.List.{List}
use native.Mathlib.Omega.{arith}
use Rattle.rules.proofs.Laws.Clash.{clash}
use Rattle.text.specs.Line.{Lines, nothing, unended, ended, next_number}
use Rattle.text.specs.declared.Cursor.{Cursor}
use Rattle.plan.specs.Answer.{Taken, Refused}
use Rattle.plan.specs.Reading.{Read}
use Rattle.plan_theory.specs.First.{first_lines}
use Rattle.plan_theory.proofs.First.Places.{same_none, same_unended, same_ended, Plans, Headed, Follows, Says, says_1, Clean, Step, Among, step_over, carried, clean_over, behind-line, at_same_line}

-- the number of the line behind k lines
unfoldable pub later : ℕ → ℕ → ℕ
later zero n = n
later (suc k) n = later k (next_number n)

-- f, a reading of lines from a place on, refuses ls at line N with m, and that line decides
pub record Decided (P : Plans) (f : Lines → Read) (ls : Lines) (n N m : ℕ) : Type 0 where
  pub above : ℕ
  pub its_number : N ≡ later above n
  pub none_above : (f (first_lines above ls)).answer ≡ Refused N 1
  pub none_below : (other : Lines) → first_lines (suc above) other ≡ first_lines (suc above) ls → (f other).answer ≡ Refused N m
  -- the row that says so, a plan that no row refuses above it, and no plan whole above it
  pub row : Says P ls (suc above) m
  pub clean : Clean P ls above
  pub whole : (k : ℕ) (d : Follows P ls k) → P.size d.what ≡ k → above < k

unfoldable pub Decides : Plans → (Lines → Read) → Lines → ℕ → Type 0
Decides P f ls n = (N m : ℕ) → (f ls).answer ≡ Refused N m → Decided P f ls n N m

-- what a reading does at a whole line: it says no, it takes the plan, or it goes on with another reading
pub data AtLine (P : Plans) (f : Lines → Read) (c : Cursor) (l : List ℕ) (rest : Lines) : Type 1 where
  says : (m : ℕ) → ((after : Lines) → (f (ended l after)).answer ≡ Refused c.number m) → Says P (ended l rest) 1 m → AtLine P f c l rest
  takes : (x y a b : ℕ) → ((after : Lines) → (f (ended l after)).answer ≡ Taken x y a b) → AtLine P f c l rest
  goes : (Q : Plans) → Step P l Q → (g : Lines → Read) → ((after : Lines) → f (ended l after) ≡ g after)
      → Decides Q g rest (next_number c.number) → AtLine P f c l rest

-- where a line is missing or unended, f says 1, and each plan begins with a whole line; some plan is refused by no row
pub record Starts (P : Plans) (f : Lines → Read) (c : Cursor) : Type 0 where
  pub at_end : (f nothing).answer ≡ Refused c.number 1
  pub at_unended : (l : List ℕ) → (f (unended l)).answer ≡ Refused c.number 1
  pub begins : (w : P.What) (r : Lines) → (l : List ℕ) × (after : Lines) × (P.drawn w r ≡ ended l after)
  pub sized : (w : P.What) → 1 ≤ P.size w
  pub what : P.What
  pub headed : Headed P what
  pub fits : P.fits what

module _ (P : Plans) (f : Lines → Read) (c : Cursor) (start : Starts P f c) where
  clean_start : (ls : Lines) → Clean P ls 0
  unfolding first_lines
  clean_start ls = record { it = record { what = start.what; rest = nothing; same = refl }; headed = start.headed; fits = start.fits }

  whole_start : (ls : Lines) (k : ℕ) (d : Follows P ls k) → P.size d.what ≡ k → 0 < k
  whole_start ls k d e = let s = start.sized d.what in omega arith

  none_begins : Follows P nothing 1 → ⊥
  unfolding first_lines
  none_begins d =
      let b = start.begins d.what d.rest in
      let e = same_none (P.drawn d.what d.rest) (sym d.same) in
      let q = b.2 in
      clash (cc)

  unended_begins : (l : List ℕ) → Follows P (unended l) 1 → ⊥
  unfolding first_lines
  unended_begins l d =
      let b = start.begins d.what d.rest in
      let e = same_unended l (P.drawn d.what d.rest) (sym d.same) in
      let q = b.2 in
      clash (cc)

  pub decides_none : Decides P f nothing c.number
  unfolding Decides first_lines later
  decides_none N m e =
      let q = start.at_end in
      let number : N ≡ c.number = cc in
      let one : 1 ≡ m = cc in
      record {
        above = 0;
        its_number = number;
        none_above = q ∙ ap (λ (i : ℕ). Refused i 1) (sym number);
        none_below = λ other s. ap (λ (x : Lines). (f x).answer) (same_none other s) ∙ e;
        row = rw (← one) (says_1 none_begins);
        clean = clean_start nothing;
        whole = whole_start nothing;
      }

  pub decides_unended : (l : List ℕ) → Decides P f (unended l) c.number
  unfolding Decides first_lines later
  decides_unended l N m e =
      let q = start.at_unended l in
      let number : N ≡ c.number = cc in
      let one : 1 ≡ m = cc in
      record {
        above = 0;
        its_number = number;
        none_above = start.at_end ∙ ap (λ (i : ℕ). Refused i 1) (sym number);
        none_below = λ other s. ap (λ (x : Lines). (f x).answer) (same_unended l other s) ∙ e;
        row = rw (← one) (says_1 (unended_begins l));
        clean = clean_start (unended l);
        whole = whole_start (unended l);
      }

  whole_over : (Q : Plans) (l : List ℕ) (rest : Lines) → Step P l Q → (above : ℕ)
      → ((k : ℕ) (d : Follows Q rest k) → Q.size d.what ≡ k → above < k)
      → (k : ℕ) (d : Follows P (ended l rest) k) → P.size d.what ≡ k → suc above < k
  whole_over Q l rest step above h zero d e = absurd (let s = start.sized d.what in omega arith)
  whole_over Q l rest step above h (suc k) d e =
      let b = (behind-line step rest k).below d in
      let s = b.1.size in
      let z = h k b.0 (omega arith) in
      omega arith

  pub decides_ended : (l : List ℕ) (rest : Lines) → AtLine P f c l rest → Decides P f (ended l rest) c.number
  unfolding Decides first_lines later
  decides_ended l rest (says k h row) N m e =
      let q = h rest in
      let number : N ≡ c.number = cc in
      let same : m ≡ k = cc in
      record {
        above = 0;
        its_number = number;
        none_above = start.at_end ∙ ap (λ (i : ℕ). Refused i 1) (sym number);
        none_below = λ other s.
            (let o = same_ended 0 l rest other s in
            ap (λ (x : Lines). (f x).answer) o.is ∙ h o.after ∙ ap (λ (i : ℕ). Refused i k) (sym number) ∙ ap (Refused N) (sym same));
        row = rw same row;
        clean = clean_start (ended l rest);
        whole = whole_start (ended l rest);
      }
  decides_ended l rest (takes x y a b h) N m e = let q = h rest in clash (cc)
  decides_ended l rest (goes Q step g h d) N m e =
      let D = d N m (sym (ap (λ (r : Read). r.answer) (h rest)) ∙ e) in
      record {
        above = suc D.above;
        its_number = D.its_number;
        none_above = ap (λ (r : Read). r.answer) (h (first_lines D.above rest)) ∙ D.none_above;
        none_below = λ other s.
            (let o = same_ended (suc D.above) l rest other s in
            ap (λ (x : Lines). (f x).answer) o.is ∙ ap (λ (r : Read). r.answer) (h o.after) ∙ D.none_below o.after o.same);
        row = carried (behind-line step rest (suc D.above)) D.row;
        clean = clean_over (behind-line step rest D.above) D.clean;
        whole = whole_over Q l rest step D.above D.whole;
      }

-- a place: how it starts, and what a reading does at each whole line
pub record Place (P : Plans) (f : Lines → Read) (c : Cursor) : Type 1 where
  pub starts : Starts P f c
  pub at_line : (l : List ℕ) (rest : Lines) → AtLine P f c l rest

-- whichever line stands there
pub decides : {P : Plans} {f : Lines → Read} {c : Cursor} → Place P f c → (ls : Lines) → Decides P f ls c.number
decides {P} {f} {c} p nothing = decides_none P f c p.starts
decides {P} {f} {c} p (unended l) = decides_unended P f c p.starts l
decides {P} {f} {c} p (ended l rest) = decides_ended P f c p.starts l rest (p.at_line l rest)

-- where the plans that begin with a line are those of another place, and the readings are the same there
pub same_line : {P Q : Plans} {f g : Lines → Read} {c : Cursor} {l : List ℕ} {rest : Lines} → Among P l Q
    → ((after : Lines) → f (ended l after) ≡ g (ended l after)) → AtLine Q g c l rest → AtLine P f c l rest
same_line {rest = rest} a e (says m h row) = says m (λ after. ap (λ (r : Read). r.answer) (e after) ∙ h after) (carried (at_same_line a rest 0) row)
same_line a e (takes x y at line h) = takes x y at line (λ after. ap (λ (r : Read). r.answer) (e after) ∙ h after)
same_line a e (goes S step g h d) = goes S (step_over a step) g (λ after. e after ∙ h after) d
