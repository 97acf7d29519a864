-- What may still follow at a place of a plan, line by line: the plans that can be drawn from there on, and which row
-- applies to a line because of them. A line leads from one place to the next and ties the plans of both; where a line may
-- be missing, the plans that begin with a line are those of another place at the same line. Assumes nothing.
use Prim.Native.Nat.{ℕ, suc, ◌+◌}
use mathlib.Core.Path.{◌≡◌, refl, sym, ap, ◌∙◌}
use mathlib.Core.Logic.{◌↔◌}
use mathlib.Core.List.{List}
use native.Mathlib.Omega.{arith}
use Rattle.rules.proofs.Laws.Clash.{clash}
use Rattle.text.specs.Line.{Lines, nothing, unended, ended}
use Rattle.plan_theory.specs.First.{first_lines}

-- which lines have the same first line as these
pub same_none : (other : Lines) → first_lines 1 other ≡ nothing → other ≡ nothing
unfolding first_lines
same_none nothing e = refl
same_none (unended l) e = clash (cc)
same_none (ended l rest) e = clash (cc)

pub same_unended : (l : List ℕ) (other : Lines) → first_lines 1 other ≡ unended l → other ≡ unended l
unfolding first_lines
same_unended l nothing e = clash (cc)
same_unended l (unended k) e = e
same_unended l (ended k rest) e = clash (cc)

pub record SameEnded (n : ℕ) (l : List ℕ) (rest other : Lines) : Type 0 where
  pub after : Lines
  pub is : other ≡ ended l after
  pub same : first_lines n after ≡ first_lines n rest

pub same_ended : (n : ℕ) (l : List ℕ) (rest other : Lines) → first_lines (suc n) other ≡ first_lines (suc n) (ended l rest) → SameEnded n l rest other
unfolding first_lines
same_ended n l rest nothing e = clash (cc)
same_ended n l rest (unended k) e = clash (cc)
same_ended n l rest (ended k after) e = record { after = after; is = cc; same = cc }

-- The plans that can be drawn from a place on, in front of what follows them: whether the framing is known, the figures are
-- good and the tree fits, how many lines are still to come, and how many nodes the whole plan has.
pub record Plans : Type 1 where
  pub What : Type 0
  pub drawn : What → Lines → Lines
  pub framed : What → Type 0
  pub good : What → Type 0
  pub fits : What → Type 0
  pub size : What → ℕ
  pub nodes : What → ℕ

-- the header has nothing that a row refuses
abbrev pub Headed : (P : Plans) → P.What → Type 0
Headed P w = P.framed w × P.good w

-- the first n lines are those of one of these plans
pub record Follows (P : Plans) (ls : Lines) (n : ℕ) : Type 0 where
  pub what : P.What
  pub rest : Lines
  pub same : first_lines n ls ≡ first_lines n (P.drawn what rest)

-- the row that decides at line n
pub data Says (P : Plans) (ls : Lines) (n : ℕ) : ℕ → Type 0 where
  says_1 : (Follows P ls n → ⊥) → Says P ls n 1
  says_4 : Follows P ls n → ((x : Follows P ls n) → P.framed x.what → ⊥) → Says P ls n 4
  says_2 : (d : Follows P ls n) → P.framed d.what → ((x : Follows P ls n) → P.good x.what → ⊥) → Says P ls n 2
  says_3 : (d : Follows P ls n) → Headed P d.what → ((x : Follows P ls n) → P.fits x.what → ⊥) → Says P ls n 3
  says_3_node : (d : Follows P ls n) → Headed P d.what → P.size d.what ≡ n → P.nodes d.what ≡ 0 → Says P ls n 3

-- the first n lines are those of a plan that no row refuses
pub record Clean (P : Plans) (ls : Lines) (n : ℕ) : Type 0 where
  pub it : Follows P ls n
  pub headed : Headed P it.what
  pub fits : P.fits it.what

-- plan w at one place is plan v at another, behind `count` lines that `front` puts before it
pub record Alike (P : Plans) (front : Lines → Lines) (count : ℕ) (Q : Plans) (w : P.What) (v : Q.What) : Type 0 where
  pub drawn : (r : Lines) → P.drawn w r ≡ front (Q.drawn v r)
  pub framed : P.framed w ↔ Q.framed v
  pub good : P.good w ↔ Q.good v
  pub fits : P.fits w ↔ Q.fits v
  pub size : P.size w ≡ count + Q.size v
  pub nodes : P.nodes w ≡ Q.nodes v

-- every plan of P that begins with line l is one of Q, behind the lines of `front`, and every plan of Q is one of P so
pub record Leads (P : Plans) (l : List ℕ) (front : Lines → Lines) (count : ℕ) (Q : Plans) : Type 0 where
  pub down : (w : P.What) (r after : Lines) → P.drawn w r ≡ ended l after → (v : Q.What) × Alike P front count Q w v
  pub up : (v : Q.What) → (w : P.What) × Alike P front count Q w v

-- line l leads from one place to the next, whose plans are behind it
abbrev pub Tied : (P : Plans) → List ℕ → (Q : Plans) → P.What → Q.What → Type 0
Tied P l Q w v = Alike P (ended l) 1 Q w v

abbrev pub Step : Plans → List ℕ → Plans → Type 0
Step P l Q = Leads P l (ended l) 1 Q

-- or the plans of one place that begin with line l are those of another place at the same line
abbrev pub Same : (P Q : Plans) → P.What → Q.What → Type 0
Same P Q w v = Alike P (λ x. x) 0 Q w v

abbrev pub Among : Plans → List ℕ → Plans → Type 0
Among P l Q = Leads P l (λ x. x) 0 Q

pub step_over : {P : Plans} {l : List ℕ} {A Q : Plans} → Among P l A → Step A l Q → Step P l Q
step_over {P} {l} {A} {Q} a step =
    record {
      down = λ w r after e.
          (let v = a.down w r after e in
          let u = step.down v.0 r after (sym (v.1.drawn r) ∙ e) in
          (u.0, joined w v.0 u.0 v.1 u.1));
      up = λ u.
          (let v = step.up u in
          let w = a.up v.0 in
          (w.0, joined w.0 v.0 u w.1 v.1));
    }
  where
    joined : (w : P.What) (v : A.What) (u : Q.What) → Same P A w v → Tied A l Q v u → Tied P l Q w u
    joined w v u s t =
        record {
          drawn = λ r. s.drawn r ∙ t.drawn r;
          framed = (λ x. t.framed.0 (s.framed.0 x), λ x. s.framed.1 (t.framed.1 x));
          good = (λ x. t.good.0 (s.good.0 x), λ x. s.good.1 (t.good.1 x));
          fits = (λ x. t.fits.0 (s.fits.0 x), λ x. s.fits.1 (t.fits.1 x));
          size = omega (arith, s.size, t.size);
          nodes = s.nodes ∙ t.nodes;
        }

inside : (l : List ℕ) (a b : Lines) → ended l a ≡ ended l b → a ≡ b
inside l a b e = cc

-- which row decides at a first line, by the plans that begin with it
module _ (P : Plans) (l : List ℕ) (rest : Lines) where
  begins_with_lem : (w : P.What) (r after : Lines) → P.drawn w r ≡ ended l after → Follows P (ended l rest) 1
  unfolding first_lines
  begins_with_lem w r after e = record { what = w; rest = r; same = sym (ap (first_lines 1) e) }

  -- what holds of every plan that begins with the line holds of each that follows
  each : (A : P.What → Type 0) → ((w : P.What) (r after : Lines) → P.drawn w r ≡ ended l after → A w) → (d : Follows P (ended l rest) 1) → A d.what
  each A h d =
      let o = same_ended 0 l rest (P.drawn d.what d.rest) (sym d.same) in
      h d.what d.rest o.after o.is

  pub unformed : ((w : P.What) (r after : Lines) → P.drawn w r ≡ ended l after → ⊥) → Says P (ended l rest) 1 1
  unformed h = says_1 (each (λ w. ⊥) h)

  module _ (w : P.What) (r after : Lines) (e : P.drawn w r ≡ ended l after) where
    pub passed : Headed P w → ((w : P.What) (r after : Lines) → P.drawn w r ≡ ended l after → P.fits w → ⊥) → Says P (ended l rest) 1 3
    unfolding begins_with_lem
    passed g h = says_3 (begins_with_lem w r after e) g (each (λ w. P.fits w → ⊥) h)

    pub nodeless : Headed P w → P.size w ≡ 1 → P.nodes w ≡ 0 → Says P (ended l rest) 1 3
    unfolding begins_with_lem
    nodeless g s z = says_3_node (begins_with_lem w r after e) g s z

-- which row decides at no line yet, by every plan
module _ (P : Plans) (w : P.What) where
  pub unframed : ((v : P.What) → P.framed v → ⊥) → (ls : Lines) → Says P ls 0 4
  unfolding first_lines
  unframed h ls = says_4 (record { what = w; rest = nothing; same = refl }) (λ d f. h d.what f)

  pub out_of_range : P.framed w → ((v : P.What) → P.good v → ⊥) → (ls : Lines) → Says P ls 0 2
  unfolding first_lines
  out_of_range f h ls = says_2 (record { what = w; rest = nothing; same = refl }) f (λ d g. h d.what g)

-- the plans whose first lines are these n are those whose first lines are those m, behind `count` lines
pub record Linked (P : Plans) (ls : Lines) (n : ℕ) (front : Lines → Lines) (count : ℕ) (Q : Plans) (ks : Lines) (m : ℕ) : Type 0 where
  pub lines : n ≡ count + m
  pub below : (d : Follows P ls n) → (x : Follows Q ks m) × Alike P front count Q d.what x.what
  pub over : (d : Follows Q ks m) → (x : Follows P ls n) × Alike P front count Q x.what d.what

-- then what decides the one decides the other
module _ {P : Plans} {ls : Lines} {n : ℕ} {front : Lines → Lines} {count : ℕ} {Q : Plans} {ks : Lines} {m : ℕ} (k : Linked P ls n front count Q ks m) where
  headed_over : (w : P.What) (v : Q.What) → Alike P front count Q w v → Headed Q v → Headed P w
  headed_over w v a g = (a.framed.1 g.0, a.good.1 g.1)

  pub carried : {row : ℕ} → Says Q ks m row → Says P ls n row
  carried (says_1 h) = says_1 (λ d. h (k.below d).0)
  carried (says_4 d h) = says_4 (k.over d).0 (λ x f. h (k.below x).0 ((k.below x).1.framed.0 f))
  carried (says_2 d f h) = says_2 (k.over d).0 ((k.over d).1.framed.1 f) (λ x g. h (k.below x).0 ((k.below x).1.good.0 g))
  carried (says_3 d g h) =
      says_3 (k.over d).0 (headed_over _ _ (k.over d).1 g) (λ x f. h (k.below x).0 ((k.below x).1.fits.0 f))
  carried (says_3_node d g s z) =
      let o = k.over d in
      let e = k.lines in
      says_3_node o.0 (headed_over _ _ o.1 g) (omega (arith, o.1.size)) (o.1.nodes ∙ z)

  pub clean_over : Clean Q ks m → Clean P ls n
  clean_over c =
      let o = k.over c.it in
      record { it = o.0; headed = headed_over _ _ o.1 c.headed; fits = o.1.fits.1 c.fits }

-- a line in front
pub behind-line : {P Q : Plans} {l : List ℕ} → Step P l Q → (rest : Lines) (n : ℕ) → Linked P (ended l rest) (suc n) (ended l) 1 Q rest n
unfolding first_lines
behind-line {P} {Q} {l} step rest n =
    record {
      lines = omega arith;
      below = λ d.
          (let o = same_ended n l rest (P.drawn d.what d.rest) (sym d.same) in
          let v = step.down d.what d.rest o.after o.is in
          let e = inside l o.after (Q.drawn v.0 d.rest) (sym o.is ∙ v.1.drawn d.rest) in
          (record { what = v.0; rest = d.rest; same = sym o.same ∙ ap (first_lines n) e }, v.1));
      over = λ d.
          (let w = step.up d.what in
          (record { what = w.0; rest = d.rest; same = ap (ended l) d.same ∙ sym (ap (first_lines (suc n)) (w.1.drawn d.rest)) }, w.1));
    }

-- no line in front
pub at_same_line : {P Q : Plans} {l : List ℕ} → Among P l Q → (rest : Lines) (n : ℕ)
    → Linked P (ended l rest) (suc n) (λ x. x) 0 Q (ended l rest) (suc n)
at_same_line {P} {Q} {l} a rest n =
    record {
      lines = omega arith;
      below = λ d.
          (let o = same_ended n l rest (P.drawn d.what d.rest) (sym d.same) in
          let v = a.down d.what d.rest o.after o.is in
          (record { what = v.0; rest = d.rest; same = d.same ∙ ap (first_lines (suc n)) (v.1.drawn d.rest) }, v.1));
      over = λ d.
          (let w = a.up d.what in
          (record { what = w.0; rest = d.rest; same = d.same ∙ sym (ap (first_lines (suc n)) (w.1.drawn d.rest)) }, w.1));
    }
