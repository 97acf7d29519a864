-- A text that is taken starts with the drawing of a tree within the limits, behind a good header. Assumes nothing.
use Prim.Native.Nat.{ℕ, ◌+◌, ◌≤◌}
use mathlib.Core.Path.{◌≡◌, refl, sym, ap, ◌∙◌, subst}
use mathlib.Core.Bool.{Bool, true, false, ◌&&◌}
use mathlib.Core.List.{List, [], ◌∷◌}
use mathlib.Core.Option.{Option, none, some}
use native.Mathlib.Omega.{arith}
use borrow.Author.Tests.{leb-true, eqb-true, eqb-false}
use lib.Dec.{eqb, leb}
use lib.ListN.{length, drop, get_or}
use Rattle.std.specs.Prelude.{if◌then◌else◌}
use Rattle.rules.specs.Plan.{longest_in}
use Rattle.text.specs.Line.{Lines, nothing, unended, ended, lines}
use Rattle.text.specs.Form.{draw_form, read_form}
use Rattle.text.specs.declared.Cursor.{Cursor}
use Rattle.text.proofs.Words.{both}
use Rattle.text.proofs.Forms.{form_law}
use Rattle.plan_tree.specs.declared.Kind.{Kind}
use Rattle.plan_tree.specs.declared.Kind.TheVariants.{Close, Node, Empty, Hub as HubKind, Other}
use Rattle.plan.specs.Answer.{Taken}
use Rattle.plan_tree.specs.declared.Place.{Place}
use Rattle.plan_tree.specs.Part.{Part, Read, Stopped}
use Rattle.plan_tree.specs.Kind.{kind_of, hub_word, is_hub}
use Rattle.plan.specs.Words.{frame_word, overhead_word, interrupt_word, framing_word, strict_word}
use Rattle.plan_tree.specs.Tables.{no_table, put_root}
use Rattle.plan.specs.Reading as reading
use Rattle.plan.specs.Tables.{Figures}
use Rattle.plan.specs.Reading.{next, refusal, on_line, figure, optional, where_form, unless_row, framing_row, begun, hub_lines, root_line, strict_line, framing_line, interrupt_line, overhead_line, frame_line}
use Rattle.plan_tree.specs.Readers.{Answered, hub_reader}
use Rattle.plan_theory.specs.Tree.{Header, figures_of, meant, one_number, no_number, draw_optional, Hub, draw, draw_hub, limits, good_framing}
use Rattle.plan_theory.specs.Taken.{DrawnBy}
use Rattle.plan_theory.proofs.Tree.Room.{room_limits}
use Rattle.plan.proofs.Reading.Agree.{first, over, hub_agrees}
use Rattle.plan_theory.proofs.Tree.Trees.{Drawing, kind_line, HubRead, TreeRead, hub_tree}
use Rattle.plan_theory.proofs.Tree.Figures.{figures, ranges_good, no_row, good_row, one_number_lem}
use Rattle.plan_theory.proofs.Tree.Optional.{Numbers, number, numberless, told, row_of, reads_on, line_of, form_of, optional_line, reads_stands, row_meant, reads_meant}

module _ (n m at line : ℕ) where
  abbrev IsTaken : reading.Read → Type 0
  IsTaken r = r.answer ≡ Taken n m at line

  -- a line that is missing is not taken
  line_taken : (ls : Lines) (c : Cursor) (f : List ℕ → Lines → reading.Read) → IsTaken (on_line ls c f)
      → (l : List ℕ) × (rest : Lines) × (ls ≡ ended l rest) × IsTaken (f l rest)
  line_taken nothing c f t = let z : ◌≡◌ {A = ℕ} 0 1 = cc in absurd (omega arith)
  line_taken (unended l) c f t = let z : ◌≡◌ {A = ℕ} 0 1 = cc in absurd (omega arith)
  line_taken (ended l rest) c f t = (l, rest, refl, t)

  -- a line that is a form is drawn from its numbers
  form_drawn : (text : List ℕ) (c : Cursor) (l form : List ℕ) (ls : Lines) → lines (drop c.at text) ≡ ended l ls → l ≡ form
      → lines (drop c.at text) ≡ ended form (lines (drop (next c l).at text))
  form_drawn text c l form ls e w = rw ((first text c l ls e).behind, ← w) e

  -- what follows a line of the header, by its value, the lines behind it and their cursor
  abbrev More : Type 0
  More = ℕ → Lines → Cursor → reading.Read

  -- a figure's line that is taken is drawn from a figure in its range
  record FigureRead (text word : List ℕ) (low high : ℕ) (c : Cursor) (more : More) : Type 0 where
    value : ℕ
    behind : Cursor
    drawn : lines (drop c.at text) ≡ ended (draw_form word (value ∷ [])) (lines (drop behind.at text))
    above : low ≤ value
    below : value ≤ high
    early : behind.number ≤ behind.at + 1
    taken : IsTaken (more value (lines (drop behind.at text)) behind)

  module _ (text word : List ℕ) (low high : ℕ) (c : Cursor) (more : More) (soon : c.number ≤ c.at + 1) where
    abbrev line-more : List ℕ → Lines → ℕ → reading.Read
    line-more l ls x = more x ls (next c l)

    ranged : (l : List ℕ) (ls : Lines) → lines (drop c.at text) ≡ ended l ls → (ns : List ℕ) → read_form word 1 l ≡ some ns
        → (b : Bool) → (leb low (get_or ns 0 0) && leb (get_or ns 0 0) high) ≡ b → IsTaken (if b then line-more l ls (get_or ns 0 0) else refusal c 2)
        → FigureRead text word low high c more
    ranged l ls e ns r false o t = let z : ◌≡◌ {A = ℕ} 0 1 = cc in absurd (omega arith)
    ranged l ls e ns r true o t =
        let x : ℕ = get_or ns 0 0 in
        let p = both (leb low x) (leb x high) o in
        let d = (form_law word 1 l ns).0 r in
        record {
          value = x;
          behind = next c l;
          drawn = form_drawn text c l (draw_form word (x ∷ [])) ls e (d.0 ∙ ap (draw_form word) (one_number_lem ns d.1));
          above = leb-true low x p.0;
          below = leb-true x high p.1;
          early = omega arith;
          taken = rw (first text c l ls e).behind t;
        }

    formed : (l : List ℕ) (ls : Lines) → lines (drop c.at text) ≡ ended l ls → (o : Option (List ℕ)) → read_form word 1 l ≡ o
        → IsTaken (figure o low high c (line-more l ls)) → FigureRead text word low high c more
    formed l ls e none r t = let z : ◌≡◌ {A = ℕ} 0 1 = cc in absurd (omega arith)
    formed l ls e (some ns) r t = ranged l ls e ns r (leb low (get_or ns 0 0) && leb (get_or ns 0 0) high) refl t

    figure_taken : IsTaken (on_line (lines (drop c.at text)) c (λ l ls. figure (read_form word 1 l) low high c (line-more l ls)))
        → FigureRead text word low high c more
    figure_taken t =
        let r = line_taken (lines (drop c.at text)) c (λ l ls. figure (read_form word 1 l) low high c (line-more l ls)) t in
        formed r.0 r.1 r.2 (read_form word 1 r.0) refl r.3

  -- a line that may be missing is drawn, and no row refuses what it says, or it isn't drawn at all
  module _ {N : Type 0} {count : ℕ} (H : Numbers N count) (text word : List ℕ) (row : ℕ → ℕ) (c : Cursor) (more : More) (absent : Lines → Cursor → reading.Read) where
    record OptionalRead : Type 0 where
      value : Option N
      behind : Cursor
      drawn : lines (drop c.at text) ≡ draw_optional word H.list value (lines (drop behind.at text))
      passed : row_of H.list row value ≡ 0
      early : behind.number ≤ behind.at + 1
      taken : IsTaken (reads_on H.list more absent value (lines (drop behind.at text)) behind)

    module _ (soon : c.number ≤ c.at + 1) where
      abbrev here : Lines
      here = lines (drop c.at text)

      without : IsTaken (absent here c) → OptionalRead
      without t = record { value = none; behind = c; drawn = refl; passed = refl; early = soon; taken = t }

      unrefused : (l : List ℕ) (ls : Lines) → here ≡ ended l ls → (x : N) → l ≡ line_of H word x
          → (b : Bool) → eqb (row (told H.list x)) 0 ≡ b
          → IsTaken (if b then more (told H.list x) ls (next c l) else refusal c (row (told H.list x))) → OptionalRead
      unrefused l ls e x w false o t = let z : ◌≡◌ {A = ℕ} 0 1 = cc in absurd (omega arith)
      unrefused l ls e x w true o t =
          record {
            value = some x;
            behind = next c l;
            drawn = form_drawn text c l (line_of H word x) ls e w;
            passed = eqb-true (row (told H.list x)) 0 o;
            early = omega arith;
            taken = rw (first text c l ls e).behind t;
          }

      optional-formed : (l : List ℕ) (ls : Lines) → here ≡ ended l ls → (o : Option (List ℕ)) → read_form word count l ≡ o
          → IsTaken (where_form o (λ x. unless_row (row x) c (more x ls (next c l))) (absent here c)) → OptionalRead
      optional-formed l ls e none r t = without t
      optional-formed l ls e (some ns) r t =
          let d = form_of H word l ns r in
          unrefused l ls e d.what d.drawn (eqb (row (told H.list d.what)) 0) refl
          (subst (λ (ms : List ℕ). IsTaken (unless_row (row (get_or ms 0 0)) c (more (get_or ms 0 0) ls (next c l)))) d.same t)

      optional_taken : IsTaken (optional_line H word row more absent here c) → OptionalRead
      optional_taken t = go here refl t
        where
          go : (ls : Lines) → here ≡ ls → IsTaken (optional word count ls (λ l rest x. unless_row (row x) c (more x rest (next c l))) (absent here c))
              → OptionalRead
          go nothing e t = without t
          go (unended l) e t = without t
          go (ended l ls) e t = optional-formed l ls e (read_form word count l) refl t

  -- the line of the root
  hub_line : (kind : Kind) (l : List ℕ) → Drawing kind l → is_hub kind ≡ true → l ≡ hub_word
  hub_line Close l d e = cc
  hub_line Node l d e = cc
  hub_line Empty l d e = cc
  hub_line HubKind l d e = d
  hub_line Other l d e = cc

  module _ (text : List ℕ) (fig : Figures) where
    -- the ports of the root, read up to its closing line
    record PortsRead (place : ℕ) : Type 0 where
      tree : Hub
      rest : Lines
      drawn : lines (drop place text) ≡ draw_hub tree rest
      within : limits tree ≡ true

    module _ (c : Cursor) where
      abbrev begin : Place
      begin = record { at = c.at; number = c.number; nodes = 0; hubs = 1 }

      noded : (k : ℕ) (y : Place) (u : List ℕ) → HubRead text begin 0 1 y → (b : Bool) → eqb y.nodes 0 ≡ b
          → IsTaken (over fig text [] k (Read y) u) → PortsRead c.at
      noded k y u r true e t = let z : ◌≡◌ {A = ℕ} 0 1 = cc in absurd (omega arith)
      noded k y u r false e t =
          let some = eqb-false y.nodes 0 e in
          record {
            tree = r.tree;
            rest = lines (drop y.at text);
            drawn = r.drawn;
            within = room_limits r.tree r.room (omega (arith, r.nodes));
          }

      ended_by : (k : ℕ) (p : Part) (u : List ℕ) → TreeRead text begin 0 1 p → IsTaken (over fig text [] k p u) → PortsRead c.at
      ended_by k (Read y) u r t = noded k y u r (eqb y.nodes 0) refl t
      ended_by k (Stopped l o) u r t = let z : ◌≡◌ {A = ℕ} 0 1 = cc in absurd (omega arith)

      ports_taken : c.number ≤ c.at → IsTaken (hub_lines fig (lines (drop c.at text)) c begun) → PortsRead c.at
      ports_taken early t =
          let a = hub_agrees fig text (length text) begin 1 0 [] 4 (put_root no_table) (omega arith) early refl in
          let d : Answered = hub_reader text (length text) begin 1 0 4 (put_root no_table) in
          let r = hub_tree text (length text) begin 1 0 4 1 (put_root no_table) refl (omega arith) (omega arith) (omega arith) in
          ended_by a.last d.part d.tables r (sym (ap (λ (x : reading.Read). x.answer) a.same) ∙ t)

    -- the root, from its line `(hub` on
    record RootRead (place : ℕ) : Type 0 where
      tree : Hub
      rest : Lines
      drawn : lines (drop place text) ≡ ended hub_word (draw_hub tree rest)
      within : limits tree ≡ true

    opened : (c : Cursor) (l : List ℕ) (ls : Lines) → lines (drop c.at text) ≡ ended l ls → c.number ≤ c.at + 1
        → (b : Bool) → is_hub (kind_of l) ≡ b → IsTaken (if b then hub_lines fig ls (next c l) begun else refusal c 1) → RootRead c.at
    opened c l ls e early false k t = let z : ◌≡◌ {A = ℕ} 0 1 = cc in absurd (omega arith)
    opened c l ls e early true k t =
        let f = first text c l ls e in
        let w : l ≡ hub_word = hub_line (kind_of l) l (kind_line l) k in
        let p = ports_taken (next c l) (omega (arith, ap length w)) (rw f.behind t) in
        let d : ls ≡ draw_hub p.tree p.rest = sym f.behind ∙ p.drawn in
        record { tree = p.tree; rest = p.rest; drawn = e ∙ (cc); within = p.within }

    root_taken : (c : Cursor) → c.number ≤ c.at + 1 → IsTaken (root_line fig (lines (drop c.at text)) c) → RootRead c.at
    unfolding root_line
    root_taken c early t =
        let r = line_taken (lines (drop c.at text)) c _ t in
        opened c r.0 r.1 r.2 early (is_hub (kind_of r.0)) refl r.3

module _ (text : List ℕ) (n m at line : ℕ) where
  abbrev start : Cursor
  start = record { at = 0; number = 1 }

  abbrev FrameRead : Type 0
  FrameRead = FigureRead n m at line text frame_word 100000 4000000 start (λ T ls c. overhead_line T ls c)

  abbrev OverheadRead : FrameRead → Type 0
  OverheadRead T = FigureRead n m at line text overhead_word 0 50000 T.behind (λ O ls c. interrupt_line T.value O ls c)

  abbrev InterruptRead : (T : FrameRead) → OverheadRead T → Type 0
  InterruptRead T O =
      FigureRead n m at line text interrupt_word (longest_in 3 + O.value) T.value O.behind (λ D ls c. framing_line T.value O.value D ls c)

  abbrev strict_behind : (T : FrameRead) (O : OverheadRead T) → InterruptRead T O → ℕ → Lines → Cursor → reading.Read
  strict_behind T O D F ls c = strict_line T.value O.value D.value F ls c

  abbrev FramingRead : (T : FrameRead) (O : OverheadRead T) → InterruptRead T O → Type 0
  FramingRead T O D =
      OptionalRead n m at line number text framing_word (framing_row O.value D.value) D.behind (strict_behind T O D) (strict_behind T O D 3)

  abbrev root_behind : (T : FrameRead) (O : OverheadRead T) (D : InterruptRead T O) → FramingRead T O D → Bool → Lines → Cursor → reading.Read
  root_behind T O D F strict ls c = root_line (figures T.value O.value D.value (meant 3 F.value) strict) ls c

  abbrev StrictRead : (T : FrameRead) (O : OverheadRead T) (D : InterruptRead T O) → FramingRead T O D → Type 0
  StrictRead T O D F =
      OptionalRead n m at line numberless text strict_word (λ x. 0) F.behind (λ x. root_behind T O D F true) (root_behind T O D F false)

  -- the header of the lines that were read
  abbrev header : (T : FrameRead) (O : OverheadRead T) (D : InterruptRead T O) (F : FramingRead T O D) → StrictRead T O D F → Header
  header T O D F S = record { frame = T.value; overhead = O.value; interrupt = D.value; framing = F.value; strict = S.value }

  -- without its line the framing is 3, for which the interrupt's own range is enough
  all_drawn : (T : FrameRead) (O : OverheadRead T) (D : InterruptRead T O) (F : FramingRead T O D) (S : StrictRead T O D F)
      → RootRead n m at line text (figures_of (header T O D F S)) S.behind.at → DrawnBy text
  unfolding draw
  all_drawn T O D F S h =
      let free = no_row (figures T.value O.value D.value 3 false) (unfold good_framing in refl) D.above in
      let p = good_row (figures_of (header T O D F S)) ((row_meant 3 (framing_row O.value D.value) free F.value).0 F.passed) in
      record {
        fig = header T O D F S;
        tree = h.tree;
        rest = h.rest;
        good = ranges_good (figures_of (header T O D F S)) (record {
          frame_low = T.above;
          frame_high = T.below;
          overhead_high = O.below;
          interrupt_low = p.1;
          interrupt_high = D.below;
        });
        framed = p.0;
        within = h.within;
        drawn =
            T.drawn
            ∙ ap (ended (draw_form frame_word (T.value ∷ [])))
            (O.drawn
            ∙ ap (ended (draw_form overhead_word (O.value ∷ [])))
            (D.drawn
            ∙ ap (ended (draw_form interrupt_word (D.value ∷ [])))
            (F.drawn
            ∙ ap (draw_optional framing_word one_number F.value) (S.drawn ∙ ap (draw_optional strict_word no_number S.value) h.drawn))));
      }

  strict_drawn : (T : FrameRead) (O : OverheadRead T) (D : InterruptRead T O) (F : FramingRead T O D) → StrictRead T O D F → DrawnBy text
  strict_drawn T O D F S =
      let same = reads_stands (root_behind T O D F) S.value (lines (drop S.behind.at text)) S.behind in
      all_drawn T O D F S
      (root_taken n m at line text (figures_of (header T O D F S)) S.behind S.early (sym (ap (λ (r : reading.Read). r.answer) same) ∙ S.taken))

  framing_drawn : (T : FrameRead) (O : OverheadRead T) (D : InterruptRead T O) → FramingRead T O D → DrawnBy text
  unfolding strict_line
  framing_drawn T O D F =
      let same = reads_meant 3 (strict_behind T O D) F.value (lines (drop F.behind.at text)) F.behind in
      strict_drawn T O D F
      (optional_taken n m at line numberless text strict_word (λ x. 0) F.behind (λ x. root_behind T O D F true) (root_behind T O D F false) F.early
      (sym (ap (λ (r : reading.Read). r.answer) same) ∙ F.taken))

  interrupt_drawn : (T : FrameRead) (O : OverheadRead T) → InterruptRead T O → DrawnBy text
  unfolding framing_line
  interrupt_drawn T O D = framing_drawn T O D (optional_taken n m at line number text framing_word _ D.behind _ _ D.early D.taken)

  overhead_drawn : (T : FrameRead) → OverheadRead T → DrawnBy text
  unfolding interrupt_line
  overhead_drawn T O = interrupt_drawn T O (figure_taken n m at line text interrupt_word _ _ O.behind _ O.early O.taken)

  frame_drawn : FrameRead → DrawnBy text
  unfolding overhead_line
  frame_drawn T = overhead_drawn T (figure_taken n m at line text overhead_word _ _ T.behind _ T.early T.taken)

  pub taken_drawn : (reading.reading text).answer ≡ Taken n m at line → DrawnBy text
  unfolding reading.reading frame_line
  taken_drawn t = frame_drawn (figure_taken n m at line text frame_word _ _ start _ (omega arith) t)
