-- The hub reader agrees with reading line by line: what it stops at is refused there, and what it reads is gone over by `hub_lines` too.
-- Assumes nothing.
use Prim.Native.Nat.{ℕ, zero, suc, ◌+◌, ◌-◌, ◌≤◌, ◌<◌}
use mathlib.Core.Path.{◌≡◌, refl, sym, ◌∙◌}
use mathlib.Core.Bool.{Bool, true, false, ◌||◌}
use mathlib.Core.List.{List, [], ◌∷◌}
use native.Mathlib.Omega.{arith}
use borrow.Author.Tests.{eqb-true, eqb-false, le-leb, lt-leb}
use lib.Dec.{eqb, leb}
use lib.ListN.{length, drop, drop_of_length-le}
use Rattle.std.specs.Prelude.{if◌then◌else◌}
use Rattle.rules.specs.Plan.{most_hubs, most_ports, most_levels}
use Rattle.text.specs.Line.{Lines, nothing, unended, ended, lines, next_number, hand_out, next_line}
use Rattle.text.specs.Part.{part}
use Rattle.text.specs.declared.Cursor.{Cursor}
use Rattle.text.proofs.Lines.{scanned_line}
use Rattle.plan_tree.specs.declared.Kind.{Kind}
use Rattle.plan_tree.specs.declared.Kind.TheVariants.{Close, Node, Empty, Hub, Other}
use Rattle.plan.specs.Answer.{Taken}
use Rattle.plan_tree.specs.declared.Place.{Place}
use Rattle.plan_tree.specs.Part.{Part, Read, Stopped}
use Rattle.plan_tree.specs.Kind.{kind_of}
use Rattle.plan_tree.specs.Tables.{put_empty, put_node, put_hub, put_ports}
use Rattle.plan.specs.Tables.{Figures, put_figures}
use Rattle.plan.specs.Reading as reading
use Rattle.plan.specs.Reading.{Open, Progress, hub_lines, passes, by_kind, refusal, next}
use Rattle.plan_tree.specs.Readers.{Answered, stop, read, cursor, moved, with_node, with_hub, behind_port, on_kind, on_next, hub_reader}
use Rattle.plan.specs.PlanReader.{refused}

-- the first line at a cursor, by its bytes, and the lines behind it
pub record First (text : List ℕ) (c : Cursor) (l : List ℕ) (rest : Lines) : Type 0 where
  pub bytes : part text c.at (c.at + length l) ≡ l
  pub behind : lines (drop (c.at + length l + 1) text) ≡ rest
  pub inside : c.at + length l + 1 ≤ length text

pub first : (text : List ℕ) (c : Cursor) (l : List ℕ) (rest : Lines) → lines (drop c.at text) ≡ ended l rest → First text c l rest
unfolding next_line hand_out
first text c l rest e =
    let f = scanned_line text c c.at (c.at + length l) c.number (next c l) (rw e) in
    let same : ended (part text c.at (c.at + length l)) (lines (drop (c.at + length l + 1) text)) ≡ ended l rest = sym f.first ∙ e in
    record { bytes = cc; behind = cc; inside = f.inside }

module _ (fig : Figures) (text : List ℕ) where
  -- hub o is being read inside the hubs os, up to place x
  abbrev pub progress : Open → List Open → Place → List ℕ → Progress
  progress o os x t = record { inner = o; outer = os; nodes = x.nodes; hubs = x.hubs; tables = t }

  -- a hub inside the hubs os was read up to place y, its last line being line k: its parent goes on there, or the plan is over
  abbrev pub going : List Open → ℕ → Place → List ℕ → reading.Read
  going [] k y t =
      if eqb y.nodes 0 then refused k 3
      else
      (record {
        answer = Taken y.nodes y.hubs y.at y.number;
        tables = put_figures fig y.nodes y.hubs t;
      })
  going (o ∷ os) k y t = hub_lines fig (lines (drop y.at text)) (cursor y) (progress o os y t)

  abbrev pub over : List Open → ℕ → Part → List ℕ → reading.Read
  over os k (Read y) t = going os k y t
  over os k (Stopped line number) t = refused line number

  -- behind place `at` the hub was read up to y, and line k is the one before y
  pub record Onward (at : ℕ) (y : Place) (k : ℕ) : Type 0 where
    pub further : at < y.at
    pub inside : y.at ≤ length text
    pub early : y.number ≤ y.at
    pub counted : next_number k ≡ y.number
    pub low : k < y.at

  abbrev pub Moves : ℕ → Part → ℕ → Type 0
  Moves at (Read y) k = Onward at y k
  Moves at (Stopped line number) k = Unit {0}

  -- reading r of the lines at place `at`, within a hub inside os, is what the reader's answer d says
  pub record Agrees (os : List Open) (at : ℕ) (r : reading.Read) (d : Answered) : Type 0 where
    pub last : ℕ
    pub same : r ≡ over os last d.part d.tables
    pub moves : Moves at d.part last

  moves_from : (at y k : ℕ) (p : Part) → at < y → Moves y p k → Moves at p k
  moves_from at y k (Read z) h m =
      record { further = omega arith; inside = m.inside; early = m.early; counted = m.counted; low = m.low }
  moves_from at y k (Stopped line number) h m = tt

  stopped : (os : List Open) (at line number : ℕ) (t : List ℕ) → Agrees os at (refused line number) (stop line number t)
  stopped os at line number t = record { last = 0; same = refl; moves = tt }

  module _ (os : List Open) (at : ℕ) where
    -- from a later place on
    later : (y : ℕ) (r : reading.Read) (d : Answered) → at < y → Agrees os y r d → Agrees os at r d
    later y r d h a = record { last = a.last; same = a.same; moves = moves_from at y a.last d.part h a.moves }

    -- a test that both make; w is what is done behind it
    guarded : (w : Answered → Answered) (b : Bool) (line : ℕ) (t : List ℕ) (r : reading.Read) (d : Answered)
        → Agrees os at (refused line 3) (w (stop line 3 t)) → (b ≡ false → Agrees os at r (w d))
        → Agrees os at (if b then refused line 3 else r) (w (if b then stop line 3 t else d))
    guarded w true line t r d over a = over
    guarded w false line t r d over a = a refl

    -- a hub within hub o, and then the ports of o behind it
    behind_hub : (more : Place → List ℕ → Answered) (o : Open) (r : reading.Read) (p : Part) (t : List ℕ) → Agrees (o ∷ os) at r (record { part = p; tables = t })
        → ((y : Place) (k : ℕ) → Onward at y k
        → Agrees os y.at (hub_lines fig (lines (drop y.at text)) (cursor y) (progress o os y t)) (more y t))
        → Agrees os at r (behind_port more (record { part = p; tables = t }))
    behind_hub more o r (Read y) t a b =
        let m = b y a.last a.moves in
        later y.at r (more y t) a.moves.further (record { last = m.last; same = a.same ∙ m.same; moves = m.moves })
    behind_hub more o r (Stopped line number) t a b = record { last = 0; same = a.same; moves = tt }

  abbrev open_at : ℕ → ℕ → Open
  open_at g q = record { hub = g; ports = q }

  -- the hub reader agrees, where no more than `left` lines are left
  abbrev pub Agreeing : ℕ → Type 0
  Agreeing left =
      (x : Place) (g q : ℕ) (os : List Open) (levels : ℕ) (t : List ℕ)
      → length text ≤ left + x.at → x.number ≤ x.at → length os + levels ≡ 4
      → Agrees os x.at (hub_lines fig (lines (drop x.at text)) (cursor x) (progress (open_at g q) os x t)) (hub_reader text left x g q levels t)

  -- a hub may open here: `levels` counts what `outer` leaves
  level_test : (n levels : ℕ) → n + levels ≡ 4 → leb most_levels (n + 1) ≡ eqb levels 0
  level_test n levels h = go (eqb levels 0) refl
    where
      go : (b : Bool) → eqb levels 0 ≡ b → leb most_levels (n + 1) ≡ b
      go true e = let z = eqb-true levels 0 e in le-leb most_levels (n + 1) (omega arith)
      go false e = let z = eqb-false levels 0 e in lt-leb most_levels (n + 1) (omega arith)

  -- one line of a hub, of each kind
  module _
      (left : ℕ) (ih : Agreeing left) (x : Place) (g q : ℕ) (os : List Open) (levels : ℕ) (t : List ℕ) (enough : length text ≤ suc left + x.at)
      (early : x.number ≤ x.at) (deep : length os + levels ≡ 4) (l : List ℕ) (rest : Lines) (f : First text (cursor x) l rest)
    where
      abbrev here : Progress
      here = progress (open_at g q) os x t

      abbrev behind : Place
      behind = moved (next (cursor x) l) x

      abbrev inner : Place → ℕ → ℕ → List ℕ → Answered
      inner = λ y h below u. hub_reader text left y h 0 below u

      abbrev more : Place → List ℕ → Answered
      more = λ y u. hub_reader text left y g (q + 1) levels u

      behind_moves : Onward x.at behind x.number
      behind_moves = record { further = omega arith; inside = f.inside; early = omega arith; counted = refl; low = omega arith }

      -- what is read behind the line, where the line adds a port
      added : (nodes hubs h p : ℕ) (outer : List Open) (below : ℕ) (u : List ℕ) → length outer + below ≡ 4
          → Agrees outer x.at (hub_lines fig rest (next (cursor x) l) (record { inner = open_at h p; outer = outer; nodes = nodes; hubs = hubs; tables = u }))
          (hub_reader text left (record { at = behind.at; number = behind.number; nodes = nodes; hubs = hubs }) h p below u)
      added nodes hubs h p outer below u e =
          let y : Place = record { at = behind.at; number = behind.number; nodes = nodes; hubs = hubs } in
          let a = ih y h p outer below u (omega arith) (omega arith) e in
          later outer x.at y.at _ _ (omega arith) (rw (← f.behind) a)

      closing : (outer : List Open)
          → Agrees outer x.at
          (reading.closed fig outer (λ s. hub_lines fig rest (next (cursor x) l) s) (cursor x) l (progress (open_at g q) outer x t))
          (read behind (put_ports g q t))
      closing [] = record { last = x.number; same = refl; moves = behind_moves }
      closing (o ∷ outer) = record { last = x.number; same = rw f.behind; moves = behind_moves }

      levels_left : (a b : Bool) → (a || b || eqb levels 0) ≡ false → 1 ≤ levels
      levels_left false false e = let z = eqb-false levels 0 e in omega arith
      levels_left true b e = let z : ◌≡◌ {A = ℕ} 0 1 = cc in absurd (omega arith)
      levels_left false true e = let z : ◌≡◌ {A = ℕ} 0 1 = cc in absurd (omega arith)

      -- a hub within this one, and then the ports behind it
      opened : 1 ≤ levels
          → Agrees os x.at (hub_lines fig rest (next (cursor x) l) (reading.open_hub here))
          (behind_port more (inner (with_hub behind) (x.hubs + 1) (levels - 1) (put_hub g (q + 1) (x.hubs + 1) (most_levels + 1 - levels) t)))
      opened some =
          let level : most_levels + 1 - levels ≡ length os + 2 = omega arith in
          let u : List ℕ = put_hub g (q + 1) (x.hubs + 1) (length os + 2) t in
          let d : Answered = inner (with_hub behind) (x.hubs + 1) (levels - 1) u in
          rw level
          (behind_hub os x.at more (open_at g (q + 1)) _ d.part d.tables
          (added x.nodes (x.hubs + 1) (x.hubs + 1) 0 (open_at g (q + 1) ∷ os) (levels - 1) u (omega arith))
          (λ y k m. ih y g (q + 1) os levels d.tables (omega arith) m.early deep))

      by_kind_lem : (kind : Kind)
          → Agrees os x.at (if passes kind here then refusal (cursor x) 3 else by_kind fig kind (λ s. hub_lines fig rest (next (cursor x) l) s) (cursor x) l here)
          (on_kind inner more kind x.number behind g q levels t)
      by_kind_lem Close = guarded os x.at (λ d. d) (eqb q 0) x.number t _ _ (stopped os x.at x.number 3 t) (λ e. closing os)
      by_kind_lem Node =
          guarded os x.at (behind_port more) (leb most_ports q || leb 256 x.nodes) x.number t _
          (read (with_node behind) (put_node g (q + 1) (x.nodes + 1) t))
          (stopped os x.at x.number 3 t)
          (λ e. added (x.nodes + 1) x.hubs g (q + 1) os levels (put_node g (q + 1) (x.nodes + 1) t) deep)
      by_kind_lem Empty =
          guarded os x.at (behind_port more) (leb most_ports q) x.number t _ (read behind (put_empty g (q + 1) t))
          (stopped os x.at x.number 3 t)
          (λ e. added x.nodes x.hubs g (q + 1) os levels (put_empty g (q + 1) t) deep)
      by_kind_lem Hub =
          rw (level_test (length os) levels deep)
          (guarded os x.at (behind_port more) (leb most_ports q || leb most_hubs x.hubs || eqb levels 0) x.number t _ _
          (stopped os x.at x.number 3 t)
          (λ e. opened (levels_left (leb most_ports q) (leb most_hubs x.hubs) e)))
      by_kind_lem Other = stopped os x.at x.number 1 t

  line_agrees : (left : ℕ) → Agreeing left → (x : Place) (g q : ℕ) (os : List Open) (levels : ℕ) (t : List ℕ)
      → length text ≤ suc left + x.at → x.number ≤ x.at → length os + levels ≡ 4 → (ls : Lines) → lines (drop x.at text) ≡ ls
      → Agrees os x.at (hub_lines fig ls (cursor x) (progress (open_at g q) os x t))
      (on_next text (λ y h below u. hub_reader text left y h 0 below u) (λ y u. hub_reader text left y g (q + 1) levels u) (hand_out (cursor x) ls) x g q levels t)
  unfolding hub_lines hand_out
  line_agrees left ih x g q os levels t enough early deep nothing e = stopped os x.at x.number 1 t
  line_agrees left ih x g q os levels t enough early deep (unended l) e = stopped os x.at x.number 1 t
  line_agrees left ih x g q os levels t enough early deep (ended l rest) e =
      let f = first text (cursor x) l rest e in
      rw f.bytes (by_kind_lem left ih x g q os levels t enough early deep l rest f (kind_of l))

  pub hub_agrees : (left : ℕ) → Agreeing left
  unfolding hub_reader next_line
  hub_agrees zero x g q os levels t enough early deep =
      rw (drop_of_length-le text {i = x.at} (omega arith)) (unfold lines hub_lines in stopped os x.at x.number 1 t)
  hub_agrees (suc left) x g q os levels t enough early deep =
      line_agrees left (hub_agrees left) x g q os levels t enough early deep (lines (drop x.at text)) refl
