-- A plan is read line by line: the first line from above, then the first row, decides. Rows 1 to 4 of the table.
use Rattle.std.specs.Prelude.{ℕ, ◌+◌, Bool, true, false, ◌&&◌, ◌||◌, not, List, [], ◌∷◌, eqb, leb, ltb, length, get_or, if◌then◌else◌}
use Rattle.std.proofs.Math.Option.{Option, none, some}
use Rattle.rules.specs.Plan.{longest_in, most_hubs, most_ports, most_nodes, most_levels}
use Rattle.text.specs.Line.{Lines, nothing, unended, ended, lines, next_number}
use Rattle.text.specs.Form.{read_form}
use Rattle.text.specs.declared.Cursor.{Cursor}
use Rattle.plan_tree.specs.declared.Kind.{Kind}
use Rattle.plan_tree.specs.declared.Kind.TheVariants.{Close, Node, Empty, Hub, Other}
use Rattle.plan.specs.Answer.{Answer, Taken, Refused}
use Rattle.plan_tree.specs.Kind.{kind_of, is_hub}
use Rattle.plan.specs.Words.{frame_word, overhead_word, interrupt_word, framing_word, strict_word}
use Rattle.plan_tree.specs.Tables.{no_table, put_empty, put_node, put_hub, put_ports, put_root}
use Rattle.plan.specs.Tables.{Figures, put_figures}

-- the answer, and the tables where the plan is taken
pub record Read : Type 0 where
  pub answer : Answer
  pub tables : List ℕ

abbrev pub refusal : Cursor → ℕ → Read
refusal c number = record { answer = Refused c.number number; tables = [] }

-- the lent tables afterwards: a refused plan leaves them as they were
abbrev pub leaves : Read → List ℕ → List ℕ
leaves r s = elim r.answer [ Taken nodes hubs at line ↦ r.tables | Refused line number ↦ s ]

-- where the line behind line l at c starts, and its number
abbrev pub next : Cursor → List ℕ → Cursor
next c l = record { at = c.at + length l + 1; number = next_number c.number }

-- a line is read by what is to be done with it; a missing LF, and a text that ends early (line after the last), are 1
abbrev pub on_line : Lines → Cursor → (List ℕ → Lines → Read) → Read
on_line nothing c read = refusal c 1
on_line (unended l) c read = refusal c 1
on_line (ended l rest) c read = read l rest

-- a hub whose form is open, and how many ports it has so far
pub record Open : Type 0 where
  pub hub : ℕ
  pub ports : ℕ

-- the hub being read, the hubs around it from the inside out, the nodes and hubs so far, and their tables
pub record Progress : Type 0 where
  pub inner : Open
  pub outer : List Open
  pub nodes : ℕ
  pub hubs : ℕ
  pub tables : List ℕ

-- one more port of the hub being read
abbrev pub one_more : Open → Open
one_more o = record { hub = o.hub; ports = o.ports + 1 }

-- row 3: one more port of this kind passes a limit of the tree, or a `)` closes a hub without ports
abbrev pub passes : Kind → Progress → Bool
passes Close s = eqb s.inner.ports 0
passes Node s = leb most_ports s.inner.ports || leb most_nodes s.nodes
passes Empty s = leb most_ports s.inner.ports
passes Hub s = leb most_ports s.inner.ports || leb most_hubs s.hubs || leb most_levels (length s.outer + 1)
passes Other s = false

abbrev pub add_node : Progress → Progress
add_node s =
    let o = one_more s.inner in
    record {
      inner = o;
      outer = s.outer;
      nodes = s.nodes + 1;
      hubs = s.hubs;
      tables = put_node o.hub o.ports (s.nodes + 1) s.tables;
    }

abbrev pub add_empty : Progress → Progress
add_empty s =
    let o = one_more s.inner in
    record {
      inner = o;
      outer = s.outer;
      nodes = s.nodes;
      hubs = s.hubs;
      tables = put_empty o.hub o.ports s.tables;
    }

-- a hub form opens at the next port: its level is one more than the hubs around the present one and that one
abbrev pub open_hub : Progress → Progress
open_hub s =
    let o = one_more s.inner in
    record {
      inner = record { hub = s.hubs + 1; ports = 0 };
      outer = o ∷ s.outer;
      nodes = s.nodes;
      hubs = s.hubs + 1;
      tables = put_hub o.hub o.ports (s.hubs + 1) (length s.outer + 2) s.tables;
    }

-- the hub being read is closed, inside hub o
abbrev pub close_hub : Open → List Open → Progress → Progress
close_hub o os s =
    record {
      inner = o;
      outer = os;
      nodes = s.nodes;
      hubs = s.hubs;
      tables = put_ports s.inner.hub s.inner.ports s.tables;
    }

-- the root is closed: the whole plan without a node is 3, else it is taken, and the events start behind this line
abbrev pub close_root : Figures → Cursor → List ℕ → Progress → Read
close_root fig c l s =
    if eqb s.nodes 0 then refusal c 3 else
    (record {
      answer = Taken s.nodes s.hubs (next c l).at (next c l).number;
      tables =
          put_figures fig s.nodes s.hubs
          (put_ports s.inner.hub s.inner.ports s.tables);
    })

module _ (fig : Figures) where
  -- a hub is closed: the root, or one inside hub o; `more` reads the rest
  abbrev pub closed : List Open → (Progress → Read) → Cursor → List ℕ → Progress → Read
  closed [] more c l s = close_root fig c l s
  closed (o ∷ os) more c l s = more (close_hub o os s)

  -- what a line of each kind does; one of no kind is not the form allowed here, row 1
  abbrev pub by_kind : Kind → (Progress → Read) → Cursor → List ℕ → Progress → Read
  by_kind Close more c l s = closed s.outer more c l s
  by_kind Node more c l s = more (add_node s)
  by_kind Empty more c l s = more (add_empty s)
  by_kind Hub more c l s = more (open_hub s)
  by_kind Other more c l s = refusal c 1

  -- the lines of a hub form behind `(hub`
  unfoldable pub hub_lines : Lines → Cursor → Progress → Read
  hub_lines nothing c s = refusal c 1
  hub_lines (unended l) c s = refusal c 1
  hub_lines (ended l rest) c s =
      if passes (kind_of l) s then refusal c 3
      else by_kind (kind_of l) (λ s'. hub_lines rest (next c l) s') c l s

-- before any port line: hub 1 is open
abbrev pub begun : Progress
begun = record { inner = record { hub = 1; ports = 0 }; outer = []; nodes = 0; hubs = 1; tables = put_root no_table }

-- the line `(hub` of the root
unfoldable pub root_line : Figures → Lines → Cursor → Read
root_line fig ls c = on_line ls c (λ l rest. if is_hub (kind_of l) then hub_lines fig rest (next c l) begun else refusal c 1)

-- a figure's line: its form, row 1, then its range, row 2; `more` reads the rest
abbrev pub figure : Option (List ℕ) → ℕ → ℕ → Cursor → (ℕ → Read) → Read
figure none low high c more = refusal c 1
figure (some ns) low high c more =
    let x = get_or ns 0 0 in
    if leb low x && leb x high then more x else refusal c 2

-- A line that may stand here or not: where it is the form of this word with so many numbers, `says` reads on with its
-- number (0 where it has none); else the header goes on with the next line's form at this line.
abbrev pub where_form : Option (List ℕ) → (ℕ → Read) → Read → Read
where_form none says absent = absent
where_form (some ns) says absent = says (get_or ns 0 0)

abbrev pub optional : List ℕ → ℕ → Lines → (List ℕ → Lines → ℕ → Read) → Read → Read
optional word count nothing says absent = absent
optional word count (unended l) says absent = absent
optional word count (ended l rest) says absent = where_form (read_form word count l) (says l rest) absent

-- the line at c is refused by the row of this number; with 0 none refuses it, and `more` is what is read
abbrev pub unless_row : ℕ → Cursor → Read → Read
unless_row number c more = if eqb number 0 then more else refusal c number

-- the line `(strict)`, which has no number; without it the plan isn't strict
unfoldable pub strict_line : ℕ → ℕ → ℕ → ℕ → Lines → Cursor → Read
strict_line T O D framing ls c =
    optional strict_word 0 ls
    (λ l rest _. root_line (record { frame = T; overhead = O; interrupt = D; framing = framing; strict = true }) rest (next c l))
    (root_line (record { frame = T; overhead = O; interrupt = D; framing = framing; strict = false }) ls c)

-- 4: the framing is neither 3 nor 5; then 2: D is too small for it
abbrev pub framing_row : ℕ → ℕ → ℕ → ℕ
framing_row O D framing =
    if not (eqb framing 3 || eqb framing 5) then 4
    else (if ltb D (longest_in framing + O) then 2 else 0)

-- the framing's line, or without it framing 3
unfoldable pub framing_line : ℕ → ℕ → ℕ → Lines → Cursor → Read
framing_line T O D ls c =
    optional framing_word 1 ls
    (λ l rest framing. unless_row (framing_row O D framing) c (strict_line T O D framing rest (next c l)))
    (strict_line T O D 3 ls c)

-- D is 12,000 + O to T, 12,000 being the longest packet of framing 3
unfoldable pub interrupt_line : ℕ → ℕ → Lines → Cursor → Read
interrupt_line T O ls c =
    on_line ls c (λ l rest. figure (read_form interrupt_word 1 l) (longest_in 3 + O) T c (λ D. framing_line T O D rest (next c l)))

-- O is 0 to 50,000
unfoldable pub overhead_line : ℕ → Lines → Cursor → Read
overhead_line T ls c =
    on_line ls c (λ l rest. figure (read_form overhead_word 1 l) 0 50000 c (λ O. interrupt_line T O rest (next c l)))

-- T is 100,000 to 4,000,000
unfoldable pub frame_line : Lines → Cursor → Read
frame_line ls c =
    on_line ls c (λ l rest. figure (read_form frame_word 1 l) 100000 4000000 c (λ T. overhead_line T rest (next c l)))

-- the plan at the start of a text
unfoldable pub reading : List ℕ → Read
reading text = frame_line (lines text) (record { at = 0; number = 1 })
