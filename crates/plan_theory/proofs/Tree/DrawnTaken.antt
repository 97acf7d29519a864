-- The drawing of every tree within the limits, behind a good header,
-- is taken for that very tree, whatever follows it. Assumes nothing.
use Prim.Native.Nat.{ℕ, ◌+◌, ◌≤◌}
use mathlib.Core.Path.{◌≡◌, refl, sym, ap, ◌∙◌, subst}
use mathlib.Core.Bool.{Bool, true, false}
use mathlib.Core.List.{List, []}
use native.Mathlib.Omega.{arith}
use Rattle.rules.specs.Plan.{longest_in}
use Rattle.rules.proofs.Laws.Lengths.{longest_low}
use Rattle.text.specs.Line.{Lines, ended, lines}
use Rattle.text.specs.Word.{is_word}
use Rattle.text.specs.declared.Cursor.{Cursor}
use Rattle.plan_tree.specs.Kind.{kind_of, hub_word}
use Rattle.plan.specs.Words.{frame_word, overhead_word, interrupt_word, framing_word, strict_word}
use Rattle.plan_tree.specs.Tables.{no_table, put_root}
use Rattle.plan.specs.Tables.{Figures, plan_of}
use Rattle.plan.specs.Reading.{Read, next, framing_row, root_line, strict_line, framing_line, interrupt_line, overhead_line, frame_line, reading}
use Rattle.plan_theory.specs.Tree.{Header, figures_of, meant, no_number, draw_optional, Hub, draw, draw_hub, nodes_in, hubs_in, limits, good_figures, good_framing, Filled, filled, tables_of}
use Rattle.plan_theory.specs.Behind.{past_interrupt, past_framing, past_figures, past}
use Rattle.plan_theory.specs.Taken.{FiguresTold, HubTold, TakenFor}
use Rattle.plan_theory.proofs.Tables.Drawn.{figures_are, ports_are}
use Rattle.plan_theory.proofs.Tree.Room.{limits_room}
use Rattle.plan_theory.proofs.Tree.Count.{nodes_in_lem, hubs_in_lem, count_lines, behind-draw}
use Rattle.plan_theory.proofs.Tree.Drawn.{shut, hub_drawn}
use Rattle.plan_theory.proofs.Tree.Figures.{good_ranges, framing_small, no_row, figure_drawn}
use Rattle.plan_theory.proofs.Tree.Optional.{number, numberless, hub_not_framing, hub_not_strict, strict_not_framing, optional_drawn, small_numberless, row_numberless, reads_stands, small_meant, row_meant, reads_meant}

module _
    (fig : Header) (h : Hub) (rest : Lines) (good : good_figures (figures_of fig) ≡ true) (framed : good_framing (figures_of fig) ≡ true) (within : limits h ≡ true)
  where
    abbrev meaning : ℕ → Bool → Figures
    meaning = λ framing strict. record { frame = fig.frame; overhead = fig.overhead; interrupt = fig.interrupt; framing = framing; strict = strict }

    reading_drawn : (text : List ℕ) → lines text ≡ draw fig h rest → reading text ≡ shut (figures_of fig) [] rest (past fig h) (filled h)
    unfolding reading frame_line overhead_line interrupt_line framing_line strict_line root_line draw past past_figures past_framing past_interrupt kind_of is_word
    reading_drawn text e =
        let r = good_ranges (figures_of fig) good in
        let l = limits_room h within in
        let s : Filled = record { nodes = 0; hubs = 1; tables = put_root no_table } in
        let low : longest_in 3 + fig.overhead ≤ fig.interrupt = omega (arith, r.interrupt_low, longest_low (figures_of fig).framing) in
        let row : ℕ → ℕ = framing_row fig.overhead fig.interrupt in
        let F : ℕ = meant 3 fig.framing in
        let more : ℕ → Lines → Cursor → Read = λ x ls c. strict_line fig.frame fig.overhead fig.interrupt x ls c in
        let root : Bool → Lines → Cursor → Read = λ strict ls c. root_line (meaning F strict) ls c in
        let tree : Lines = ended hub_word (draw_hub h rest) in
        let behind : Lines = draw_optional strict_word no_number fig.strict tree in
        let free : row 3 ≡ 0 = no_row (meaning 3 false) (unfold good_framing in refl) low in
        ap (λ (ls : Lines). frame_line ls (record { at = 0; number = 1 })) e
        ∙ figure_drawn frame_word fig.frame 100000 4000000 _ _ r.frame_low r.frame_high (omega (arith, r))
        ∙ figure_drawn overhead_word fig.overhead 0 50000 _ _ (omega arith) r.overhead_high (omega (arith, r))
        ∙ figure_drawn interrupt_word fig.interrupt (longest_in 3 + fig.overhead) fig.frame _ _ low r.interrupt_high (omega (arith, r))
        ∙ optional_drawn number framing_word row more (more 3) fig.framing behind (past_interrupt fig)
        (strict_not_framing fig.strict tree (hub_not_framing (draw_hub h rest))) (small_meant 3 fig.framing (framing_small (figures_of fig) framed))
        ((row_meant 3 row free fig.framing).1 (no_row (figures_of fig) framed r.interrupt_low))
        ∙ reads_meant 3 more fig.framing behind (past_framing fig)
        ∙ optional_drawn numberless strict_word (λ x. 0) (λ x. root true) (root false) fig.strict tree (past_framing fig)
        (hub_not_strict (draw_hub h rest)) (small_numberless fig.strict) (row_numberless fig.strict)
        ∙ reads_stands root fig.strict tree (past_figures fig)
        ∙ hub_drawn (figures_of fig) h (record { hub = 1; ports = 0 }) [] 1 s (next (past_figures fig) hub_word) rest refl l.0 (omega (arith, l.1))

    pub drawn_taken : (text : List ℕ) → lines text ≡ draw fig h rest → TakenFor text fig h rest
    unfolding tables_of
    drawn_taken text e =
        let s : Filled = record { nodes = 0; hubs = 1; tables = put_root no_table } in
        let n : (filled h).nodes ≡ nodes_in h = omega (arith, nodes_in_lem h 1 0 1 s) in
        let m : (filled h).hubs ≡ hubs_in h = omega (arith, hubs_in_lem h 1 0 1 s) in
        let t = reading_drawn text e in
        let c : (reading text).tables ≡ tables_of (figures_of fig) h = ap (λ (r : Read). r.tables) t in
        record {
          answer = ap (λ (r : Read). r.answer) t ∙ rw (n, m);
          tables = c;
          figures = subst (λ (cells : List ℕ). FiguresTold (plan_of cells) (figures_of fig)) (sym c) (figures_are (figures_of fig) h);
          ports = subst (λ (cells : List ℕ). HubTold (plan_of cells) h 1 0 0 1) (sym c) (ports_are (figures_of fig) h (limits_room h within).0);
          behind = behind-draw text fig h rest e;
          number = λ few. omega (arith, count_lines fig h);
        }
