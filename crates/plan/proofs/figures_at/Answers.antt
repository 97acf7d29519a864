-- `figures_at` meets its contract, by the laws of PlanLaws: one a line.
use native.Mathlib.Omega.{arith}
use Prim.Native.Nat.{ℕ, ◌+◌}
use mathlib.Core.Path.{◌≡◌, sym, ◌∙◌}
use borrow.Author.Rules.{rules}
use lib.ListN.{length}
use Rattle.std.specs.Option.{option_map_or}
use Rattle.text.specs.declared.Cursor.{Cursor}
use Rattle.header.specs.Lines.{optional_at}
use Rattle.header.proofs.LineLaws.{figure_range}
use Rattle.plan.specs.Words.{frame_word, overhead_word, interrupt_word, framing_word}
use Rattle.plan.proofs.PlanLaws.{header_refused, framing_range, by_frame, by_overhead, by_interrupt, by_framing, by_strict}
use Rattle.plan.proofs.figures_at.Goals as goal

pub returns-in_err-frame : goal.returns-in_err-frame
returns-in_err-frame c =
    let text = c.args.text.now in
    by_frame text (length text) c.first_line.result c.first_line.ensures c.in_err-frame.ensures ∙ header_refused _ _ _ _ c.from_residual.ensures.1

pub returns-in_err-overhead : goal.returns-in_err-overhead
returns-in_err-overhead c =
    let text = c.args.text.now in
    let frame = c.in_ok-frame in
    by_overhead text (length text) c.first_line.result c.first_line.ensures frame.frame frame.c frame.ensures c.in_err-overhead.ensures
    ∙ header_refused _ _ _ _ c.from_residual-in_err-overhead.ensures.1

pub overflow_add-overhead : goal.overflow_add-overhead
overflow_add-overhead c =
    let overhead = c.in_ok-overhead in
    let r = figure_range 0 50000 overhead.overhead overhead.c c.args.text.now c.in_ok-frame.c overhead_word (sym overhead.ensures) in
    omega arith

pub returns-in_err-interrupt : goal.returns-in_err-interrupt
returns-in_err-interrupt c =
    let text = c.args.text.now in
    let frame = c.in_ok-frame in
    let overhead = c.in_ok-overhead in
    by_interrupt text (length text) c.first_line.result c.first_line.ensures frame.frame frame.c frame.ensures overhead.overhead overhead.c overhead.ensures c.in_err-interrupt.ensures
    ∙ header_refused _ _ _ _ c.from_residual-in_err-interrupt.ensures.1

pub framing_at-requires : goal.framing_at-requires
framing_at-requires c =
    let overhead = c.in_ok-overhead in
    let r = figure_range 0 50000 overhead.overhead overhead.c c.args.text.now c.in_ok-frame.c overhead_word (sym overhead.ensures) in
    omega arith

pub returns-in_err-framing : goal.returns-in_err-framing
returns-in_err-framing c =
    let text = c.args.text.now in
    let frame = c.in_ok-frame in
    let overhead = c.in_ok-overhead in
    let interrupt = c.in_ok-interrupt in
    by_framing text (length text) c.first_line.result c.first_line.ensures frame.frame frame.c frame.ensures overhead.overhead overhead.c overhead.ensures interrupt.interrupt interrupt.c interrupt.ensures c.in_err-framing.ensures
    ∙ header_refused _ _ _ _ c.from_residual-in_err-framing.ensures.1

pub invariant_of-figures : goal.invariant_of-figures
invariant_of-figures c =
    let text = c.args.text.now in
    let frame = c.in_ok-frame in
    let overhead = c.in_ok-overhead in
    let interrupt = c.in_ok-interrupt in
    let framing = c.in_ok-framing in
    let t = figure_range 100000 4000000 frame.frame frame.c text c.first_line.result frame_word (sym frame.ensures) in
    let o = figure_range 0 50000 overhead.overhead overhead.c text frame.c overhead_word (sym overhead.ensures) in
    let d = figure_range (12000 + overhead.overhead) frame.frame interrupt.interrupt interrupt.c text overhead.c interrupt_word (sym interrupt.ensures) in
    let f = framing_range (optional_at text interrupt.c framing_word 1) interrupt.c overhead.overhead interrupt.interrupt framing.framing framing.c framing.ensures in
    record { in_range = (omega arith, omega arith, omega arith, f) }

pub returns : goal.returns
returns c =
    let text = c.args.text.now in
    let frame = c.in_ok-frame in
    let overhead = c.in_ok-overhead in
    let interrupt = c.in_ok-interrupt in
    let framing = c.in_ok-framing in
    let next : c.map_or.result ≡ option_map_or (λ (x : ℕ × Cursor). x.1) c.optional_at-strict.result framing.c = search rules in
    by_framing text (length text) c.first_line.result c.first_line.ensures frame.frame frame.c frame.ensures overhead.overhead overhead.c overhead.ensures interrupt.interrupt interrupt.c interrupt.ensures framing.ensures
    ∙ by_strict text (length text) frame.frame overhead.overhead interrupt.interrupt framing.framing framing.c c.optional_at-strict.ensures c.is_some.ensures next
