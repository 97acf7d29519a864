-- `text_run::events` meets its contract: each turn is a pass on the line that the reader hands out at its place.
-- Assumes nothing.
use mathlib.Core.Path.{ap, ◌∙◌}
use Rattle.reader.specs.declared.Reader.{Reader}
use Rattle.text_run.proofs.RunState.{whole_run, stops, ends, goes, falls, on_line, same_end}
use Rattle.text_run.proofs.events.Goals as goal

pub returns-in_err-z : goal.returns-in_err-z
returns-in_err-z c =
    let a = c.args in
    let t = c.loop-z in
    let l = c.next-l in
    let w = c.line_of in
    let whole = whole_run a.write a.p.now a.text.now a.place a.line a.s.now a.buffer.now a.at in
    let p = on_line a.write a.p.now a.text.now t.s t.buffer w.new.s w.new.buffer t.z t.lines l.result.bytes.now l.result.number l.result.ended
    t.invariant.1 l.ensures.0.0 l.ensures.1 l.ensures.2 c.in_err-z.ensures in
    let ran = stops a.write a.p.now a.text.now whole t.lines.at t.lines.number t.s t.buffer t.z t.invariant.0 w.new.s w.new.buffer p in
    (c.from_residual.ensures ∙ ran.0, ran.1)

pub returns-then-not-l : goal.returns-then-not-l
returns-then-not-l c =
    let a = c.args in
    let t = c.loop-z in
    let l = c.next-l in
    let w = c.line_of in
    let whole = whole_run a.write a.p.now a.text.now a.place a.line a.s.now a.buffer.now a.at in
    let p = on_line a.write a.p.now a.text.now t.s t.buffer w.new.s w.new.buffer t.z t.lines l.result.bytes.now l.result.number l.result.ended
    t.invariant.1 l.ensures.0.0 l.ensures.1 l.ensures.2 c.in_ok-z.ensures in
    let e = same_end a.write a.p.now a.text.now t.lines t.invariant.1 l.ensures.2 c.if-not-l.true in
    ends a.write a.p.now a.text.now whole t.lines.at t.lines.number t.s t.buffer t.z t.invariant.0 w.new.s w.new.buffer e p

pub loop-z-smaller : goal.loop-z-smaller
loop-z-smaller c =
    let a = c.args in
    let t = c.loop-z in
    let l = c.next-l in
    let w = c.line_of in
    let whole = whole_run a.write a.p.now a.text.now a.place a.line a.s.now a.buffer.now a.at in
    let e = same_end a.write a.p.now a.text.now t.lines t.invariant.1 l.ensures.2 c.if-not-l.false in
    rw (l.ensures.3, t.invariant.1) (falls a.write a.p.now a.text.now whole t.lines.at t.lines.number t.s t.buffer t.z t.invariant.0 w.new.s w.new.buffer e)

pub loop-z-preserved : goal.loop-z-preserved
loop-z-preserved c =
    let a = c.args in
    let t = c.loop-z in
    let l = c.next-l in
    let w = c.line_of in
    let whole = whole_run a.write a.p.now a.text.now a.place a.line a.s.now a.buffer.now a.at in
    let p = on_line a.write a.p.now a.text.now t.s t.buffer w.new.s w.new.buffer t.z t.lines l.result.bytes.now l.result.number l.result.ended
    t.invariant.1 l.ensures.0.0 l.ensures.1 l.ensures.2 c.in_ok-z.ensures in
    let e = same_end a.write a.p.now a.text.now t.lines t.invariant.1 l.ensures.2 c.if-not-l.false in (
      rw (l.ensures.3, t.invariant.1) (goes a.write a.p.now a.text.now whole t.lines.at t.lines.number t.s t.buffer t.z t.invariant.0 w.new.s w.new.buffer e c.in_ok-z.z p),
      ap (λ (r : Reader). r.text.now) l.ensures.3 ∙ t.invariant.1,
    )
