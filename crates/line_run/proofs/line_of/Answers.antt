-- `line_run::line_of` meets its contract, by the case. Assumes nothing.
use mathlib.Core.Path.{sym}
use borrow.Author.Tests.{eqb-true, eqb-false}
use Rattle.line_run.proofs.LineLaws.{line_event, line_no_event, line-none, line_unended}
use Rattle.line_run.proofs.line_of.Goals as goal

pub returns-in-Some : goal.returns-in-Some
returns-in-Some c =
    let a = c.args in
    let r = c.event_line.ensures in
    line_event a.write a.p.now a.number a.s.now a.buffer.now a.at a.bytes.now a.ended c.if-ended.true c.in-Some.e c.in-Some.ensures (r.value, (r.s_after, r.buffer_after))

pub returns-in-None : goal.returns-in-None
returns-in-None c =
    let a = c.args in
    let r = c.refused_line.ensures in
    line_no_event a.write a.p.now a.number a.s.now a.buffer.now a.at a.bytes.now a.ended c.if-ended.true c.in-None.ensures r.value r.buffer_after

pub returns-then-is_empty : goal.returns-then-is_empty
returns-then-is_empty c =
    let a = c.args in
    line-none a.write a.p.now a.number a.s.now a.buffer.now a.at a.bytes.now a.ended c.if-ended.false (eqb-true _ _ (sym c.if-is_empty.ensures))

pub returns : goal.returns
returns c =
    let a = c.args in
    let r = c.refused_line-2.ensures in
    line_unended a.write a.p.now a.number a.s.now a.buffer.now a.at a.bytes.now a.ended c.if-ended.false (eqb-false _ _ (sym c.if-is_empty.ensures)) r.value r.buffer_after
