-- `event_lines::event_at` meets its contract, by the laws of EventLaws: behind each word the numbers that
-- were read, or none. Assumes nothing.
use mathlib.Core.Path.{◌∙◌}
use Rattle.event_lines.proofs.EventLaws.{event_normal, event_high, event_off, event_reserve, event_until, event_none}
use Rattle.event_lines.proofs.event_at.Goals as goal

pub returns-in_err-t : goal.returns-in_err-t
returns-in_err-t c = c.from_residual.ensures ∙ event_normal c.args.line.now c.in-Some.ensures.cases c.in_err-t.ensures

pub returns-in-Some : goal.returns-in-Some
returns-in-Some c = event_normal c.args.line.now c.in-Some.ensures.cases c.in_ok-t.ensures

pub returns-in_err-t-2 : goal.returns-in_err-t-2
returns-in_err-t-2 c = c.from_residual-in_err-t-2.ensures ∙ event_high c.args.line.now c.in-Some-strip_prefix.ensures.cases c.in_err-t-2.ensures

pub returns-in-Some-strip_prefix : goal.returns-in-Some-strip_prefix
returns-in-Some-strip_prefix c = event_high c.args.line.now c.in-Some-strip_prefix.ensures.cases c.in_ok-t-2.ensures

pub returns-in_err-t-3 : goal.returns-in_err-t-3
returns-in_err-t-3 c = c.from_residual-in_err-t-3.ensures ∙ event_off c.args.line.now c.in-Some-strip_prefix-2.ensures.cases c.in_err-t-3.ensures

pub returns-in-Some-strip_prefix-2 : goal.returns-in-Some-strip_prefix-2
returns-in-Some-strip_prefix-2 c = event_off c.args.line.now c.in-Some-strip_prefix-2.ensures.cases c.in_ok-t-3.ensures

pub returns-in_err-t-4 : goal.returns-in_err-t-4
returns-in_err-t-4 c = c.from_residual-in_err-t-4.ensures ∙ event_reserve c.args.line.now c.in-Some-strip_prefix-3.ensures.cases c.in_err-t-4.ensures

pub returns-in-Some-strip_prefix-3 : goal.returns-in-Some-strip_prefix-3
returns-in-Some-strip_prefix-3 c = event_reserve c.args.line.now c.in-Some-strip_prefix-3.ensures.cases c.in_ok-t-4.ensures

pub returns-in_err-t-5 : goal.returns-in_err-t-5
returns-in_err-t-5 c = c.from_residual-in_err-t-5.ensures ∙ event_until c.args.line.now c.in-Some-strip_prefix-4.ensures.cases c.in_err-t-5.ensures

pub returns-in-Some-strip_prefix-4 : goal.returns-in-Some-strip_prefix-4
returns-in-Some-strip_prefix-4 c = event_until c.args.line.now c.in-Some-strip_prefix-4.ensures.cases c.in_ok-t-5.ensures

pub returns : goal.returns
returns c =
    event_none c.args.line.now c.in_default.ensures.cases c.in_default-strip_prefix.ensures.cases c.in_default-strip_prefix-2.ensures.cases
    c.in_default-strip_prefix-3.ensures.cases c.in_default-strip_prefix-4.ensures.cases
