-- What else is promised, and what the rules rule out.
--
-- Three short arguments, from the five ways of a call (Core.CallCases) and,
-- but for the first, from what holds at every place (Core.AlwaysSound).
-- Unchanged: a refusal, and a quiet step, leave the state as it was. Admission:
-- what was accepted fits the frame at every place, so 17 keeps its promise.
-- NoTimeLost: a step with a later bound handles the due instant, and where a request counts there it is a grant to one that counts.
-- (That an event is taken just where no row refuses it is Core.Acceptance, since the others need it.)
-- Slips and TurningSlips: each wrong hub of "Slips of the turn list", and each wrong way to turn, is told from the
-- right one by a worked run; and what the wrong hubs are made with is the right hub where nothing is got wrong.
-- Rejected: each hub that document 01 wants rejected, nearest first, is told from the right one by a worked run
-- on which demand 2 fails of it; of the quiet hub, the resting one and the one that repeats a node demand 3 fails too.
pub mod Unchanged
pub mod Admission
pub mod NoTimeLost
pub mod Slips
pub mod TurningSlips
pub mod Rejected
