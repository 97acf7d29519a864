-- Two ways to read a plan, and that they are one.
--
-- `specs/Reading` reads a plan line by line, in document 01's words: that is what a reader of this must believe. The code goes another way:
-- a hub reader and a port reader that call each other over the scanner (`plan_tree`, `specs/Readers`). Agree: what the hub
-- reader stops at is refused there line by line too, and what it reads is gone over line by line. PlanBy carries that over
-- the header to the whole plan. AsBefore: a text without a line `(strict)` is read as before request 8, and one without a
-- framing line either as document 01 alone has it.
pub mod Agree
pub mod PlanBy
pub mod AsBefore
