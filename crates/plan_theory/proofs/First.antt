-- "The first line from above, then the first row, decides", of every refused plan.
--
-- `specs/First` says by drawings which row applies to a line. Reading goes line by line, and so does the argument.
-- Places: the plans that can still be drawn from a place on, and how a line ties those of one place to those of the next.
-- Deciding: what decides behind a line decides in front of it too. Tails: the plans at a line of a hub form, and which of
-- them fit. HubLines: the lines of hub forms. FormLines: a line of the header, which is a form, and one that may be missing; so the
-- plans at a place are those with the line and those without it. Root: the root's `(hub`, and `(strict)`, which may stand before it.
-- Header: the three figures and the framing. Theorem: the plans of the first line are the drawings. NoRow: no row applies to any
-- line of a text that is taken.
pub mod Places
pub mod Deciding
pub mod Tails
pub mod HubLines
pub mod FormLines
pub mod Root
pub mod Header
pub mod Theorem
pub mod NoRow
