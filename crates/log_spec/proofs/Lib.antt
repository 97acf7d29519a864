-- The theorems: Sample (document 01's example by computing), RunLogged (a pass over the lent tables writes or
-- measures the log, and leaves the watched hub behind the last event), AtOnce (lines one by one are their bytes at once),
-- NoStepLeft (no step is left out), NeverTwelve (no event of any text meets 12), LogWaits (the wait on each grant's line is told by
-- the calls and answers before it), LogLength (no log has more than 18 × 65,536 bytes). Writing, Leading, StepsLogged and EventsLogged
-- serve the second; Reached serves NeverTwelve and LogWaits, and RefusedLines serves NeverTwelve; LineLengths, PutAside, EventsPaid
-- and EventsPlace serve the last, and RefusedPlan serves it and NeverTwelve.
pub mod Sample
pub mod Writing
pub mod Leading
pub mod StepsLogged
pub mod EventsLogged
pub mod RunLogged
pub mod AtOnce
pub mod NoStepLeft
pub mod LineLengths
pub mod PutAside
pub mod EventsPlace
pub mod RefusedPlan
pub mod RefusedLines
pub mod Reached
pub mod NeverTwelve
pub mod LogWaits
pub mod EventsPaid
pub mod LogLength
