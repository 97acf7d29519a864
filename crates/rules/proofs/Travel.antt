-- A round's travel (request 13 of document 02): how often control passes between hubs in a run of grants of one class.
--
-- A look from a pointer without mark resumes no hub, and the next look is from such a pointer again (Looks).
-- So from one return of the root's pointer to the next, control goes down into a hub at most once and up out
-- of it at most once: a table counts the passings of each hub, none of them above two (Rounds).
-- A walk keeps to that, each move being one passing more; at a return the table starts anew (WalkInRound). Returns:
-- the pointer returns just where the node granted doesn't stand behind the search, so the nodes in the log tell the
-- returns. OneMoreTurn puts these together for one grant, EveryRun for every list of calls: at most 2 × (H - 1) × (w +
-- 1) moves behind the first grant. WorkedRuns computes runs that travel just as far, and some that are no runs.
pub mod Looks
pub mod Rounds
pub mod WalkInRound
pub mod Returns
pub mod OneMoreTurn
pub mod EveryRun
pub mod WorkedRuns
