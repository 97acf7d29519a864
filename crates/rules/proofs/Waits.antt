-- Log by waiting time (request 1 of document 02): what the watching state records is the time that the calls and answers alone tell.
--
-- SameRun: a watched run has the calls, the answers and the hub of the run that nobody watches, and a place of the one is a place
-- of the other. Marks ties a node's request by the words, in the core and in the record, in the manner of `Tells`: a high request
-- is kept by each frame's start so far, or a first one made it normal, and that start is its time. So what the words tell is what is
-- recorded, and a frame's start goes from the one to the other. Coming: so the clock's advance keeps it, since all starts on the way
-- find the same reservation in force, and no recorded time is behind the clock. OneCall: so does every call, by the way that it goes.
-- OneStart stands apart: while a request stands no move of the clock crosses two starts.
-- Theorem is the induction, and a grant's wait read off at the place before it. WorkedWaits computes lists of calls both ways.
pub mod SameRun
pub mod Marks
pub mod Coming
pub mod OneCall
pub mod OneStart
pub mod Theorem
pub mod WorkedWaits
