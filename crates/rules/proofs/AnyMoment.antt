-- Any moment (request 5 of document 02): a high request put up at any time and kept standing has its turn within a known time.
--
-- Put up at t it has its turn by t + D + the cost of one packet of each other node with a reservation.
-- The argument is demand 3's for one packet, but it may cross a frame's start, where the core counts grants anew. So a
-- table of this proof's own counts each other node's high grants from the request on, and none of them comes above one
-- (Waiting). A later high request of k in place of the first has another length, which row 16 bounds; nothing else looks
-- at the length. Serving: one more call leaves k waiting, with that table still right, or grants it, in time. Undisturbed
-- carries the conditions (the stand isn't broken, no change of the reservations comes into force) to each place.
-- Theorem is the induction, for every machine that follows the flat rule, and of hub-by-hub control. WorkedWaits
-- computes waits that are just as long, and what becomes of the limit where a condition isn't kept.
pub mod Waiting
pub mod Serving
pub mod Undisturbed
pub mod Theorem
pub mod WorkedWaits
