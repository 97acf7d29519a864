-- How many mask cells a call writes. A change at a node writes in each class at most one of each level, a removed
-- request in one class alone, and a frame's start so many for each hub and node (Counts). What a call's answer
-- tells of the clock and of the node (Told) says whether a frame starts in it, and that the node is one of the plan (Calls).
-- The counts are no less than the masks that change: a store changes at most one (Changed), and each count has
-- one for each store of its definition (Counted). Worked computes a list that writes as many as a call may.
pub mod Counts
pub mod Told
pub mod Changed
pub mod Counted
pub mod Calls
pub mod Worked
