-- Hub-by-hub control gives the flat hub's turns, within the move limit, and never in more moves than the old rule 2 took.
--
-- Nodes are numbered in line order, so each port and each hub covers an interval of nodes (Intervals), and
-- a hub sees a request at a port just where some node of its interval counts (Cover). The pointers of one
-- class, read from the root down the marked line, say where in 1 to N the search stands (Pointers).
-- One look (Steps) passes an interval in which nothing counts, or goes into one in which something does; the flat rule's
-- choice stays the same meanwhile (Choosing), so the walk lands on the flat hub's node (Landing). It goes down the marked
-- line, up it, and from the root down afresh (Fresh): three parts of at most L - 1 moves each (Levels, Walk), and before
-- them control may have gone up. Where it turns before the root, the search stands as from there (Nearest).
-- FollowsFlat puts it together as `Follows`, with the limit; EveryList carries it over every list of calls.
-- Twins, Fewer and Saving: the walk from where control turns takes at most the moves of the walk from the root (request 4 of document 02).
pub mod Intervals
pub mod Cover
pub mod Pointers
pub mod Steps
pub mod Choosing
pub mod Landing
pub mod Levels
pub mod Fresh
pub mod Walk
pub mod Nearest
pub mod FollowsFlat
pub mod EveryList
pub mod Twins
pub mod Fewer
pub mod Saving
