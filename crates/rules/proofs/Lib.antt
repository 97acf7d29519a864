-- The theorems about the rules, in folders by what they prove. Each folder's
-- own file, beside it, says how its argument goes and in which order to read.
-- Laws serves all. Flat says what it is to follow the flat rule, Core what holds at every place of a run,
-- whatever machine gives the turns. Control shows that hub-by-hub control follows the flat rule; Travel and Looks go
-- on from there. Demand3 and Promised are proved over Flat and Core, of every machine that follows the flat rule,
-- and AnyMoment uses some of Demand3; what they say of hub-by-hub control then is one citation of Control.
-- Strict compares runs under the two defaults of request 8, and cites Demand3 and AnyMoment for both.
-- Waits, over Core, says that the times recorded for request 1 are those that the calls and answers tell.
pub mod Laws
pub mod Flat
pub mod Core
pub mod Control
pub mod Travel
pub mod Looks
pub mod Demand3
pub mod AnyMoment
pub mod Promised
pub mod Strict
pub mod Waits
