-- The worst case of a step: at most 4 × L - 1 looks at a hub.
--
-- A walk that has as many looks as it needs makes no more of them if it is given more (Enough). It lands with 3 × L less the level
-- of the hub where it starts (Control's Walk), so it makes no more than that; before it at most as many as the holder's level to
-- find where control turns (Calls). WorkedLooks computes calls that make just as many.
pub mod Enough
pub mod Calls
pub mod WorkedLooks
