-- The looks of a call over the cells are those of `rules`.
--
-- Of any walk, look by look: the looks that it makes are the least number with which it grants a node (Least). The walk over the
-- cells and that of `rules` are such walks (Ways), and with any number of looks both grant the same node. So both make as many.
pub mod Least
pub mod Ways
pub mod Calls
