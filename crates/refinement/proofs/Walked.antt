-- The walk over the cells is rules' walk. Read in this order; `Chosen` has the theorem.
pub mod Pointers
pub mod Looks
pub mod Steps
pub mod Frame
pub mod Walk
pub mod Keeping
pub mod Settled
pub mod Nearest
pub mod Chosen
