-- Laws that serve the proofs of the functions: of a reserve's rows, of reservations in cells, and of one sum for many offers.
pub mod ReserveRows
pub mod Shares
pub mod BySum
