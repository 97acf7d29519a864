-- What the functions' proofs cite.
pub mod Reclassing
pub mod Sums
pub mod Ending
pub mod Starting
