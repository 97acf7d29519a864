-- What the functions' proofs cite.
pub mod Counting
pub mod Pointing
pub mod MendLaws
pub mod NodeLaws
