-- What holds of the header's lines: LineLaws, a law for each case, which the functions' proofs beside it cite.
pub mod LineLaws
