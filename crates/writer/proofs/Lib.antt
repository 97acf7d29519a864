-- Laws about what is written, for later crates: Writes. Spaced serves the proofs here.
pub mod Writes
mod Spaced
