-- Wrote and PutSame serve the proofs here; Samples are lines by computing.
pub mod Wrote
mod PutSame
mod Samples
