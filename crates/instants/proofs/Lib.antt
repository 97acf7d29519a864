-- Laws of the due instant before a bound, for the proofs of the functions and of their callers.
pub mod Bounded
