-- The laws that the proofs of `ports` share. Callers' proofs cite `Laws`, `Summaries`, `Answers`, `Coding` and `Digits`.
pub mod Bits
pub mod Coding
pub mod Pointing
pub mod Changing
pub mod Answers
pub mod Laws
pub mod Searching
pub mod Summaries
pub mod Digits
