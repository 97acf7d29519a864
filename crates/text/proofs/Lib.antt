-- Laws about the definitions of specs/, in a file for each: Parts, Lines,
-- Words, Numbers (with Digits) and Forms are what later crates cite.
-- The other files serve the proofs of this crate's functions.
pub mod Parts
pub mod Lines
pub mod Words
pub mod Digits
pub mod Numbers
pub mod Forms
mod Plain
mod Run
mod Answer
mod Reading
