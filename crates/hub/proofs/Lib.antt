-- Laws that serve the proofs of the functions: of what a call leaves, and of a request's cell.
pub mod CallLaws
pub mod RequestBits
