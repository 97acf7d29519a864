-- Laws that serve the proofs of the functions: of the offers of a table, and of their answers.
pub mod Laws
