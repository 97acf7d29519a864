-- Laws that serve the proofs of the functions here and of those that stand on them: of the first row
-- that applies, of a call's rows and what a call keeps that none of them refuses, and of the reservation in force.
pub mod FirstRow
pub mod CallRows
pub mod InForce
