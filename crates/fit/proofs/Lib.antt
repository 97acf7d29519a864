-- Laws that serve the proofs of the functions: what the two searches find, how one pass finds a release, and which change is named.
pub mod Largest
pub mod Cheapest
pub mod OnePass
pub mod Named
