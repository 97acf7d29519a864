-- The tree's functions meet their contracts. The folders are named as the functions are; Cited has the laws that their proofs cite.
pub mod Cited
