-- The header's functions meet their contracts, and `read` reads what reading line by line reads.
--
-- The folders that are named as functions have these functions' proofs. PlanLaws has the laws that they cite, a case of
-- the definition each. Reading: the readers that the code follows read what `specs/Reading` reads in document 01's words.
pub mod Reading
pub mod PlanLaws
