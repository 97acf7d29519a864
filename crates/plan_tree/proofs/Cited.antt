-- Laws that the functions' proofs cite.
--
-- A case of the definition each, with what the code has tested there as premises, so that a function's proof is one
-- line a case. KindLaws and Tags: the kind of a line. ReaderLaws: one call of the hub reader.
pub mod KindLaws
pub mod Tags
pub mod ReaderLaws
