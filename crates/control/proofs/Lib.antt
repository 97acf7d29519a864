-- What each look and each walk leaves, a case a law. The functions' proofs cite these.
pub mod Looks
pub mod Walks
