pub mod LineReader
pub mod HandsOut
