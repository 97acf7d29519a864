pub mod Kept
pub mod Waits
pub mod Written
pub mod WrittenRuns
