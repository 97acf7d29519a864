pub mod Table
pub mod Travel
pub mod AnyMoment
pub mod Demand3Tests
pub mod Demand3Runs
pub mod StaysNormal
