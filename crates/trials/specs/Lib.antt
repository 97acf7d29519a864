-- Document 01, "Trial cases": the rows marked M, its example run and some short runs of the vectors as one
-- table; the worked runs of request 13, waits of request 5 and lists of demand 3. Read them in this order.
pub mod Text
pub mod Row
pub mod Plans
pub mod Cases
pub mod Runs
pub mod Table
pub mod Travel
pub mod AnyMoment
pub mod Demand3Tests
pub mod Demand3Runs
pub mod StaysNormal
