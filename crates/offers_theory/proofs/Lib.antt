-- Many offers in one pass: each is the single call's, their order doesn't matter, and lists may hold them. Read them in this order.
pub mod Single
pub mod Order
pub mod AtClock
pub mod Offering
pub mod Worked
