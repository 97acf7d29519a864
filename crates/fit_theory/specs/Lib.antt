-- What holds of the change that would make an offer fit. Read them in this order.
pub mod Changes
pub mod ByRoom
pub mod Smallest
pub mod Fitting
pub mod Worked
