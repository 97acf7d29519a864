-- What holds of many offers in one pass. Read them in this order.
pub mod Single
pub mod Order
pub mod Offering
pub mod Worked
