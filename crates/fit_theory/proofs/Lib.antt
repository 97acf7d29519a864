-- What would make it fit: by a room, by the rows of a reserve at the clock, and in lists with the six calls. Read them in this order.
pub mod ByRoom
pub mod Alone
pub mod Room
pub mod Rows
pub mod Smallest
pub mod Fitting
pub mod Worked
