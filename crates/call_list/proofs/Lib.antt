-- What a list of calls does and promises.
pub mod Numbers
pub mod Tables
pub mod Listing
pub mod Waiting
pub mod Promising
pub mod Loops
pub mod Making
