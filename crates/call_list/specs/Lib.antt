pub mod Table
pub mod Promise
