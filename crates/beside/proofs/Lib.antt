-- Every list with calls beside the hub is, for the hub, the list of its projection.
pub mod Projection
pub mod SameHub
pub mod Continued
pub mod Both
pub mod Question
pub mod RowsBehind
pub mod Run
pub mod Bell
