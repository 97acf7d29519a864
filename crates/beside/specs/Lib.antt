-- Calls beside the hub, which no turn looks at, in lists with the six calls. Read them in this order.
pub mod Beside
pub mod Extended
pub mod SameHub
pub mod Continued
pub mod Both
pub mod Question
pub mod Run
pub mod Bell
