-- What the contracts of `ports` cite: sets of ports, the mask that codes one, and the search in one.
pub mod Ports
pub mod Mask
pub mod Search
