-- The due instant as far as a bound asks for it.
pub mod Bound
