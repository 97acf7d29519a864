-- The demands twice: Promises has them of the cascade of `rules`, Demands of the entry points, whose cells are that cascade.
pub mod Promises
pub mod Demands
