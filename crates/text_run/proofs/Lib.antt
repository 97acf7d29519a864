-- The laws that the functions' proofs cite. RunState serves the loop of `events`, and Front the programs.
mod WholeLaws
mod TwoPasses
mod PassLaws
mod RunState
pub mod Front
