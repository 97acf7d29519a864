-- The laws that the functions' proofs cite: how a run goes on behind another, the steps, an event, and a line.
pub mod Ran
mod StepLaws
mod EventLaws
pub mod LineLaws
