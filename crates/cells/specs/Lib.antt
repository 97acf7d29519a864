-- The cascade as a table of cells: what stands where, the hub that the cells are, and what each call leaves. Read them in this order.
pub mod Layout
pub mod Decode
pub mod Masks
pub mod Waits
pub mod Build
pub mod Frames
pub mod Sought
pub mod Instants
pub mod Turns
pub mod Fresh
pub mod Step
pub mod Calls
pub mod Run
pub mod Looks
pub mod Written
