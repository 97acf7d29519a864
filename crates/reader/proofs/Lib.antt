-- Handed: laws of what a reader hands out. AllLines: call after call it hands out the text's lines.
pub mod Handed
pub mod AllLines
mod Samples
