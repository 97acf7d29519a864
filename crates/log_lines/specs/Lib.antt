-- Document 01, "The log": how much of a text is read, and the lines that are written.
pub mod Handed
pub mod FirstLine
pub mod Lines
