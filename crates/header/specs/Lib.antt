-- The lines in front of a plan's ports, each by itself, at a cursor.
pub mod Figure
pub mod Lines
