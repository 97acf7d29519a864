-- A reservation's rows without its time.
pub mod Share
