-- What `line_of` cites besides `log_spec`.
pub mod LineRun
