-- Every plan text that is taken, and every list of the six calls from its fresh table, meets the demands. First the cascade of `rules`
-- does (Promises). Then of the cells: a refusal changes none (Unchanged), and a list of calls that keeps
-- the contracts is the run over them (Sequence). So the entry points do (Demands).
pub mod Plans
pub mod Promises
pub mod Unchanged
pub mod Sequence
pub mod Demands
