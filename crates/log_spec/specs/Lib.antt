-- Document 01, "The log": the run over one text. `Log` is what a reader has to believe, `NeverTwelve` what is said of its events,
-- and `LogWaits` what is said of its waits; `Cells` is the same run over the lent tables, and `Left` what it leaves there.
pub mod Log
pub mod NeverTwelve
pub mod LogWaits
pub mod Cells
pub mod Left
