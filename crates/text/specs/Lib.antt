-- What a reader of `text` has to believe: the definitions that its contracts cite, one idea a file.
pub mod Part
pub mod Line
pub mod Number
pub mod Word
pub mod Form
