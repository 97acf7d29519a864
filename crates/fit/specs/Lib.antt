-- Request 10 of document 02: what would make it fit.
pub mod Change
pub mod Fit
