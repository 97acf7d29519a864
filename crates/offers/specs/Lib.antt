-- Request 9 of document 02: many offers in one pass.
pub mod Offers
