pub mod ReadInto
