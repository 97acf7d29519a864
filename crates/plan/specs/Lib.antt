-- "The plan" of document 01 with the framing of document 02, and the plan rows of the table, as definitions. Read them in this order.
pub mod Words
pub mod Tables
pub mod Answer
pub mod Reading
pub mod PlanReader
pub mod Header
pub mod AsBefore
