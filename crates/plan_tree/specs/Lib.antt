-- The lines of a plan's tree, its tables and its two readers, as definitions. Read them in this order.
pub mod Kind
pub mod Tables
pub mod Part
pub mod Readers
