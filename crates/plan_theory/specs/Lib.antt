-- What a plan's tree is and how it is drawn, and the words of the theorems about reading. Read them in this order.
pub mod Tree
pub mod Behind
pub mod Taken
pub mod First
