-- Of the definitions of specs/ alone. RowNumbers: the number of a refusal over the cells.
-- Within: what stands for a number that the table has cells for, and for any other one.
pub mod RowNumbers
pub mod Within
