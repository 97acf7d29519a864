-- What holds of reading a plan, in folders by what they prove; each folder's own file, beside it, says how its argument goes.
--
-- Tree: a text is taken just where it draws a tree. Tables: that tree's tables are what `rules` asks of a plan.
-- TakenPlan joins the two: all that later crates need of a taken plan. First: a refused plan is decided by the first line from
-- above to which a row applies, and by that line's first row. Samples: document 01's plan, read by computing.
pub mod Tree
pub mod Tables
pub mod TakenPlan
pub mod First
pub mod Samples
