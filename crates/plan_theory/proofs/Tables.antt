-- The tables of a tree within the limits are a plan as `rules` asks for it (`Drawn`).
--
-- The reader fills cells as it goes; a theorem wants facts about the table at the end. So the argument is not carried along
-- with the filling: Regions names the cells that a filling may still touch, Puts says what each store leaves, Filling that
-- everything else stays, and Shown that what stands in the final table shows the tree, each port in the cells of its number.
-- From then on nothing is filled: Above counts the nodes in line order above a port, Parts says of an interval of numbers what
-- is wanted of the whole, Facts reads it off a shown tree, part by part. Heads has the figures. Drawn joins them, and StrictAlone
-- compares the tables of two headers.
pub mod Room
pub mod Regions
pub mod Puts
pub mod Filling
pub mod Shown
pub mod Above
pub mod Parts
pub mod Facts
pub mod Heads
pub mod Drawn
pub mod StrictAlone
