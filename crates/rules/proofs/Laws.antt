-- Laws of passes and sums: what every other folder counts with. Nothing here knows of hubs, classes or times but Lengths and Frames.
--
-- The rules are said with four passes over the numbers 1 to n: is there one (`any`), which is the first (`first`), how much
-- are they together (`sum`), and the same table with one value changed (`put`). So a proof about a grant is a proof about
-- one changed value: what did the pass find before, and what does it find now? Passes has that, once for all tables.
-- Sums goes on where the values are costs of which each node has used a part:
-- one more use adds one cost, and a share that isn't spent leaves room for it.
-- Lengths has the bounds of the longest packet. Frames turns "t lies in frame f" into f × T ≤ t < (f + 1) × T and back.
-- Clash has the last line of a case that can't be, and Rows puts the rows of a worked table together.
pub mod Clash
pub mod Rows
pub mod Passes
pub mod Sums
pub mod Lengths
pub mod Frames
