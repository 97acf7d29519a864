-- A text is taken just where it starts with the drawing of a tree within the limits, and then for that tree.
--
-- `specs/Tree` says what a tree is, how it is drawn and what its limits are;
-- `plan`'s `specs/Reading` reads lines and knows of no tree. Both ways between them:
-- DrawnTaken: the drawing of every tree within the limits is taken for that tree. Room says what
-- the limits leave port by port, since the reader meets them one port at a time; Count, that
-- lines, nodes and hubs are counted as the reader counts; Figures, Optional and Drawn read the drawing:
-- the header's figures, a line of it that may be missing, and the tree.
-- TakenDrawn: what is taken is such a drawing. Trees builds the tree from what the hub reader has read.
-- OneTree: no text draws two headers or two trees, so "that tree" means one. Taken says all of it in one statement.
pub mod Room
pub mod Figures
pub mod Optional
pub mod Count
pub mod Drawn
pub mod DrawnTaken
pub mod Trees
pub mod TakenDrawn
pub mod OneTree
pub mod Taken
pub mod Strictness
