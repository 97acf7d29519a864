-- The flat rule, and what it means to follow it.
--
-- Document 01 says the turns once, for one flat hub, and a second time hub by hub. All that is promised of turns
-- (demand 3, no time lost, admission) is proved for neither of them but for every turn machine that follows the
-- flat rule: its states are tied to the flat hub's two pointers, and it grants the node that the flat hub grants
-- (`Follows`). The flat hub follows it at once; for hub-by-hub control that is the work of the folder Control.
--
-- InTurn has the flat rule's choice: the first counting node from the pointer on, or else the first of all. Turns: the node granted is one
-- of 1 to N that counts, and the pointers stay within 1 to N. Agree: two machines that give the same turn answer a call alike but for moves
-- and leave the same core; and over every list of calls a machine that follows the flat rule gives the flat hub's answers but for moves.
pub mod InTurn
pub mod Follows
pub mod Turns
pub mod Agree
