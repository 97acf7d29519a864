-- Demand 3: a node k with n reserved packets in frame f whose request stands
-- gets exactly n high grants in f, the nth ending within the delay limit.
--
-- While k's high request counts, an instant is due and class high is sought (Standing). From f's start on the line is busy at most
-- for D, a packet in progress, and for the high grants made since (`reach` in Fair; LineWhileWaiting). Turns go round (Ahead): no
-- other node has two high grants more than k, nor one more while it lies ahead of k (Fair). So at k's nth grant node j has had at
-- most min(n, n of j), the sum in the delay limit. InFrame: one turn more leaves k with more to come, or is its nth, in time.
-- GrantsSoFar says how far k has come: f is still to come, or k has fewer than n grants there, or all n, in
-- time. HighTurn, and OneCallWaiting, OneCallRunning and OneCallDone, one for each case: one more call keeps
-- it, whatever call it is; OneCall joins them, and shows that at the frame's end only the last is left.
-- FrameStart and UnbrokenFrom start the induction where the words "unbroken
-- from the frame's start" do. RunTo reads "run to the frame's end".
-- Theorem is the induction, for every machine that follows the flat rule; OfControl
-- has it of hub-by-hub control; Applies works out a list that it speaks of.
pub mod Standing
pub mod LineWhileWaiting
pub mod Ahead
pub mod Fair
pub mod InFrame
pub mod GrantsSoFar
pub mod HighTurn
pub mod OneCallWaiting
pub mod OneCallRunning
pub mod OneCallDone
pub mod OneCall
pub mod FrameStart
pub mod UnbrokenFrom
pub mod RunTo
pub mod Theorem
pub mod OfControl
pub mod Applies
