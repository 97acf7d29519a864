-- The core (clock, requests, line, reservations) at every place of a run, whatever machine gives the turns.
--
-- First, one call. RowsPassed: each row's test fails just where its rule holds. CallCases: a call goes in one of five ways, and each shows
-- what the hub was before; every later induction over calls goes by these five. RefusalNumbers: a refusal's number is from 11 to 17.
-- Acceptance: an event is taken just where no row refuses it.
-- Then what holds at every place. `Sound` (in Sound) says it of the core alone: reservations fit the frame,
-- no node has more high grants there than its n, requests are in range, and the line ends within a packet.
-- Instants, Requests, SoundChanges and ClockAdvance: each change keeps it. AlwaysSound: the induction.
-- `Told` (in Sound too) says that the words of demand 3, which are read off calls and answers, agree with
-- the core. WordsAndCore has the stronger form that each change keeps, OneMoreEntry what one more answer
-- makes of the words, AlwaysTold the induction; HighExactly has the other way for high requests.
-- Last, what a further call leaves alone: Stable (clock, reservations, past
-- frames), Places (each place is the end of an earlier run), EventChanges.
pub mod RowsPassed
pub mod CallCases
pub mod RefusalNumbers
pub mod Acceptance
pub mod Sound
pub mod Instants
pub mod Requests
pub mod SoundChanges
pub mod ClockAdvance
pub mod AlwaysSound
pub mod WordsAndCore
pub mod OneMoreEntry
pub mod AlwaysTold
pub mod HighExactly
pub mod Stable
pub mod Places
pub mod EventChanges
