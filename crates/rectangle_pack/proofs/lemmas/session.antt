-- Sessions. Read Keeps first: what is always true of a session, call by call. The main lemma is in Transitions: each transition keeps it. Promise adds what the
-- headline says of packings. Packing has what a packing is answered, by what was done on the bins.
-- Records has the list of the outstanding placements. Upkeep has what the calls that stand beside the commands keep, Growing
-- bins that grow, PlacingAt boxes at a corner of the caller's choice, PlacingBest boxes where they fit best, Recutting bins
-- that are cut anew, CutsStay that they stay so until they are coalesced, Releasing placements that are released at once,
-- and ReleasedNumbers their numbers. Fitting and FittingBest have packings of what fits, Told packings as they are told, and
-- Searched those that are searched for.
pub mod Keeps
pub mod Numbering
pub mod Records
pub mod Transitions
pub mod Growing
pub mod Packing
pub mod Stats
pub mod Promise
pub mod Best
pub mod Upkeep
pub mod PlacingAt
pub mod ReleasedNumbers
pub mod Releasing
pub mod Recutting
pub mod PlacingBest
pub mod CutsStay
pub mod Fitting
pub mod FittingBest
pub mod Told
pub mod Searched
pub mod Restoring
