-- Bins: SoundBins is for pushes, Growing for bins that grow, Trials for trials in one bin, Maps for bins in their map, RoundABox
-- for a box at a corner of the caller's choice, BestFits for a box where it fits best.
pub mod SoundBins
pub mod Growing
pub mod Trials
pub mod Maps
pub mod RoundABox
pub mod BestFits
