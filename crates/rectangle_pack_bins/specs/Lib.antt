pub mod Pushes
pub mod GrownBins
pub mod PlacedAt
pub mod BestFit
pub mod private
