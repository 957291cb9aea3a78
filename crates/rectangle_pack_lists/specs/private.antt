-- Definitions that only the clauses of functions below `rectangle_pack` use, or of its private ones.
pub mod Corners
pub mod Notes
pub mod Settling
pub mod GapBits
pub mod Places
pub mod Summaries
pub mod FreeLists
