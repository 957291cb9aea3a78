-- Lemmas of overlaps.
pub mod Parting
pub mod Piles
pub mod Places
