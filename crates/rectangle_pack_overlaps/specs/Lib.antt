pub mod Overlaps
pub mod Places
pub mod private
