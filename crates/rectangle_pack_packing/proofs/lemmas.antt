-- Lemmas by subject, each subject after those that it stands on.
pub mod bins
pub mod packing
pub mod determinism
pub mod best
