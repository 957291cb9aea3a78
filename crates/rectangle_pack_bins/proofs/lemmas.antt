-- Lemmas by subject.
pub mod bins
