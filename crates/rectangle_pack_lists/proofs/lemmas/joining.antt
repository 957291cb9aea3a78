-- Joins of sections. Read Joins first: two that share a face, and what joining keeps. The main lemma is in Sweeps: a sweep leaves no two that share a face.
pub mod Joins
pub mod Sweeps
pub mod Corners
pub mod Names
pub mod Beside
pub mod InSlots
pub mod SweptSlots
