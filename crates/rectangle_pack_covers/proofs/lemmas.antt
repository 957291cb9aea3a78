-- Lemmas of boxes that cover bins.
pub mod Covers
pub mod StraightCuts
