pub mod Covers
pub mod CoverTexts
pub mod StraightCuts
