-- Lemmas of the judge.
pub mod Excluded
pub mod Firsts
pub mod Apart
pub mod Verdicts
pub mod Alike
pub mod Numbers
