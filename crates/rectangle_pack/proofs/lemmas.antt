-- Lemmas by subject, each subject after those that it stands on.
pub mod bound
pub mod searching
pub mod session
