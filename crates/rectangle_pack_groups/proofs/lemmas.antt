-- Lemmas by subject, each subject after those that it stands on.
pub mod multimap
pub mod groups
